-- The state, read as the table of the rules; the one state that a table stands for; and what the code gives of an outcome on tables.
use Rattle.std.specs.Prelude.{ℕ, List, [], map, Bool, false, cond, ◌&&◌, length}
use Rattle.std.proofs.Math.Option.{Option, none}
use Rattle.lists.specs.Defs.{padded}
use Rattle.values.specs.Limits.{max_paths_limit}
use Rattle.values.specs.Address.{pair_formed_of, zero_address}
use Rattle.values.specs.declared.address.Address.{Address}
use Rattle.values.specs.declared.address.FourTuple.{FourTuple}
use Rattle.values.specs.declared.answers.Flagged.{Flagged}
use Rattle.values.specs.declared.answers.Counted.{Counted}
use Rattle.values.specs.declared.answers.Numbered.{Numbered}
use Rattle.values.specs.declared.answers.Timed.{Timed}
use Rattle.values.specs.Answers.{counted_at, flagged_at, numbered_at, timed_at}
use Rattle.challenges.specs.Challenges.{spans_of}
use Rattle.paths_rules.specs.State.{Path}
use Rattle.paths_rules.specs.Path.{zero_path}
use Rattle.paths_rules.specs.Table.{Table, Answer, Out, Nothing, Inserted, Responded, Number, Flag, Maybe, Place, Whole, Found}
use Rattle.paths_rules.specs.Calls.{Call, step}
use Rattle.paths_state.specs.declared.state.Path as S
use Rattle.paths_state.specs.declared.state.Paths.{Paths}
use Rattle.paths_state.specs.Formed as F
use Rattle.path.specs.Reading.{path_view, path_of}
use Rattle.paths.specs.declared.answers.PathAnswer.{PathAnswer}
use Rattle.paths.specs.declared.answers.FoundAnswer.{FoundAnswer}
use Rattle.paths.specs.declared.answers.AddressAnswer.{AddressAnswer}
use Rattle.paths.specs.declared.answers.DoneOut.{DoneOut}
use Rattle.paths.specs.declared.answers.InsertedOut.{InsertedOut}
use Rattle.paths.specs.declared.answers.PoppedOut.{PoppedOut}
use Rattle.paths.specs.declared.answers.RespondedOut.{RespondedOut}

-- ---- reading

abbrev pub view : Paths → Table
view t = record { paths = map path_view (F.live t); limit = t.max_paths; factor = t.anti_ampl_factor; multipath = t.is_multipath; server = t.is_server }

-- ---- building: past the paths stand zero paths

-- a state with other paths
abbrev pub put_paths : List S.Path → ℕ → Paths → Paths
put_paths l n t = record { items = l; count = n; max_paths = t.max_paths; anti_ampl_factor = t.anti_ampl_factor; is_multipath = t.is_multipath; is_server = t.is_server }

abbrev pub paths_of : Table → Paths
paths_of v = record { items = padded max_paths_limit F.zero_path (map path_of v.paths); count = length v.paths; max_paths = v.limit; anti_ampl_factor = v.factor; is_multipath = v.multipath; is_server = v.server }

-- ---- the form of an optional pair: what is absent is zero

abbrev pub no_pair : FourTuple → Bool
no_pair p = F.no_address p.local && F.no_address p.remote

abbrev pub optional_pair : Bool → FourTuple → Bool
optional_pair has p = cond has (pair_formed_of p) (no_pair p)

-- ---- what an answer holds, part by part: a number, an optional number, a flag, an address, a path, spans

pub record Parts : Type 0 where
  pub number : ℕ
  pub perhaps : Option ℕ
  pub flag : Bool
  pub place : Address
  pub whole : Path
  pub spans : List ℕ

abbrev parts_at : ℕ → Option ℕ → Bool → Address → Path → List ℕ → Parts
parts_at n o b a x l = record { number = n; perhaps = o; flag = b; place = a; whole = x; spans = l }

abbrev pub parts_of : Answer → Parts
parts_of Nothing = parts_at 0 none false zero_address zero_path []
parts_of (Inserted i) = parts_at i none false zero_address zero_path []
parts_of (Responded b l) = parts_at 0 none b zero_address zero_path l
parts_of (Number n) = parts_at n none false zero_address zero_path []
parts_of (Flag b) = parts_at 0 none b zero_address zero_path []
parts_of (Maybe o) = parts_at 0 o false zero_address zero_path []
parts_of (Place a) = parts_at 0 none false a zero_path []
parts_of (Whole x) = parts_at 0 none false zero_address x []
parts_of (Found i x) = parts_at i none false zero_address x []

-- ---- the answers of calls that read, by refusal and part; beside a refusal every part is nothing

abbrev pub address_at : ℕ → Address → AddressAnswer
address_at refusal a = record { refusal = refusal; address = a }

abbrev pub path_answer_at : ℕ → Path → PathAnswer
path_answer_at refusal x = record { refusal = refusal; path = path_of x }

abbrev pub found_at : ℕ → ℕ → Path → FoundAnswer
found_at refusal i x = record { refusal = refusal; id = i; path = path_of x }

abbrev pub counted_of : Out → Counted
counted_of o = counted_at o.refusal (parts_of o.answer).number

abbrev pub flagged_of : Out → Flagged
flagged_of o = flagged_at o.refusal (parts_of o.answer).flag

abbrev pub numbered_of : Out → Numbered
numbered_of o = numbered_at o.refusal (parts_of o.answer).perhaps

abbrev pub timed_of : Out → Timed
timed_of o = timed_at o.refusal (parts_of o.answer).perhaps

abbrev pub address_of : Out → AddressAnswer
address_of o = address_at o.refusal (parts_of o.answer).place

abbrev pub path_answer_of : Out → PathAnswer
path_answer_of o = path_answer_at o.refusal (parts_of o.answer).whole

abbrev pub found_of : Out → FoundAnswer
found_of o = found_at o.refusal (parts_of o.answer).number (parts_of o.answer).whole

-- ---- the results of calls that change the state

abbrev pub done_at : ℕ → Paths → DoneOut
done_at refusal t = record { paths = t; answer = record { refusal = refusal } }

abbrev pub inserted_at : ℕ → ℕ → Paths → InsertedOut
inserted_at refusal n t = record { paths = t; answer = counted_at refusal n }

abbrev pub popped_at : ℕ → Option ℕ → Paths → PoppedOut
popped_at refusal o t = record { paths = t; answer = numbered_at refusal o }

abbrev pub responded_at : ℕ → Bool → List ℕ → Paths → RespondedOut
responded_at refusal b l t = record { paths = t; answer = record { refusal = refusal; yes = b; spans = spans_of l } }

abbrev pub done_of : Out → DoneOut
done_of o = done_at o.refusal (paths_of o.table)

abbrev pub inserted_of : Out → InsertedOut
inserted_of o = inserted_at o.refusal (parts_of o.answer).number (paths_of o.table)

abbrev pub popped_of : Out → PoppedOut
popped_of o = popped_at o.refusal (parts_of o.answer).perhaps (paths_of o.table)

abbrev pub responded_of : Out → RespondedOut
responded_of o = responded_at o.refusal (parts_of o.answer).flag (parts_of o.answer).spans (paths_of o.table)

-- ---- the published calls: 1 if the state or an argument has not its form, and the state is given back as it came

-- f: the arguments have their form
abbrev pub checked : {A : Type 0} → Paths → (f : Bool) → (x malformed : A) → A
checked t f x malformed = cond (F.well_formed t && f) x malformed

abbrev pub done_call : Paths → (f : Bool) → Call → DoneOut
done_call t f c = checked t f (done_of (step (view t) c)) (done_at 1 t)

abbrev pub inserted_call : Paths → (f : Bool) → Call → InsertedOut
inserted_call t f c = checked t f (inserted_of (step (view t) c)) (inserted_at 1 0 t)

abbrev pub popped_call : Paths → (f : Bool) → Call → PoppedOut
popped_call t f c = checked t f (popped_of (step (view t) c)) (popped_at 1 none t)

abbrev pub responded_call : Paths → (f : Bool) → Call → RespondedOut
responded_call t f c = checked t f (responded_of (step (view t) c)) (responded_at 1 false [] t)

abbrev pub counted_call : Paths → (f : Bool) → Call → Counted
counted_call t f c = checked t f (counted_of (step (view t) c)) (counted_at 1 0)

abbrev pub flagged_call : Paths → (f : Bool) → Call → Flagged
flagged_call t f c = checked t f (flagged_of (step (view t) c)) (flagged_at 1 false)

abbrev pub numbered_call : Paths → (f : Bool) → Call → Numbered
numbered_call t f c = checked t f (numbered_of (step (view t) c)) (numbered_at 1 none)

abbrev pub timed_call : Paths → (f : Bool) → Call → Timed
timed_call t f c = checked t f (timed_of (step (view t) c)) (timed_at 1 none)

abbrev pub address_call : Paths → (f : Bool) → Call → AddressAnswer
address_call t f c = checked t f (address_of (step (view t) c)) (address_at 1 zero_address)

abbrev pub path_call : Paths → (f : Bool) → Call → PathAnswer
path_call t f c = checked t f (path_answer_of (step (view t) c)) (path_answer_at 1 zero_path)

abbrev pub found_call : Paths → (f : Bool) → Call → FoundAnswer
found_call t f c = checked t f (found_of (step (view t) c)) (found_at 1 0 zero_path)
