-- What is promised of the code: of every published call, on any state and over any run of calls. This file is the statement, to be read alone; that all
-- of it holds is `held` in RunsProof.antt.
--
-- A CodeCall is a published call with the arguments that the code takes, of their form or not. `result s c` is what the call c returns on the state s: the
-- contracts of the crates by_value and vignorasc say so of the code. `made s c` is the state that is in it, or s where the call only reads, and `refusal s c`
-- its number. `calls s cs` is the state after the calls cs, one after the other, refused ones too. `view`, and `done_call` to `frame_call`, are of
-- Reading.antt; `well_formed` is of ids_state; `apply`, `run` and what is said of them are of ids_rules.
use Rattle.std.specs.Prelude.{ℕ, ◌≡◌, List, [], ◌∷◌, ◌++◌, map, Bool, true, false, cond, not, ◌&&◌, ◌||◌, eqb, leb, length, drop}
use Rattle.std.proofs.Math.Option.{Option, none, some}
use Rattle.lists.specs.Defs.{given, keep, any, all, has, maybe}
use Rattle.values.specs.Cid.{id_formed}
use Rattle.values.specs.Token.{token_formed_of, token_view}
use Rattle.values.specs.declared.token.Token.{Token}
use Rattle.values.specs.declared.token.ResetToken.{ResetToken}
use Rattle.values.specs.declared.answers.Flagged.{Flagged}
use Rattle.values.specs.declared.answers.Counted.{Counted}
use Rattle.values.specs.declared.answers.Numbered.{Numbered}
use Rattle.values.specs.declared.cid.ConnectionId.{ConnectionId}
use Rattle.values.specs.Answers.{counted_at, flagged_at, numbered_at}
use Rattle.ids_rules.specs.View.{Out}
use Rattle.ids_rules.specs.Steps.{fresh_formed}
use Rattle.ids_rules.specs.Calls.{Query, GetScid, GetDcid, FindScid, UnusedScids, UnusedDcids, LowestUnusedDcidSeq, NextScidToAdvertise, NextDcidToRetire, CreateNewConnectionIdFrame, NeedSendCidControlFrames, ZeroLengthScid, ZeroLengthDcid, ScidCount, ScidAt, DcidCount, DcidAt}
use Rattle.ids_rules.specs.Calls.{Call, Reply, query_formed, call_formed, apply, run}
use Rattle.ids_rules.specs.Promise.{Starts, counted, out, sequences, never_after}
use Rattle.tables.specs.Table.{live, at_least}
use Rattle.ids_state.specs.Formed.{well_formed}
use Rattle.ids_state.specs.declared.state.Ids.{Ids}
use Rattle.ids.specs.Reading.{view, path_formed_of, done_of, issued_of, freed_of, retired_of, counted_of, flagged_of, numbered_of, item_answer_of, found_answer_of, frame_of}
use Rattle.ids.specs.Reading.{done_at, issued_at, freed_at, retired_at, item_at_of, found_at, frame_at}
use Rattle.ids.specs.Reading.{done_call, issued_call, freed_call, retired_call, counted_call, flagged_call, numbered_call, item_call, found_call, frame_call, fresh_ids}
use Rattle.ids.specs.declared.answers.ItemAnswer.{ItemAnswer}
use Rattle.ids.specs.declared.answers.FoundAnswer.{FoundAnswer}
use Rattle.ids.specs.declared.answers.FrameAnswer.{FrameAnswer}
use Rattle.ids.specs.declared.answers.DoneOut.{DoneOut}
use Rattle.ids.specs.declared.answers.IssuedOut.{IssuedOut}
use Rattle.ids.specs.declared.answers.FreedOut.{FreedOut}
use Rattle.ids.specs.declared.answers.RetiredOut.{RetiredOut}
use Rattle.ids_rules.specs.Calls as C
use Rattle.ids_rules.specs.Promise as P

-- ---- the published calls: nine that change the state, sixteen that read it, and fresh

pub data CodeCall : Type 0 where
  SetInitialDcid : ConnectionId → (token : Token) (has : Bool) (path : ℕ) → CodeCall
  SetScidLimit : (n : ℕ) → CodeCall
  AddScid : ConnectionId → (token : Token) (advertise has : Bool) (path : ℕ) (retire_if_needed : Bool) → CodeCall
  RetireScid : (seq : ℕ) → (packet : ConnectionId) → CodeCall
  AddDcid : ConnectionId → (seq : ℕ) → (token : ResetToken) → (retire_prior_to : ℕ) → CodeCall
  MarkScidUsed : (seq path : ℕ) → CodeCall
  MarkDcidUsed : (seq path : ℕ) → CodeCall
  MarkScidToAdvertise : (seq : ℕ) (on : Bool) → CodeCall
  MarkDcidToRetire : (seq : ℕ) (on : Bool) → CodeCall
  -- the arguments of a call that reads are those of its query
  Reads : Query → CodeCall

-- what a fresh call that is not refused gives
pub data Started : Ids → Type 0 where
  started : (dcid_limit : ℕ) (cid : ConnectionId) (path : ℕ) (token : Token)
      → (fresh_ids dcid_limit cid path token).answer.refusal ≡ 0 → Started (fresh_ids dcid_limit cid path token).ids

-- the arguments have their form, as the contract has it
abbrev pub args_formed : CodeCall → Bool
args_formed (SetInitialDcid cid token has path) = id_formed cid && token_formed_of token && path_formed_of has path
args_formed (SetScidLimit n) = true
args_formed (AddScid cid token advertise has path retire_if_needed) = id_formed cid && token_formed_of token && path_formed_of has path
args_formed (RetireScid seq packet) = id_formed packet
args_formed (AddDcid cid seq token b) = id_formed cid
args_formed (MarkScidUsed seq path) = true
args_formed (MarkDcidUsed seq path) = true
args_formed (MarkScidToAdvertise seq on) = true
args_formed (MarkDcidToRetire seq on) = true
args_formed (Reads q) = query_formed q

-- ---- what each returns

pub data Result : Type 0 where
  Done : DoneOut → Result
  Issued : IssuedOut → Result
  Freed : FreedOut → Result
  Retired : RetiredOut → Result
  ACount : Counted → Result
  AFlag : Flagged → Result
  ANumber : Numbered → Result
  AnItem : ItemAnswer → Result
  AFound : FoundAnswer → Result
  AFrame : FrameAnswer → Result

abbrev pub asked : Ids → Query → Result
asked s (GetScid seq) = AnItem (item_call s (GetScid seq))
asked s (GetDcid seq) = AnItem (item_call s (GetDcid seq))
asked s (FindScid cid) = AFound (found_call s (id_formed cid) (FindScid cid))
asked s UnusedScids = ACount (counted_call s UnusedScids)
asked s UnusedDcids = ACount (counted_call s UnusedDcids)
asked s LowestUnusedDcidSeq = ANumber (numbered_call s LowestUnusedDcidSeq)
asked s NextScidToAdvertise = ANumber (numbered_call s NextScidToAdvertise)
asked s NextDcidToRetire = ANumber (numbered_call s NextDcidToRetire)
asked s (CreateNewConnectionIdFrame seq) = AFrame (frame_call s (CreateNewConnectionIdFrame seq))
asked s NeedSendCidControlFrames = AFlag (flagged_call s NeedSendCidControlFrames)
asked s ZeroLengthScid = AFlag (flagged_call s ZeroLengthScid)
asked s ZeroLengthDcid = AFlag (flagged_call s ZeroLengthDcid)
asked s ScidCount = ACount (counted_call s ScidCount)
asked s (ScidAt place) = AnItem (item_call s (ScidAt place))
asked s DcidCount = ACount (counted_call s DcidCount)
asked s (DcidAt place) = AnItem (item_call s (DcidAt place))

abbrev pub result : Ids → CodeCall → Result
result s (SetInitialDcid cid token has path) = Done (done_call s (id_formed cid && token_formed_of token && path_formed_of has path) (C.SetInitialDcid cid (token_view token) (given has path)))
result s (SetScidLimit n) = Done (done_call s true (C.SetScidLimit n))
result s (AddScid cid token advertise has path retire_if_needed) = Issued (issued_call s (id_formed cid && token_formed_of token && path_formed_of has path) (C.AddScid cid (token_view token) advertise (given has path) retire_if_needed))
result s (RetireScid seq packet) = Freed (freed_call s (id_formed packet) (C.RetireScid seq packet))
result s (AddDcid cid seq token b) = Retired (retired_call s (id_formed cid) (C.AddDcid cid seq token.bytes b))
result s (MarkScidUsed seq path) = Done (done_call s true (C.MarkScidUsed seq path))
result s (MarkDcidUsed seq path) = Done (done_call s true (C.MarkDcidUsed seq path))
result s (MarkScidToAdvertise seq on) = Done (done_call s true (C.MarkScidToAdvertise seq on))
result s (MarkDcidToRetire seq on) = Done (done_call s true (C.MarkDcidToRetire seq on))
result s (Reads q) = asked s q

-- the state that a result has, if it has one; the number of its refusal
abbrev pub state_in : Ids → Result → Ids
state_in s (Done r) = r.ids
state_in s (Issued r) = r.ids
state_in s (Freed r) = r.ids
state_in s (Retired r) = r.ids
state_in s (ACount r) = s
state_in s (AFlag r) = s
state_in s (ANumber r) = s
state_in s (AnItem r) = s
state_in s (AFound r) = s
state_in s (AFrame r) = s

abbrev pub refusal_in : Result → ℕ
refusal_in (Done r) = r.answer.refusal
refusal_in (Issued r) = r.answer.refusal
refusal_in (Freed r) = r.answer.refusal
refusal_in (Retired r) = r.answer.refusal
refusal_in (ACount r) = r.refusal
refusal_in (AFlag r) = r.refusal
refusal_in (ANumber r) = r.refusal
refusal_in (AnItem r) = r.refusal
refusal_in (AFound r) = r.refusal
refusal_in (AFrame r) = r.refusal

abbrev pub made : Ids → CodeCall → Ids
made s c = state_in s (result s c)

abbrev pub refusal : Ids → CodeCall → ℕ
refusal s c = refusal_in (result s c)

abbrev pub calls : Ids → List CodeCall → Ids
calls s [] = s
calls s (c ∷ cs) = calls (made s c) cs

-- ---- the same call on the view, and how the code gives its outcome

abbrev pub view_call : CodeCall → Call
view_call (SetInitialDcid cid token has path) = C.SetInitialDcid cid (token_view token) (given has path)
view_call (SetScidLimit n) = C.SetScidLimit n
view_call (AddScid cid token advertise has path retire_if_needed) = C.AddScid cid (token_view token) advertise (given has path) retire_if_needed
view_call (RetireScid seq packet) = C.RetireScid seq packet
view_call (AddDcid cid seq token b) = C.AddDcid cid seq token.bytes b
view_call (MarkScidUsed seq path) = C.MarkScidUsed seq path
view_call (MarkDcidUsed seq path) = C.MarkDcidUsed seq path
view_call (MarkScidToAdvertise seq on) = C.MarkScidToAdvertise seq on
view_call (MarkDcidToRetire seq on) = C.MarkDcidToRetire seq on
view_call (Reads q) = C.Ask q

-- a call whose arguments have not their form changes nothing, and is left out
abbrev pub view_calls : List CodeCall → List Call
view_calls cs = map view_call (keep args_formed cs)

-- the shape of a call's result
pub data Shape : Type 0 where
  ADone : Shape
  AnIssue : Shape
  AFreed : Shape
  ARetired : Shape
  Counts : Shape
  Flags : Shape
  Numbers : Shape
  Items : Shape
  Finds : Shape
  Frames : Shape

abbrev pub asked_shape : Query → Shape
asked_shape (GetScid seq) = Items
asked_shape (GetDcid seq) = Items
asked_shape (FindScid cid) = Finds
asked_shape UnusedScids = Counts
asked_shape UnusedDcids = Counts
asked_shape LowestUnusedDcidSeq = Numbers
asked_shape NextScidToAdvertise = Numbers
asked_shape NextDcidToRetire = Numbers
asked_shape (CreateNewConnectionIdFrame seq) = Frames
asked_shape NeedSendCidControlFrames = Flags
asked_shape ZeroLengthScid = Flags
asked_shape ZeroLengthDcid = Flags
asked_shape ScidCount = Counts
asked_shape (ScidAt place) = Items
asked_shape DcidCount = Counts
asked_shape (DcidAt place) = Items

abbrev pub shape : CodeCall → Shape
shape (SetInitialDcid cid token has path) = ADone
shape (SetScidLimit n) = ADone
shape (AddScid cid token advertise has path retire_if_needed) = AnIssue
shape (RetireScid seq packet) = AFreed
shape (AddDcid cid seq token b) = ARetired
shape (MarkScidUsed seq path) = ADone
shape (MarkDcidUsed seq path) = ADone
shape (MarkScidToAdvertise seq on) = ADone
shape (MarkDcidToRetire seq on) = ADone
shape (Reads q) = asked_shape q

abbrev pub replied : Out → Reply
replied o = record { refusal = o.refusal; answer = o.answer }

abbrev pub shaped : Shape → Out → Result
shaped ADone o = Done (done_of o)
shaped AnIssue o = Issued (issued_of o)
shaped AFreed o = Freed (freed_of o)
shaped ARetired o = Retired (retired_of o)
shaped Counts o = ACount (counted_of (replied o))
shaped Flags o = AFlag (flagged_of (replied o))
shaped Numbers o = ANumber (numbered_of (replied o))
shaped Items o = AnItem (item_answer_of (replied o))
shaped Finds o = AFound (found_answer_of (replied o))
shaped Frames o = AFrame (frame_of (replied o))

abbrev pub result_as : CodeCall → Out → Result
result_as c o = shaped (shape c) o

-- a refusal with the number n that leaves the state s: every other field of the answer is zero
abbrev pub refused_at : Shape → ℕ → Ids → Result
refused_at ADone n s = Done (done_at n s)
refused_at AnIssue n s = Issued (issued_at n 0 s)
refused_at AFreed n s = Freed (freed_at n none s)
refused_at ARetired n s = Retired (retired_at n [] s)
refused_at Counts n s = ACount (counted_at n 0)
refused_at Flags n s = AFlag (flagged_at n false)
refused_at Numbers n s = ANumber (numbered_at n none)
refused_at Items n s = AnItem (item_at_of n none)
refused_at Finds n s = AFound (found_at n none)
refused_at Frames n s = AFrame (frame_at n none)

-- ---- one call

-- call by call, the contract is `apply` at the call's constructor, on the view of the state
abbrev pub Applies : Type 0
Applies = (s : Ids) (c : CodeCall) → well_formed s ≡ true → args_formed c ≡ true → result s c ≡ result_as c (apply (view s) (view_call c))

-- and no constructor is left over: every call of the rules is that of a published call, and their arguments have their form alike. (A number is
-- unbounded in both, and so is a token's length; the code holds numbers below 2^64 and tokens of 16 bytes.)
pub record Published (c : Call) : Type 0 where
  pub call : CodeCall
  pub is : view_call call ≡ c
  pub formed : args_formed call ≡ call_formed c

abbrev pub Complete : Type 0
Complete = (c : Call) → Published c

-- a state or an argument not of its form: refused with 1, the state comes back as it was, and every other field is zero
abbrev pub Malformed : Type 0
Malformed = (s : Ids) (c : CodeCall) → (well_formed s && args_formed c) ≡ false → result s c ≡ refused_at (shape c) 1 s

-- a refusal, whatever its number and on any state at all, gives that number and the state that it leaves, and every other field of the answer is zero
abbrev pub OnlyRefuses : Type 0
OnlyRefuses = (s : Ids) (c : CodeCall) → eqb (refusal s c) 0 ≡ false → result s c ≡ refused_at (shape c) (refusal s c) (made s c)

-- 1, and every number from 5 on, leaves nothing changed, on any state at all
abbrev pub LeavesNothing : Type 0
LeavesNothing = (s : Ids) (c : CodeCall) → (eqb (refusal s c) 1 || leb 5 (refusal s c)) ≡ true → made s c ≡ s

-- every call keeps every well-formed state well formed, whatever its arguments are
abbrev pub KeepsWell : Type 0
KeepsWell = (s : Ids) (c : CodeCall) → well_formed s ≡ true → well_formed (made s c) ≡ true

-- ---- fresh

-- fresh is refused, with 1, exactly if an argument has not its form
abbrev pub FreshOne : Type 0
FreshOne = (dcid_limit : ℕ) (cid : ConnectionId) (path : ℕ) (token : Token) → (fresh_ids dcid_limit cid path token).answer.refusal ≡ cond (token_formed_of token && fresh_formed dcid_limit cid) 0 1

abbrev pub FreshWell : Type 0
FreshWell = (s : Ids) → Started s → well_formed s ≡ true

-- ---- runs

abbrev pub RunsWell : Type 0
RunsWell = (s : Ids) (cs : List CodeCall) → well_formed s ≡ true → well_formed (calls s cs) ≡ true

-- after any calls from a fresh state, a call is refused with 1 exactly if an argument of it has not its form
abbrev pub NeverOne : Type 0
NeverOne = (s : Ids) → Started s → (cs : List CodeCall) (c : CodeCall) → eqb (refusal (calls s cs) c) 1 ≡ not (args_formed c)

-- a run of the code is a run of the view, and begins where a run of the view does: so what ids_rules says of every run holds of the code
abbrev pub IsRun : Type 0
IsRun = (s : Ids) (cs : List CodeCall) → well_formed s ≡ true → view (calls s cs) ≡ run (view s) (view_calls cs)

abbrev pub IsStart : Type 0
IsStart = (s : Ids) → Started s → Starts (view s)

-- ---- so, of the source sequences that the code issues

-- the sequence in the answer of an add_scid that is not refused
abbrev pub issued_in : Result → List ℕ
issued_in (Done r) = []
issued_in (Issued r) = cond (eqb r.answer.refusal 0) (r.answer.number ∷ []) []
issued_in (Freed r) = []
issued_in (Retired r) = []
issued_in (ACount r) = []
issued_in (AFlag r) = []
issued_in (ANumber r) = []
issued_in (AnItem r) = []
issued_in (AFound r) = []
issued_in (AFrame r) = []

abbrev pub issues : Ids → List CodeCall → List ℕ
issues s [] = []
issues s (c ∷ cs) = issued_in (result s c) ++ issues (made s c) cs

-- those that the source table holds
abbrev pub source_seqs : Ids → List ℕ
source_seqs s = sequences (view s)

-- they are 1, 2, 3 and so on
abbrev pub WithoutGap : Type 0
WithoutGap = (s : Ids) → Started s → (cs : List CodeCall) → issues s cs ≡ counted 1 (length (issues s cs))

-- a call and what it returned
pub record Event : Type 0 where
  pub call : CodeCall
  pub returned : Result

abbrev pub history : Ids → List CodeCall → List Event
history s [] = []
history s (c ∷ cs) = record { call = c; returned = result s c } ∷ history (made s c) cs

-- the sequence that a retire call names
abbrev pub retires : CodeCall → Option ℕ
retires (SetInitialDcid cid token has path) = none
retires (SetScidLimit n) = none
retires (AddScid cid token advertise has path retire_if_needed) = none
retires (RetireScid seq packet) = some seq
retires (AddDcid cid seq token b) = none
retires (MarkScidUsed seq path) = none
retires (MarkDcidUsed seq path) = none
retires (MarkScidToAdvertise seq on) = none
retires (MarkDcidToRetire seq on) = none
retires (Reads q) = none

-- a successful issue comes to the end; a retire takes its sequence out if it is there and not the only one, whatever it answered but 1
abbrev pub logged : List ℕ → Event → List ℕ
logged l e = maybe (retires e.call) (l ++ issued_in e.returned) (λ n. cond (eqb (refusal_in e.returned) 1) l (out n l))

abbrev pub remaining : List ℕ → List Event → List ℕ
remaining l [] = l
remaining l (e ∷ es) = remaining (logged l e) es

-- the table holds sequence 0 and those issued, less those taken out: as the code's own answers say
abbrev pub TableIsHistory : Type 0
TableIsHistory = (s : Ids) → Started s → (cs : List CodeCall) → source_seqs (calls s cs) ≡ remaining (0 ∷ []) (history s cs)

-- a sequence that was there, 0 or issued, and is out after cs, is out after any more calls ds
abbrev pub NeverReturns : Type 0
NeverReturns = (s : Ids) → Started s → (cs ds : List CodeCall) (n : ℕ) → has n (0 ∷ issues s cs) ≡ true
    → has n (source_seqs (calls s cs)) ≡ false → has n (source_seqs (calls s (cs ++ ds))) ≡ false

-- ---- and of the destination sequences that the peer has retired [10]

-- the call is set_initial_dcid; it is add_dcid
abbrev pub sets_initial : CodeCall → Bool
sets_initial c = P.sets_initial (view_call c)

abbrev pub takes_frame : CodeCall → Bool
takes_frame c = P.takes_frame (view_call c)

-- no item of the destination table has a sequence below the field largest_peer_retire_prior_to
abbrev pub none_below : Ids → Bool
none_below s = all (at_least s.largest_peer_retire_prior_to) (live s.dcids)

-- so it is over any calls from a fresh state, refused ones too, of which set_initial_dcid is at most the first: after any of them, cs, whatever comes then, ds
abbrev pub NoneBelow : Type 0
NoneBelow = (s : Ids) → Started s → (cs ds : List CodeCall) → any sets_initial (drop 1 (cs ++ ds)) ≡ false → none_below (calls s cs) ≡ true

-- and more: set_initial_dcid may come as often as one likes before the first add_dcid
abbrev pub NoneBelowEarly : Type 0
NoneBelowEarly = (s : Ids) → Started s → (cs ds : List CodeCall) → never_after sets_initial takes_frame (cs ++ ds) ≡ true → none_below (calls s cs) ≡ true

-- ---- all of it

pub record Promises : Type 0 where
  pub applies : Applies
  pub complete : Complete
  pub malformed : Malformed
  pub only_refuses : OnlyRefuses
  pub leaves_nothing : LeavesNothing
  pub keeps_well : KeepsWell
  pub fresh_one : FreshOne
  pub fresh_well : FreshWell
  pub runs_well : RunsWell
  pub never_one : NeverOne
  pub is_run : IsRun
  pub is_start : IsStart
  pub without_gap : WithoutGap
  pub table_is_history : TableIsHistory
  pub never_returns : NeverReturns
  pub none_below : NoneBelow
  pub none_below_early : NoneBelowEarly
