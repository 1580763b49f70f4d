-- What is promised of the code: of every published call, on any state and over any run of calls. This file is the statement, to be read alone; that all
-- of it holds is `held` in RunsProof.antt.
--
-- A CodeCall is a published call with the arguments that the code takes, of their form or not. `result s c` is what the call c returns on the state s:
-- the contracts of the crates by_value and vignorasc say so of the code. `made s c` is the state that is in it, or s where the call only reads, and `refusal s c` its number.
-- `calls s cs` is the state after the calls cs, one after the other, refused ones too. `view`, and `done_call` to `found_call`, are of
-- Reading.antt; `well_formed` is of paths_state; `apply`, `run` and what is said of them are of paths_rules.
use Rattle.std.specs.Prelude.{ℕ, ◌+◌, ◌-◌, ◌*◌, ◌^◌, ◌≤◌, ◌<◌, ◌≡◌, List, [], ◌∷◌, ◌++◌, map, Bool, true, false, cond, not, ◌&&◌, eqb, get_or}
use Rattle.std.proofs.Math.Option.{Option, none, some}
use Rattle.lists.specs.Defs.{given, keep, any}
use Rattle.values.specs.Address.{pair_formed_of, zero_address}
use Rattle.values.specs.Time.{moment_formed_of}
use Rattle.values.specs.declared.address.FourTuple.{FourTuple}
use Rattle.values.specs.declared.time.Moment.{Moment}
use Rattle.values.specs.declared.answers.Flagged.{Flagged}
use Rattle.values.specs.declared.answers.Counted.{Counted}
use Rattle.values.specs.declared.answers.Numbered.{Numbered}
use Rattle.values.specs.declared.answers.Timed.{Timed}
use Rattle.values.specs.Answers.{counted_at, flagged_at, numbered_at, timed_at}
use Rattle.challenges.specs.Challenges.{carries, standing}
use Rattle.paths_rules.specs.Path.{rank_validated}
use Rattle.paths_rules.specs.Table.{Out, fresh_formed, fresh_call}
use Rattle.paths_rules.specs.Calls.{Call, call_formed, apply, run}
use Rattle.paths_rules.specs.Promise.{Starts, Amounts, nothing, names}
use Rattle.paths_state.specs.Formed.{well_formed, seq_formed, zero_path}
use Rattle.paths_state.specs.declared.state.Path.{Path}
use Rattle.paths_state.specs.declared.state.Paths.{Paths}
use Rattle.paths.specs.Reading.{view, optional_pair, done_of, inserted_of, popped_of, responded_of, counted_of, flagged_of, numbered_of, timed_of, address_of, path_answer_of, found_of}
use Rattle.paths.specs.Reading.{done_at, inserted_at, popped_at, responded_at, address_at, path_answer_at, found_at}
use Rattle.paths.specs.Reading.{done_call, inserted_call, popped_call, responded_call, counted_call, flagged_call, numbered_call, timed_call, address_call, path_call, found_call}
use Rattle.paths.specs.declared.answers.PathAnswer.{PathAnswer}
use Rattle.paths.specs.declared.answers.FoundAnswer.{FoundAnswer}
use Rattle.paths.specs.declared.answers.AddressAnswer.{AddressAnswer}
use Rattle.paths.specs.declared.answers.DoneOut.{DoneOut}
use Rattle.paths.specs.declared.answers.InsertedOut.{InsertedOut}
use Rattle.paths.specs.declared.answers.PoppedOut.{PoppedOut}
use Rattle.paths.specs.declared.answers.RespondedOut.{RespondedOut}
use Rattle.paths_rules.specs.Calls as C
use Rattle.paths_rules.specs.Path as R

-- ---- the published calls: fifteen that change the state, fourteen that read it, and fresh

pub data CodeCall : Type 0 where
  InsertPath : (pair : FourTuple) (size : ℕ) → CodeCall
  Len : CodeCall
  Get : (id : ℕ) → CodeCall
  GetPathId : (pair : FourTuple) → CodeCall
  GetActive : CodeCall
  LocalAddr : (id : ℕ) → CodeCall
  RemoteAddr : (id : ℕ) → CodeCall
  State : (id : ℕ) → CodeCall
  Validated : (id : ℕ) → CodeCall
  Active : (id : ℕ) → CodeCall
  PathChalInitiated : (id : ℕ) → CodeCall
  NeedSendValidationFrames : (id : ℕ) → CodeCall
  NeedExpandPaddingFrames : (id : ℕ) → CodeCall
  InitiatePathChal : (id : ℕ) → CodeCall
  PopRecvChal : (id : ℕ) → CodeCall
  OnPathChalReceived : (id token : ℕ) → CodeCall
  OnPathChalSent : (id token size : ℕ) (sent : Moment) → CodeCall
  OnPathRespReceived : (id token : ℕ) (now : Moment) → CodeCall
  OnPathChalTimeout : (now : Moment) → CodeCall
  MinPathChalTimer : CodeCall
  IncAntiAmplLimit : (id n : ℕ) → CodeCall
  DecAntiAmplLimit : (id n : ℕ) → CodeCall
  CmpAntiAmplLimit : (id wish : ℕ) → CodeCall
  MarkPing : (has : Bool) (pair : FourTuple) → CodeCall
  EnableMultipath : CodeCall
  SetScidSeq : (id : ℕ) (has : Bool) (seq : ℕ) → CodeCall
  SetDcidSeq : (id : ℕ) (has : Bool) (seq : ℕ) → CodeCall
  SetActive : (id : ℕ) (on : Bool) → CodeCall
  MarkVerified : (id : ℕ) → CodeCall

-- what fresh returns
abbrev pub fresh_paths : FourTuple → (size limit factor : ℕ) (server : Bool) → DoneOut
fresh_paths pair size limit factor server = done_of (fresh_call pair size limit factor server)

-- what a fresh call that is not refused gives
pub data Started (server : Bool) (factor : ℕ) : Paths → Type 0 where
  started : (pair : FourTuple) (size limit : ℕ)
      → (fresh_paths pair size limit factor server).answer.refusal ≡ 0 → Started server factor (fresh_paths pair size limit factor server).paths

-- the arguments have their form, as the contract has it
abbrev pub args_formed : CodeCall → Bool
args_formed (InsertPath pair size) = pair_formed_of pair
args_formed Len = true
args_formed (Get id) = true
args_formed (GetPathId pair) = pair_formed_of pair
args_formed GetActive = true
args_formed (LocalAddr id) = true
args_formed (RemoteAddr id) = true
args_formed (State id) = true
args_formed (Validated id) = true
args_formed (Active id) = true
args_formed (PathChalInitiated id) = true
args_formed (NeedSendValidationFrames id) = true
args_formed (NeedExpandPaddingFrames id) = true
args_formed (InitiatePathChal id) = true
args_formed (PopRecvChal id) = true
args_formed (OnPathChalReceived id token) = true
args_formed (OnPathChalSent id token size sent) = moment_formed_of sent.us
args_formed (OnPathRespReceived id token now) = moment_formed_of now.us
args_formed (OnPathChalTimeout now) = moment_formed_of now.us
args_formed MinPathChalTimer = true
args_formed (IncAntiAmplLimit id n) = true
args_formed (DecAntiAmplLimit id n) = true
args_formed (CmpAntiAmplLimit id wish) = true
args_formed (MarkPing has pair) = optional_pair has pair
args_formed EnableMultipath = true
args_formed (SetScidSeq id has seq) = seq_formed has seq
args_formed (SetDcidSeq id has seq) = seq_formed has seq
args_formed (SetActive id on) = true
args_formed (MarkVerified id) = true

-- ---- what each returns

pub data Result : Type 0 where
  Done : DoneOut → Result
  Insertion : InsertedOut → Result
  Popped : PoppedOut → Result
  Response : RespondedOut → Result
  ACount : Counted → Result
  AFlag : Flagged → Result
  ANumber : Numbered → Result
  ATime : Timed → Result
  AnAddress : AddressAnswer → Result
  APath : PathAnswer → Result
  AFound : FoundAnswer → Result

abbrev pub result : Paths → CodeCall → Result
result s (InsertPath pair size) = Insertion (inserted_call s (pair_formed_of pair) (C.Insert pair size))
result s Len = ACount (counted_call s true (C.Ask C.Len))
result s (Get id) = APath (path_call s true (C.On id (C.Look C.Get)))
result s (GetPathId pair) = ANumber (numbered_call s (pair_formed_of pair) (C.Ask (C.IdOf pair)))
result s GetActive = AFound (found_call s true (C.Ask C.GetActive))
result s (LocalAddr id) = AnAddress (address_call s true (C.On id (C.Look C.LocalAddr)))
result s (RemoteAddr id) = AnAddress (address_call s true (C.On id (C.Look C.RemoteAddr)))
result s (State id) = ACount (counted_call s true (C.On id (C.Look C.State)))
result s (Validated id) = AFlag (flagged_call s true (C.On id (C.Look C.Validated)))
result s (Active id) = AFlag (flagged_call s true (C.On id (C.Look C.Active)))
result s (PathChalInitiated id) = AFlag (flagged_call s true (C.On id (C.Look C.Initiated)))
result s (NeedSendValidationFrames id) = AFlag (flagged_call s true (C.On id (C.Look C.NeedsFrames)))
result s (NeedExpandPaddingFrames id) = AFlag (flagged_call s true (C.On id (C.Look C.NeedsPadding)))
result s (InitiatePathChal id) = Done (done_call s true (C.On id C.Initiate))
result s (PopRecvChal id) = Popped (popped_call s true (C.On id C.Pop))
result s (OnPathChalReceived id token) = Done (done_call s true (C.On id (C.Receive token)))
result s (OnPathChalSent id token size sent) = Done (done_call s (moment_formed_of sent.us) (C.On id (C.Send token size sent.us)))
result s (OnPathRespReceived id token now) = Response (responded_call s (moment_formed_of now.us) (C.On id (C.Respond token now.us)))
result s (OnPathChalTimeout now) = Done (done_call s (moment_formed_of now.us) (C.Timeout now.us))
result s MinPathChalTimer = ATime (timed_call s true (C.Ask C.Timer))
result s (IncAntiAmplLimit id n) = Done (done_call s true (C.On id (C.Credit n)))
result s (DecAntiAmplLimit id n) = Done (done_call s true (C.On id (C.Charge n)))
result s (CmpAntiAmplLimit id wish) = ACount (counted_call s true (C.On id (C.Look (C.Allowed wish))))
result s (MarkPing has pair) = Done (done_call s (optional_pair has pair) (C.Ping (given has pair)))
result s EnableMultipath = Done (done_call s true C.Multipath)
result s (SetScidSeq id has seq) = Done (done_call s (seq_formed has seq) (C.On id (C.SetScid (given has seq))))
result s (SetDcidSeq id has seq) = Done (done_call s (seq_formed has seq) (C.On id (C.SetDcid (given has seq))))
result s (SetActive id on) = Done (done_call s true (C.On id (C.SetActive on)))
result s (MarkVerified id) = Done (done_call s true (C.On id C.Verify))

-- the state that a result has, if it has one; the number of its refusal
abbrev pub state_in : Paths → Result → Paths
state_in s (Done r) = r.paths
state_in s (Insertion r) = r.paths
state_in s (Popped r) = r.paths
state_in s (Response r) = r.paths
state_in s (ACount r) = s
state_in s (AFlag r) = s
state_in s (ANumber r) = s
state_in s (ATime r) = s
state_in s (AnAddress r) = s
state_in s (APath r) = s
state_in s (AFound r) = s

abbrev pub refusal_in : Result → ℕ
refusal_in (Done r) = r.answer.refusal
refusal_in (Insertion r) = r.answer.refusal
refusal_in (Popped r) = r.answer.refusal
refusal_in (Response r) = r.answer.refusal
refusal_in (ACount r) = r.refusal
refusal_in (AFlag r) = r.refusal
refusal_in (ANumber r) = r.refusal
refusal_in (ATime r) = r.refusal
refusal_in (AnAddress r) = r.refusal
refusal_in (APath r) = r.refusal
refusal_in (AFound r) = r.refusal

abbrev pub made : Paths → CodeCall → Paths
made s c = state_in s (result s c)

abbrev pub refusal : Paths → CodeCall → ℕ
refusal s c = refusal_in (result s c)

abbrev pub calls : Paths → List CodeCall → Paths
calls s [] = s
calls s (c ∷ cs) = calls (made s c) cs

-- ---- the same call on the view, and how the code gives its outcome

abbrev pub view_call : CodeCall → Call
view_call (InsertPath pair size) = C.Insert pair size
view_call Len = C.Ask C.Len
view_call (Get id) = C.On id (C.Look C.Get)
view_call (GetPathId pair) = C.Ask (C.IdOf pair)
view_call GetActive = C.Ask C.GetActive
view_call (LocalAddr id) = C.On id (C.Look C.LocalAddr)
view_call (RemoteAddr id) = C.On id (C.Look C.RemoteAddr)
view_call (State id) = C.On id (C.Look C.State)
view_call (Validated id) = C.On id (C.Look C.Validated)
view_call (Active id) = C.On id (C.Look C.Active)
view_call (PathChalInitiated id) = C.On id (C.Look C.Initiated)
view_call (NeedSendValidationFrames id) = C.On id (C.Look C.NeedsFrames)
view_call (NeedExpandPaddingFrames id) = C.On id (C.Look C.NeedsPadding)
view_call (InitiatePathChal id) = C.On id C.Initiate
view_call (PopRecvChal id) = C.On id C.Pop
view_call (OnPathChalReceived id token) = C.On id (C.Receive token)
view_call (OnPathChalSent id token size sent) = C.On id (C.Send token size sent.us)
view_call (OnPathRespReceived id token now) = C.On id (C.Respond token now.us)
view_call (OnPathChalTimeout now) = C.Timeout now.us
view_call MinPathChalTimer = C.Ask C.Timer
view_call (IncAntiAmplLimit id n) = C.On id (C.Credit n)
view_call (DecAntiAmplLimit id n) = C.On id (C.Charge n)
view_call (CmpAntiAmplLimit id wish) = C.On id (C.Look (C.Allowed wish))
view_call (MarkPing has pair) = C.Ping (given has pair)
view_call EnableMultipath = C.Multipath
view_call (SetScidSeq id has seq) = C.On id (C.SetScid (given has seq))
view_call (SetDcidSeq id has seq) = C.On id (C.SetDcid (given has seq))
view_call (SetActive id on) = C.On id (C.SetActive on)
view_call (MarkVerified id) = C.On id C.Verify

-- a call whose arguments have not their form changes nothing, and is left out
abbrev pub view_calls : List CodeCall → List Call
view_calls cs = map view_call (keep args_formed cs)

-- the shape of a call's result
pub data Shape : Type 0 where
  ADone : Shape
  AnInsertion : Shape
  APopped : Shape
  AResponse : Shape
  Counts : Shape
  Flags : Shape
  Numbers : Shape
  Times : Shape
  Addresses : Shape
  Wholes : Shape
  Finds : Shape

abbrev pub shape : CodeCall → Shape
shape (InsertPath pair size) = AnInsertion
shape Len = Counts
shape (Get id) = Wholes
shape (GetPathId pair) = Numbers
shape GetActive = Finds
shape (LocalAddr id) = Addresses
shape (RemoteAddr id) = Addresses
shape (State id) = Counts
shape (Validated id) = Flags
shape (Active id) = Flags
shape (PathChalInitiated id) = Flags
shape (NeedSendValidationFrames id) = Flags
shape (NeedExpandPaddingFrames id) = Flags
shape (InitiatePathChal id) = ADone
shape (PopRecvChal id) = APopped
shape (OnPathChalReceived id token) = ADone
shape (OnPathChalSent id token size sent) = ADone
shape (OnPathRespReceived id token now) = AResponse
shape (OnPathChalTimeout now) = ADone
shape MinPathChalTimer = Times
shape (IncAntiAmplLimit id n) = ADone
shape (DecAntiAmplLimit id n) = ADone
shape (CmpAntiAmplLimit id wish) = Counts
shape (MarkPing has pair) = ADone
shape EnableMultipath = ADone
shape (SetScidSeq id has seq) = ADone
shape (SetDcidSeq id has seq) = ADone
shape (SetActive id on) = ADone
shape (MarkVerified id) = ADone

abbrev pub shaped : Shape → Out → Result
shaped ADone o = Done (done_of o)
shaped AnInsertion o = Insertion (inserted_of o)
shaped APopped o = Popped (popped_of o)
shaped AResponse o = Response (responded_of o)
shaped Counts o = ACount (counted_of o)
shaped Flags o = AFlag (flagged_of o)
shaped Numbers o = ANumber (numbered_of o)
shaped Times o = ATime (timed_of o)
shaped Addresses o = AnAddress (address_of o)
shaped Wholes o = APath (path_answer_of o)
shaped Finds o = AFound (found_of o)

abbrev pub result_as : CodeCall → Out → Result
result_as c o = shaped (shape c) o

-- a refusal with the number n on the state s: s as it was, and every other field of the answer zero
abbrev pub refused_at : Shape → ℕ → Paths → Result
refused_at ADone n s = Done (done_at n s)
refused_at AnInsertion n s = Insertion (inserted_at n 0 s)
refused_at APopped n s = Popped (popped_at n none s)
refused_at AResponse n s = Response (responded_at n false [] s)
refused_at Counts n s = ACount (counted_at n 0)
refused_at Flags n s = AFlag (flagged_at n false)
refused_at Numbers n s = ANumber (numbered_at n none)
refused_at Times n s = ATime (timed_at n none)
refused_at Addresses n s = AnAddress (address_at n zero_address)
refused_at Wholes n s = APath (path_answer_at n R.zero_path)
refused_at Finds n s = AFound (found_at n 0 R.zero_path)

-- ---- one call

-- call by call, the contract is `apply` at the call's constructor, on the view of the state
abbrev pub Applies : Type 0
Applies = (s : Paths) (c : CodeCall) → well_formed s ≡ true → args_formed c ≡ true → result s c ≡ result_as c (apply (view s) (view_call c))

-- and no constructor is left over: every call of the rules is that of a published call, and their arguments have their form alike. (A number is
-- unbounded in both; the code holds those below 2^64.)
pub record Published (c : Call) : Type 0 where
  pub call : CodeCall
  pub is : view_call call ≡ c
  pub formed : args_formed call ≡ call_formed c

abbrev pub Complete : Type 0
Complete = (c : Call) → Published c

-- a state or an argument not of its form: refused with 1, and the state comes back as it was
abbrev pub Malformed : Type 0
Malformed = (s : Paths) (c : CodeCall) → (well_formed s && args_formed c) ≡ false → (refusal s c ≡ 1) × (made s c ≡ s)

-- a refusal gives its number and the state as it was, and nothing else, whatever the number, on any state at all
abbrev pub OnlyRefuses : Type 0
OnlyRefuses = (s : Paths) (c : CodeCall) → eqb (refusal s c) 0 ≡ false → result s c ≡ refused_at (shape c) (refusal s c) s

-- so every refusal leaves nothing changed
abbrev pub LeavesNothing : Type 0
LeavesNothing = (s : Paths) (c : CodeCall) → eqb (refusal s c) 0 ≡ false → made s c ≡ s

-- every call keeps every well-formed state well formed, whatever its arguments are
abbrev pub KeepsWell : Type 0
KeepsWell = (s : Paths) (c : CodeCall) → well_formed s ≡ true → well_formed (made s c) ≡ true

-- ---- fresh

-- fresh is refused, with 1, exactly if an argument has not its form
abbrev pub FreshOne : Type 0
FreshOne = (pair : FourTuple) (size limit factor : ℕ) (server : Bool) → (fresh_paths pair size limit factor server).answer.refusal ≡ cond (fresh_formed pair limit) 0 1

abbrev pub FreshWell : Type 0
FreshWell = (server : Bool) (factor : ℕ) (s : Paths) → Started server factor s → well_formed s ≡ true

-- ---- runs

abbrev pub RunsWell : Type 0
RunsWell = (s : Paths) (cs : List CodeCall) → well_formed s ≡ true → well_formed (calls s cs) ≡ true

-- after any calls from a fresh state, a call is refused with 1 exactly if an argument of it has not its form
abbrev pub NeverOne : Type 0
NeverOne = (server : Bool) (factor : ℕ) (s : Paths) → Started server factor s
    → (cs : List CodeCall) (c : CodeCall) → eqb (refusal (calls s cs) c) 1 ≡ not (args_formed c)

-- a run of the code is a run of the view, and begins where a run of the view does: so what paths_rules says of every run holds of the code
abbrev pub IsRun : Type 0
IsRun = (s : Paths) (cs : List CodeCall) → well_formed s ≡ true → view (calls s cs) ≡ run (view s) (view_calls cs)

abbrev pub IsStart : Type 0
IsStart = (server : Bool) (factor : ℕ) (s : Paths) → Started server factor s → Starts server factor (view s)

-- ---- the law of the allowance (docs/RULES.md, "What every published call owes"), of the code: the totals, of the calls alone, refused ones too, in
-- unbounded numbers

-- the lengths that a call credits and charges to the path p: those given to inc_anti_ampl_limit and dec_anti_ampl_limit with the id p
abbrev pub amounts_to : ℕ → CodeCall → Amounts
amounts_to p (InsertPath pair size) = nothing
amounts_to p Len = nothing
amounts_to p (Get id) = nothing
amounts_to p (GetPathId pair) = nothing
amounts_to p GetActive = nothing
amounts_to p (LocalAddr id) = nothing
amounts_to p (RemoteAddr id) = nothing
amounts_to p (State id) = nothing
amounts_to p (Validated id) = nothing
amounts_to p (Active id) = nothing
amounts_to p (PathChalInitiated id) = nothing
amounts_to p (NeedSendValidationFrames id) = nothing
amounts_to p (NeedExpandPaddingFrames id) = nothing
amounts_to p (InitiatePathChal id) = nothing
amounts_to p (PopRecvChal id) = nothing
amounts_to p (OnPathChalReceived id token) = nothing
amounts_to p (OnPathChalSent id token size sent) = nothing
amounts_to p (OnPathRespReceived id token now) = nothing
amounts_to p (OnPathChalTimeout now) = nothing
amounts_to p MinPathChalTimer = nothing
amounts_to p (IncAntiAmplLimit id n) = cond (eqb id p) (record { credit = n; charge = 0 }) nothing
amounts_to p (DecAntiAmplLimit id n) = cond (eqb id p) (record { credit = 0; charge = n }) nothing
amounts_to p (CmpAntiAmplLimit id wish) = nothing
amounts_to p (MarkPing has pair) = nothing
amounts_to p EnableMultipath = nothing
amounts_to p (SetScidSeq id has seq) = nothing
amounts_to p (SetDcidSeq id has seq) = nothing
amounts_to p (SetActive id on) = nothing
amounts_to p (MarkVerified id) = nothing

abbrev pub total_credit : ℕ → List CodeCall → ℕ
total_credit p [] = 0
total_credit p (c ∷ cs) = (amounts_to p c).credit + total_credit p cs

abbrev pub total_charge : ℕ → List CodeCall → ℕ
total_charge p [] = 0
total_charge p (c ∷ cs) = (amounts_to p c).charge + total_charge p cs

-- ---- the period

-- the path p is what stands at the place p of the state's items; its allowance is a field of it
abbrev pub item : ℕ → Paths → Path
item p s = get_or s.items p zero_path

abbrev pub allowance : ℕ → Paths → ℕ
allowance p s = (item p s).anti_ampl_limit

-- the id in the answer of an insert_path that is not refused
abbrev pub inserted_in : Result → Option ℕ
inserted_in (Done r) = none
inserted_in (Insertion r) = cond (eqb r.answer.refusal 0) (some r.answer.number) none
inserted_in (Popped r) = none
inserted_in (Response r) = none
inserted_in (ACount r) = none
inserted_in (AFlag r) = none
inserted_in (ANumber r) = none
inserted_in (ATime r) = none
inserted_in (AnAddress r) = none
inserted_in (APath r) = none
inserted_in (AFound r) = none

-- the period of p lasts through the calls: before each, p's peer address is unverified, and none is an insertion that answers p
abbrev pub Lasts : ℕ → Paths → List CodeCall → Type 0
Lasts p s [] = Unit {0}
Lasts p s (c ∷ cs) = ((item p s).verified_peer_address ≡ false) × (inserted_in (result s c) ≡ some p → ⊥) × Lasts p (made s c) cs

-- the premise: each charge is at most p's allowance just before that call
abbrev pub Within : ℕ → Paths → List CodeCall → Type 0
Within p s [] = Unit {0}
Within p s (c ∷ cs) = ((amounts_to p c).charge ≤ allowance p s) × Within p (made s c) cs

-- where a period of p begins, on a server with this factor: path 0 of a fresh state, or, after any calls, an insertion that answers p
pub data Begins (factor : ℕ) : ℕ → Paths → Type 0 where
  first : (s : Paths) → Started true factor s → Begins factor 0 s
  inserted : (s : Paths) → Started true factor s → (before : List CodeCall) (pair : FourTuple) (size p : ℕ)
      → inserted_in (result (calls s before) (InsertPath pair size)) ≡ some p → Begins factor p (made (calls s before) (InsertPath pair size))

-- if each charge was at most the allowance just before it, then from the beginning of a period no more is charged than factor x credited, and while that
-- product is below 2^64 the allowance is the product less the charges
abbrev pub Demand3 : Type 0
Demand3 = (factor p : ℕ) (s : Paths) → Begins factor p s → (cs : List CodeCall) → Lasts p s cs → Within p s cs
    → (total_charge p cs ≤ factor * total_credit p cs)
    × (factor * total_credit p cs < 2 ^ 64 → allowance p (calls s cs) ≡ factor * total_credit p cs - total_charge p cs)

-- with a starting allowance, on any well-formed state of a server: what is charged and what is left come to at most what there was and what was credited,
-- and to exactly that while it stays below 2^64
abbrev pub StartingAllowance : Type 0
StartingAllowance = (p : ℕ) (s : Paths) (cs : List CodeCall) → well_formed s ≡ true → s.is_server ≡ true → p < s.count → Lasts p s cs → Within p s cs
    → (total_charge p cs + allowance p (calls s cs) ≤ allowance p s + s.anti_ampl_factor * total_credit p cs)
    × (allowance p s + s.anti_ampl_factor * total_credit p cs < 2 ^ 64
    → total_charge p cs + allowance p (calls s cs) ≡ allowance p s + s.anti_ampl_factor * total_credit p cs)

-- the beginning and the calls of its period are one run from a fresh state
abbrev pub OneRun : Type 0
OneRun = (s : Paths) (before cs : List CodeCall) (c : CodeCall) → calls s (before ++ (c ∷ cs)) ≡ calls (made (calls s before) c) cs

-- ---- the frame: what else a call may do to the path p, on any state at all

-- a call that names another path, by its id or a ping by a listed pair, leaves every field of p; `names` is of paths_rules
abbrev pub Frame : Type 0
Frame = (p q : ℕ) (s : Paths) (c : CodeCall) → names (view s) (view_call c) ≡ some q → (q ≡ p → ⊥) → item p (made s c) ≡ item p s

-- a path with its listing set to b
--| with_listed (b : Bool) (x : Path) { listed = b }
abbrev pub with_listed : Bool → Path → Path
with_listed b x = record { pair = x.pair; recv_chals = x.recv_chals; sent_chals = x.sent_chals; max_datagram_size = x.max_datagram_size; scid_seq = x.scid_seq; dcid_seq = x.dcid_seq; lost_chal = x.lost_chal; max_challenge_size = x.max_challenge_size; anti_ampl_limit = x.anti_ampl_limit; state = x.state; has_scid = x.has_scid; has_dcid = x.has_dcid; active = x.active; need_send_challenge = x.need_send_challenge; verified_peer_address = x.verified_peer_address; peer_verified_local_address = x.peer_verified_local_address; need_send_ping = x.need_send_ping; listed = b }

-- an insertion that does not answer p changes at most p's listing
abbrev pub InsertionFrame : Type 0
InsertionFrame = (p : ℕ) (pair : FourTuple) (size : ℕ) (s : Paths) → (inserted_in (result s (InsertPath pair size)) ≡ some p → ⊥)
    → (b : Bool) → with_listed b (item p (made s (InsertPath pair size))) ≡ with_listed b (item p s)

-- and it may take that listing away, but gives none: p is listed after it only if it was before
abbrev pub InsertionUnlists : Type 0
InsertionUnlists = (p : ℕ) (pair : FourTuple) (size : ℕ) (s : Paths) → (inserted_in (result s (InsertPath pair size)) ≡ some p → ⊥)
    → (item p (made s (InsertPath pair size))).listed ≡ true → (item p s).listed ≡ true

-- a challenge with the data stands in p's own list of those sent
abbrev pub sent_on : ℕ → ℕ → Paths → Bool
sent_on p token s = any (carries token) (standing (item p s).sent_chals)

-- p becomes verified only by the mark, or by a response on p, not yet Validated, that matches a challenge in p's own sent list [2]
abbrev pub OnlyVerified : Type 0
OnlyVerified = (p : ℕ) (s : Paths) (c : CodeCall) → (c ≡ MarkVerified p → ⊥)
    → ((token : ℕ) (now : Moment) → c ≡ OnPathRespReceived p token now → eqb (item p s).state rank_validated ≡ false → sent_on p token s ≡ true → ⊥)
    → (item p s).verified_peer_address ≡ false → (item p (made s c)).verified_peer_address ≡ false

-- a response that matches no challenge in p's sent list answers no, without a span, and leaves every field of the state [2]
abbrev pub Unasked : Type 0
Unasked = (p token : ℕ) (now : Moment) (s : Paths) → sent_on p token s ≡ false
    → result s (OnPathRespReceived p token now) ≡ Response (responded_at (cond (well_formed s && moment_formed_of now.us) 0 1) false [] s)

-- only a credit to p, a charge to p, and an insertion that answers p change p's allowance
abbrev pub OnlyCredit : Type 0
OnlyCredit = (p : ℕ) (s : Paths) (c : CodeCall)
    → ((n : ℕ) → c ≡ IncAntiAmplLimit p n → ⊥) → ((n : ℕ) → c ≡ DecAntiAmplLimit p n → ⊥) → (inserted_in (result s c) ≡ some p → ⊥)
    → allowance p (made s c) ≡ allowance p s

-- ---- all of it

pub record Promises : Type 0 where
  pub applies : Applies
  pub complete : Complete
  pub malformed : Malformed
  pub only_refuses : OnlyRefuses
  pub leaves_nothing : LeavesNothing
  pub keeps_well : KeepsWell
  pub fresh_one : FreshOne
  pub fresh_well : FreshWell
  pub runs_well : RunsWell
  pub never_one : NeverOne
  pub is_run : IsRun
  pub is_start : IsStart
  pub demand3 : Demand3
  pub starting_allowance : StartingAllowance
  pub one_run : OneRun
  pub frame : Frame
  pub insertion_frame : InsertionFrame
  pub insertion_unlists : InsertionUnlists
  pub only_verified : OnlyVerified
  pub unasked : Unasked
  pub only_credit : OnlyCredit
