-- Every promise of Runs.antt holds.
use Rattle.std.specs.Prelude.{ℕ, ◌+◌, ◌-◌, ◌*◌, ◌^◌, ◌≤◌, ◌<◌, ◌≡◌, refl, List, [], ◌∷◌, map, Bool, true, false, cond, not, ◌&&◌, eqb, ltb, length, get_or}
use Rattle.std.proofs.Common.{sym, ap, ap₂, ◌∙◌, subst, arith}
use Rattle.std.proofs.Math.Option.{Option, none, some}
use Rattle.std.proofs.Math.ListN.{get_or-map}
use Rattle.std.proofs.lemmas.List.{set-get_or}
use Rattle.lists.specs.Defs.{given, first_with, keep}
use Rattle.lists.specs.Bools.{and_both}
use Rattle.lists.specs.Tests.{nought_is}
use Rattle.values.specs.Limits.{max_paths_limit}
use Rattle.values.specs.Address.{pair_formed_of, zero_pair}
use Rattle.values.specs.Time.{moment_formed_of}
use Rattle.values.specs.declared.address.FourTuple.{FourTuple}
use Rattle.challenges.specs.Challenges.{standing}
use Rattle.paths_rules.specs.Path.{rank_validated, matches, listed_as, flagged, unused}
use Rattle.paths_rules.specs.Table.{Table, Answer, Out, Nothing, Inserted, Responded, Number, Flag, Maybe, Place, Whole, Found, refused, accepted, path_at, known, with_paths, fresh, fresh_formed, fresh_call, zero_table, evict, ping_at, ping_on}
use Rattle.paths_rules.specs.Well.{well}
use Rattle.paths_rules.specs.Calls.{Call, Act, Read, Survey, On, Look, Ask, Insert, call_formed, step, apply, after, run, answer, seen, survey, active_out}
use Rattle.paths_rules.specs.Promise.{Starts, starts, Amounts, nothing}
use Rattle.paths_rules.proofs.Steps.{both, survey_same}
use Rattle.paths_state.specs.Formed.{well_formed, zero_path}
use Rattle.paths_state.specs.declared.state.Path.{Path}
use Rattle.paths_state.specs.declared.state.Paths.{Paths}
use Rattle.path.specs.Reading.{path_view, path_of}
use Rattle.path.specs.ReadingLaws.{path_of_lem}
use Rattle.path.specs.ChalLaws.{any_view}
use Rattle.paths.specs.Reading.{view, paths_of, done_of, inserted_of, popped_of, responded_of, counted_of, flagged_of, numbered_of, timed_of, address_of, path_answer_of, found_of}
use Rattle.paths.specs.Reading.{responded_at, done_call, inserted_call, popped_call, responded_call, counted_call, flagged_call, numbered_call, timed_call, address_call, path_call, found_call}
use Rattle.paths.specs.Lists.{padded_at}
use Rattle.paths.specs.ReadingLaws.{tidy, view_of, view_is, items_is, paths_long}
use Rattle.paths.specs.WellLaws.{well_view, well_of_table, applies as step_applies, ping_formed}
use Rattle.paths.specs.Runs.{CodeCall, InsertPath, Len, Get, GetPathId, GetActive, LocalAddr, RemoteAddr, State, Validated, Active, PathChalInitiated, NeedSendValidationFrames, NeedExpandPaddingFrames, InitiatePathChal, PopRecvChal}
use Rattle.paths.specs.Runs.{OnPathChalReceived, OnPathChalSent, OnPathRespReceived, OnPathChalTimeout, MinPathChalTimer, IncAntiAmplLimit, DecAntiAmplLimit, CmpAntiAmplLimit, MarkPing, EnableMultipath, SetScidSeq, SetDcidSeq, SetActive, MarkVerified}
use Rattle.paths.specs.Runs.{Result, Done, Insertion, Popped, Response, ACount, AFlag, ANumber, ATime, AnAddress, APath, AFound}
use Rattle.paths.specs.Runs.{Shape, ADone, AnInsertion, APopped, AResponse, Counts, Flags, Numbers, Times, Addresses, Wholes, Finds, shape, shaped, refused_at}
use Rattle.paths.specs.Runs.{started, args_formed, result, state_in, refusal_in, made, refusal, calls, view_call, view_calls, result_as, Published, amounts_to, total_credit, total_charge, item, allowance, sent_on, inserted_in, Lasts, Within, Begins, first, inserted, with_listed}
use Rattle.paths.specs.Runs.{Applies, Complete, Malformed, OnlyRefuses, LeavesNothing, KeepsWell, FreshOne, FreshWell, RunsWell, NeverOne, IsRun, IsStart, Demand3, StartingAllowance, OneRun, Frame, InsertionFrame, InsertionUnlists, OnlyVerified, Unasked, OnlyCredit, Promises}
use Rattle.paths_rules.specs.Calls as C
use Rattle.paths_rules.specs.Path as R
use Rattle.paths_rules.specs.State as Rec
use Rattle.paths_rules.specs.Promise as P
use Rattle.paths_rules.proofs.Kept as K
use Rattle.paths_rules.proofs.Promised as D
use Rattle.paths_rules.proofs.Frame as F

-- ---- the contract is `apply`, or refusal 1

-- arguments of their form in the code are so on the view
args_call : (c : CodeCall) → args_formed c ≡ true → call_formed (view_call c) ≡ true
args_call (InsertPath pair size) e = e
args_call Len e = e
args_call (Get id) e = e
args_call (GetPathId pair) e = e
args_call GetActive e = e
args_call (LocalAddr id) e = e
args_call (RemoteAddr id) e = e
args_call (State id) e = e
args_call (Validated id) e = e
args_call (Active id) e = e
args_call (PathChalInitiated id) e = e
args_call (NeedSendValidationFrames id) e = e
args_call (NeedExpandPaddingFrames id) e = e
args_call (InitiatePathChal id) e = e
args_call (PopRecvChal id) e = e
args_call (OnPathChalReceived id token) e = e
args_call (OnPathChalSent id token size sent) e = e
args_call (OnPathRespReceived id token now) e = e
args_call (OnPathChalTimeout now) e = e
args_call MinPathChalTimer e = e
args_call (IncAntiAmplLimit id n) e = e
args_call (DecAntiAmplLimit id n) e = e
args_call (CmpAntiAmplLimit id wish) e = e
args_call (MarkPing has pair) e = ping_formed has pair e
args_call EnableMultipath e = e
args_call (SetScidSeq id has seq) e = refl
args_call (SetDcidSeq id has seq) e = refl
args_call (SetActive id on) e = e
args_call (MarkVerified id) e = e

-- the contract of a call, by the shape of its result; f: the arguments have their form
abbrev contract : Shape → Paths → (f : Bool) → Call → Result
contract ADone s f c = Done (done_call s f c)
contract AnInsertion s f c = Insertion (inserted_call s f c)
contract APopped s f c = Popped (popped_call s f c)
contract AResponse s f c = Response (responded_call s f c)
contract Counts s f c = ACount (counted_call s f c)
contract Flags s f c = AFlag (flagged_call s f c)
contract Numbers s f c = ANumber (numbered_call s f c)
contract Times s f c = ATime (timed_call s f c)
contract Addresses s f c = AnAddress (address_call s f c)
contract Wholes s f c = APath (path_call s f c)
contract Finds s f c = AFound (found_call s f c)

result_is : (s : Paths) (c : CodeCall) → result s c ≡ contract (shape c) s (args_formed c) (view_call c)
result_is s (InsertPath pair size) = refl
result_is s Len = refl
result_is s (Get id) = refl
result_is s (GetPathId pair) = refl
result_is s GetActive = refl
result_is s (LocalAddr id) = refl
result_is s (RemoteAddr id) = refl
result_is s (State id) = refl
result_is s (Validated id) = refl
result_is s (Active id) = refl
result_is s (PathChalInitiated id) = refl
result_is s (NeedSendValidationFrames id) = refl
result_is s (NeedExpandPaddingFrames id) = refl
result_is s (InitiatePathChal id) = refl
result_is s (PopRecvChal id) = refl
result_is s (OnPathChalReceived id token) = refl
result_is s (OnPathChalSent id token size sent) = refl
result_is s (OnPathRespReceived id token now) = refl
result_is s (OnPathChalTimeout now) = refl
result_is s MinPathChalTimer = refl
result_is s (IncAntiAmplLimit id n) = refl
result_is s (DecAntiAmplLimit id n) = refl
result_is s (CmpAntiAmplLimit id wish) = refl
result_is s (MarkPing has pair) = refl
result_is s EnableMultipath = refl
result_is s (SetScidSeq id has seq) = refl
result_is s (SetDcidSeq id has seq) = refl
result_is s (SetActive id on) = refl
result_is s (MarkVerified id) = refl

-- a test inside, whose outcome is known
pick : {A B : Type 0} (f : A → B) (x y : A) (b v : Bool) → b ≡ v → f (cond b x y) ≡ cond v (f x) (f y)
pick f x y b true e = ap (λ (a : Bool). f (cond a x y)) e
pick f x y b false e = ap (λ (a : Bool). f (cond a x y)) e

-- what was tested chooses between the step and refusal 1
chooses : (k : Shape) (s : Paths) (f : Bool) (c : Call) (v : Bool) → (well_formed s && f) ≡ v → contract k s f c ≡ cond v (shaped k (step (view s) c)) (refused_at k 1 s)
chooses ADone s f c v e = pick Done (done_of (step (view s) c)) _ (well_formed s && f) v e
chooses AnInsertion s f c v e = pick Insertion (inserted_of (step (view s) c)) _ (well_formed s && f) v e
chooses APopped s f c v e = pick Popped (popped_of (step (view s) c)) _ (well_formed s && f) v e
chooses AResponse s f c v e = pick Response (responded_of (step (view s) c)) _ (well_formed s && f) v e
chooses Counts s f c v e = pick ACount (counted_of (step (view s) c)) _ (well_formed s && f) v e
chooses Flags s f c v e = pick AFlag (flagged_of (step (view s) c)) _ (well_formed s && f) v e
chooses Numbers s f c v e = pick ANumber (numbered_of (step (view s) c)) _ (well_formed s && f) v e
chooses Times s f c v e = pick ATime (timed_of (step (view s) c)) _ (well_formed s && f) v e
chooses Addresses s f c v e = pick AnAddress (address_of (step (view s) c)) _ (well_formed s && f) v e
chooses Wholes s f c v e = pick APath (path_answer_of (step (view s) c)) _ (well_formed s && f) v e
chooses Finds s f c v e = pick AFound (found_of (step (view s) c)) _ (well_formed s && f) v e

pub applies : Applies
applies s c w e =
    result_is s c
    ∙ chooses (shape c) s (args_formed c) (view_call c) true (ap₂ ◌&&◌ w e)
    ∙ ap (result_as c) (step_applies s w (view_call c) (args_call c e))

refused_1 : (s : Paths) (c : CodeCall) → (well_formed s && args_formed c) ≡ false → result s c ≡ refused_at (shape c) 1 s
refused_1 s c e = result_is s c ∙ chooses (shape c) s (args_formed c) (view_call c) false e

-- ---- what a result has

as_refusal : (k : Shape) (o : Out) → refusal_in (shaped k o) ≡ o.refusal
as_refusal ADone o = refl
as_refusal AnInsertion o = refl
as_refusal APopped o = refl
as_refusal AResponse o = refl
as_refusal Counts o = refl
as_refusal Flags o = refl
as_refusal Numbers o = refl
as_refusal Times o = refl
as_refusal Addresses o = refl
as_refusal Wholes o = refl
as_refusal Finds o = refl

-- of a refusal
at_refused : (k : Shape) (n : ℕ) (s : Paths) → (refusal_in (refused_at k n s) ≡ n) × (state_in s (refused_at k n s) ≡ s) × (inserted_in (refused_at k 1 s) ≡ none)
at_refused ADone n s = (refl, refl, refl)
at_refused AnInsertion n s = (refl, refl, refl)
at_refused APopped n s = (refl, refl, refl)
at_refused AResponse n s = (refl, refl, refl)
at_refused Counts n s = (refl, refl, refl)
at_refused Flags n s = (refl, refl, refl)
at_refused Numbers n s = (refl, refl, refl)
at_refused Times n s = (refl, refl, refl)
at_refused Addresses n s = (refl, refl, refl)
at_refused Wholes n s = (refl, refl, refl)
at_refused Finds n s = (refl, refl, refl)

as_refused : (k : Shape) (n : ℕ) (v : Table) → shaped k (refused n v) ≡ refused_at k n (paths_of v)
as_refused ADone n v = refl
as_refused AnInsertion n v = refl
as_refused APopped n v = refl
as_refused AResponse n v = refl
as_refused Counts n v = refl
as_refused Flags n v = refl
as_refused Numbers n v = refl
as_refused Times n v = refl
as_refused Addresses n v = refl
as_refused Wholes n v = refl
as_refused Finds n v = refl

pub malformed : Malformed
malformed s c e =
    let r = refused_1 s c e in
    let a = at_refused (shape c) 1 s in
    (ap refusal_in r ∙ a.0, ap (state_in s) r ∙ a.1)

-- ---- of the rules: a call that reads leaves the table, and only an insertion answers `Inserted`

look_same : (v : Table) (q : ℕ) (r : Read) → after v (On q (Look r)) ≡ v
look_same v q r =
    both Same (well v && true)
    (both Same (eqb (C.refusal v q (Look r)) 0) (ap (λ (l : List Rec.Path). with_paths l v) (set-get_or v.paths q R.zero_path)) refl)
    refl
  where
    Same : Out → Type 0
    Same o = o.table ≡ v

ask_same : (v : Table) (q : Survey) → after v (Ask q) ≡ v
ask_same v q = both (λ (o : Out). o.table ≡ v) (well v && call_formed (Ask q)) (survey_same v q) refl

abbrev inserted_by : Answer → Option ℕ
inserted_by Nothing = none
inserted_by (Inserted i) = some i
inserted_by (Responded b l) = none
inserted_by (Number n) = none
inserted_by (Flag b) = none
inserted_by (Maybe o) = none
inserted_by (Place a) = none
inserted_by (Whole x) = none
inserted_by (Found i x) = none

pub some_not_none : {i : ℕ} → none ≡ some i → ⊥
some_not_none e = let z : ◌≡◌ {A = ℕ} 0 1 = cc in omega arith

inserted_is : (a : Answer) (p : ℕ) → inserted_by a ≡ some p → a ≡ Inserted p
inserted_is Nothing p e = absurd (some_not_none e)
inserted_is (Inserted i) p e = let z : i ≡ p = cc in ap Inserted z
inserted_is (Responded b l) p e = absurd (some_not_none e)
inserted_is (Number n) p e = absurd (some_not_none e)
inserted_is (Flag b) p e = absurd (some_not_none e)
inserted_is (Maybe o) p e = absurd (some_not_none e)
inserted_is (Place a) p e = absurd (some_not_none e)
inserted_is (Whole x) p e = absurd (some_not_none e)
inserted_is (Found i x) p e = absurd (some_not_none e)

-- no answer of an insertion
abbrev Quiet : Answer → Type 0
Quiet a = none ≡ inserted_by a

abbrev QuietOut : Out → Type 0
QuietOut o = Quiet o.answer

seen_quiet : (v : Table) (q : ℕ) (r : Read) → Quiet (seen v q r)
seen_quiet v q C.Get = refl
seen_quiet v q C.LocalAddr = refl
seen_quiet v q C.RemoteAddr = refl
seen_quiet v q C.State = refl
seen_quiet v q C.Validated = refl
seen_quiet v q C.Active = refl
seen_quiet v q C.Initiated = refl
seen_quiet v q C.NeedsFrames = refl
seen_quiet v q C.NeedsPadding = refl
seen_quiet v q (C.Allowed wish) = refl

answer_quiet : (v : Table) (q : ℕ) (a : Act) → Quiet (answer v q a)
answer_quiet v q C.Initiate = refl
answer_quiet v q C.Pop = refl
answer_quiet v q (C.Receive d) = refl
answer_quiet v q (C.Send d size now) = refl
answer_quiet v q (C.Respond d now) = both Quiet (known q v) refl refl
answer_quiet v q (C.Credit n) = refl
answer_quiet v q (C.Charge n) = refl
answer_quiet v q (C.SetScid o) = refl
answer_quiet v q (C.SetDcid o) = refl
answer_quiet v q (C.SetActive b) = refl
answer_quiet v q C.Verify = refl
answer_quiet v q (Look r) = seen_quiet v q r

survey_quiet : (v : Table) (q : Survey) → QuietOut (survey v q)
survey_quiet v C.Len = refl
survey_quiet v (C.IdOf a) = refl
survey_quiet v C.GetActive = test (first_with flagged v.paths)
  where
    test : (o : Option ℕ) → QuietOut (active_out o v)
    test none = refl
    test (some i) = refl
survey_quiet v C.Timer = refl

at_quiet : (n : ℕ) (o : Option ℕ) (v : Table) → QuietOut (ping_at n o v)
at_quiet n none v = refl
at_quiet n (some i) v = refl

on_quiet : (o : Option FourTuple) (v : Table) → QuietOut (ping_on o v)
on_quiet none v = refl
on_quiet (some a) v = at_quiet 0 (first_with (listed_as a) v.paths) v

-- ---- what each call of the code leaves, and which path its answer says is new, are those of the view

abbrev Given : Table → CodeCall → Type 0
Given v c =
    (state_in (paths_of v) (result_as c (apply v (view_call c))) ≡ paths_of (after v (view_call c)))
    × (inserted_in (result_as c (apply v (view_call c))) ≡ inserted_by (apply v (view_call c)).answer)

-- of each kind of call but an insertion: the state after it, or as it was; and none is new
abbrev Changes : Table → Call → Type 0
Changes v c = (paths_of (after v c) ≡ paths_of (after v c)) × Quiet (apply v c).answer

abbrev Keeps : Table → Call → Type 0
Keeps v c = (paths_of v ≡ paths_of (after v c)) × Quiet (apply v c).answer

act_quiet : (v : Table) (q : ℕ) (a : Act) → Quiet (apply v (On q a)).answer
act_quiet v q a = both QuietOut (well v && call_formed (On q a)) (both QuietOut (eqb (C.refusal v q a) 0) (answer_quiet v q a) refl) refl

acted : (v : Table) (q : ℕ) (a : Act) → Changes v (On q a)
acted v q a = (refl, act_quiet v q a)

looked : (v : Table) (q : ℕ) (r : Read) → Keeps v (On q (Look r))
looked v q r = (ap paths_of (sym (look_same v q r)), act_quiet v q (Look r))

asked : (v : Table) (q : Survey) → Keeps v (Ask q)
asked v q = (ap paths_of (sym (ask_same v q)), both QuietOut (well v && call_formed (Ask q)) (survey_quiet v q) refl)

pinged : (v : Table) (o : Option FourTuple) → Changes v (C.Ping o)
pinged v o = (refl, both QuietOut (well v && call_formed (C.Ping o)) (both QuietOut v.multipath (on_quiet o v) (at_quiet 2 (first_with flagged v.paths) v)) refl)

insert_new : (v : Table) (pair : FourTuple) (m : ℕ) → inserted_in (Insertion (inserted_of (apply v (Insert pair m)))) ≡ inserted_by (apply v (Insert pair m)).answer
insert_new v pair m = both Same (well v && pair_formed_of pair) (both Same (ltb (length v.paths) v.limit) refl (test (first_with unused v.paths))) refl
  where
    Same : Out → Type 0
    Same o = inserted_in (Insertion (inserted_of o)) ≡ inserted_by o.answer

    test : (o : Option ℕ) → Same (evict o pair m v)
    test none = refl
    test (some i) = refl

given_is : (v : Table) (c : CodeCall) → Given v c
given_is v (InsertPath pair size) = (refl, insert_new v pair size)
given_is v Len = asked v C.Len
given_is v (Get id) = looked v id C.Get
given_is v (GetPathId pair) = asked v (C.IdOf pair)
given_is v GetActive = asked v C.GetActive
given_is v (LocalAddr id) = looked v id C.LocalAddr
given_is v (RemoteAddr id) = looked v id C.RemoteAddr
given_is v (State id) = looked v id C.State
given_is v (Validated id) = looked v id C.Validated
given_is v (Active id) = looked v id C.Active
given_is v (PathChalInitiated id) = looked v id C.Initiated
given_is v (NeedSendValidationFrames id) = looked v id C.NeedsFrames
given_is v (NeedExpandPaddingFrames id) = looked v id C.NeedsPadding
given_is v (InitiatePathChal id) = acted v id C.Initiate
given_is v (PopRecvChal id) = acted v id C.Pop
given_is v (OnPathChalReceived id token) = acted v id (C.Receive token)
given_is v (OnPathChalSent id token size sent) = acted v id (C.Send token size sent.us)
given_is v (OnPathRespReceived id token now) = acted v id (C.Respond token now.us)
given_is v (OnPathChalTimeout now) = (refl, both QuietOut (well v && moment_formed_of now.us) refl refl)
given_is v MinPathChalTimer = asked v C.Timer
given_is v (IncAntiAmplLimit id n) = acted v id (C.Credit n)
given_is v (DecAntiAmplLimit id n) = acted v id (C.Charge n)
given_is v (CmpAntiAmplLimit id wish) = looked v id (C.Allowed wish)
given_is v (MarkPing has pair) = pinged v (given has pair)
given_is v EnableMultipath = (refl, both QuietOut (well v && true) refl refl)
given_is v (SetScidSeq id has seq) = acted v id (C.SetScid (given has seq))
given_is v (SetDcidSeq id has seq) = acted v id (C.SetDcid (given has seq))
given_is v (SetActive id on) = acted v id (C.SetActive on)
given_is v (MarkVerified id) = acted v id C.Verify

module _ (s : Paths) (w : well_formed s ≡ true) where
  back : paths_of (view s) ≡ s
  back = view_is s (tidy s w)

  module _ (c : CodeCall) (e : args_formed c ≡ true) where
    pub refusal_is : refusal s c ≡ (apply (view s) (view_call c)).refusal
    refusal_is = ap refusal_in (applies s c w e) ∙ as_refusal (shape c) (apply (view s) (view_call c))

    -- the state after a call is the one that the view after it stands for
    pub made_is : made s c ≡ paths_of (after (view s) (view_call c))
    made_is = ap₂ state_in (sym back) (applies s c w e) ∙ (given_is (view s) c).0

    pub made_after : view (made s c) ≡ after (view s) (view_call c)
    made_after = ap view made_is ∙ view_of (after (view s) (view_call c))

    pub new_is : inserted_in (result s c) ≡ inserted_by (apply (view s) (view_call c)).answer
    new_is = ap inserted_in (applies s c w e) ∙ (given_is (view s) c).1

  and_no : (c : CodeCall) → args_formed c ≡ false → (well_formed s && args_formed c) ≡ false
  and_no c e = ap₂ ◌&&◌ w e

-- a test passes or does not
tested : {P : Type 0} (b : Bool) → (b ≡ true → P) → (b ≡ false → P) → P
tested true h k = h refl
tested false h k = k refl

pub keeps_well_lem : KeepsWell
keeps_well_lem s c w =
    tested (args_formed c)
    (λ e. ap well_formed (made_is s w c e) ∙ well_of_table (after (view s) (view_call c)) (K.keeps_well_lem (view s) (view_call c) (well_view s w)))
    (λ e. ap well_formed (malformed s c (and_no s w c e)).1 ∙ w)

-- ---- a refusal of the rules is its number and the table as it was

abbrev Refuses : Table → Out → Type 0
Refuses v o = eqb o.refusal 0 ≡ false → o ≡ refused o.refusal v

accepts : (v : Table) (a : Answer) (u : Table) → Refuses v (accepted a u)
accepts v a u e = let z : ◌≡◌ {A = ℕ} 0 1 = cc in absurd (omega arith)

refuses : (v : Table) (n : ℕ) → Refuses v (refused n v)
refuses v n e = refl

step_refuses : (v : Table) (c : Call) → Refuses v (step v c)
step_refuses v (On q a) = both (Refuses v) (eqb (C.refusal v q a) 0) (accepts v _ _) (refuses v _)
step_refuses v (Insert pair m) = both (Refuses v) (ltb (length v.paths) v.limit) (accepts v _ _) (test (first_with unused v.paths))
  where
    test : (o : Option ℕ) → Refuses v (evict o pair m v)
    test none = refuses v 5
    test (some i) = accepts v _ _
step_refuses v (C.Timeout now) = accepts v _ _
step_refuses v (C.Ping o) = both (Refuses v) v.multipath (on o) (at 2 (first_with flagged v.paths))
  where
    at : (n : ℕ) (o : Option ℕ) → Refuses v (ping_at n o v)
    at n none = refuses v n
    at n (some i) = accepts v _ _

    on : (o : Option FourTuple) → Refuses v (ping_on o v)
    on none = accepts v _ _
    on (some a) = at 0 (first_with (listed_as a) v.paths)
step_refuses v C.Multipath = accepts v _ _
step_refuses v (Ask C.Len) = accepts v _ _
step_refuses v (Ask (C.IdOf a)) = accepts v _ _
step_refuses v (Ask C.GetActive) = test (first_with flagged v.paths)
  where
    test : (o : Option ℕ) → Refuses v (active_out o v)
    test none = refuses v 2
    test (some i) = accepts v _ _
step_refuses v (Ask C.Timer) = accepts v _ _

apply_refuses : (v : Table) (c : Call) → Refuses v (apply v c)
apply_refuses v c = both (Refuses v) (well v && call_formed c) (step_refuses v c) (refuses v 1)

pub only_refuses_lem : OnlyRefuses
only_refuses_lem s c h =
    tested (well_formed s && args_formed c)
    (λ e. let k = and_both (well_formed s) (args_formed c) e in
    let r = refusal_is s k.0 c k.1 in
    let o : Out = apply (view s) (view_call c) in
    applies s c k.0 k.1
    ∙ ap (result_as c) (apply_refuses (view s) (view_call c) (ap (λ (n : ℕ). eqb n 0) (sym r) ∙ h))
    ∙ as_refused (shape c) o.refusal (view s)
    ∙ ap₂ (refused_at (shape c)) (sym r) (back s k.0))
    (λ e. refused_1 s c e ∙ ap (λ (n : ℕ). refused_at (shape c) n s) (sym (malformed s c e).0))

pub leaves_nothing_lem : LeavesNothing
leaves_nothing_lem s c h = ap (state_in s) (only_refuses_lem s c h) ∙ (at_refused (shape c) (refusal s c) s).1

-- ---- fresh

pub fresh_one_lem : FreshOne
fresh_one_lem pair size limit factor server = test (fresh_formed pair limit)
  where
    test : (b : Bool) → (cond b (accepted Nothing (fresh pair size limit factor server)) (refused 1 zero_table)).refusal ≡ cond b 0 1
    test true = refl
    test false = refl

pub is_start_lem : IsStart
is_start_lem server factor s (started pair size limit e) = subst (Starts server factor) (sym (view_of (fresh_call pair size limit factor server).table)) (starts pair size limit e)

pub fresh_well_lem : FreshWell
fresh_well_lem server factor s (started pair size limit e) =
    let t : Table = (fresh_call pair size limit factor server).table in
    well_of_table t (K.fresh_well_lem server factor t (starts pair size limit e))

-- ---- runs

pub runs_well_lem : RunsWell
runs_well_lem s [] w = w
runs_well_lem s (c ∷ cs) w = runs_well_lem (made s c) cs (keeps_well_lem s c w)

pub is_run_lem : IsRun
is_run_lem s [] w = refl
is_run_lem s (c ∷ cs) w = is_run_lem (made s c) cs (keeps_well_lem s c w) ∙ test (args_formed c) refl
  where
    test : (b : Bool) → args_formed c ≡ b → run (view (made s c)) (view_calls cs) ≡ run (view s) (map view_call (cond b (c ∷ keep args_formed cs) (keep args_formed cs)))
    test true e = ap (λ (v : Table). run v (view_calls cs)) (made_after s w c e)
    test false e = ap (λ (t : Paths). run (view t) (view_calls cs)) (malformed s c (and_no s w c e)).1

pub never_one_lem : NeverOne
never_one_lem server factor s f cs c =
    let t = calls s cs in
    let k = runs_well_lem s cs (fresh_well_lem server factor s f) in
    tested (args_formed c)
    (λ e. ap (λ (n : ℕ). eqb n 1) (refusal_is t k c e) ∙ K.one_is_form (view t) (view_call c) (well_view t k) ∙ ap not (args_call c e ∙ sym e))
    (λ e. ap (λ (n : ℕ). eqb n 1) (malformed t c (and_no t k c e)).0 ∙ sym (ap not e))

-- ---- no call of the rules is left over

abbrev published : (c : CodeCall) → args_formed c ≡ call_formed (view_call c) → Published (view_call c)
published c e = record { call = c; is = refl; formed = e }

abbrev looks : (q : ℕ) (r : Read) → Published (On q (Look r))
looks q C.Get = published (Get q) refl
looks q C.LocalAddr = published (LocalAddr q) refl
looks q C.RemoteAddr = published (RemoteAddr q) refl
looks q C.State = published (State q) refl
looks q C.Validated = published (Validated q) refl
looks q C.Active = published (Active q) refl
looks q C.Initiated = published (PathChalInitiated q) refl
looks q C.NeedsFrames = published (NeedSendValidationFrames q) refl
looks q C.NeedsPadding = published (NeedExpandPaddingFrames q) refl
looks q (C.Allowed wish) = published (CmpAntiAmplLimit q wish) refl

abbrev pub complete : Complete
complete (On q C.Initiate) = published (InitiatePathChal q) refl
complete (On q C.Pop) = published (PopRecvChal q) refl
complete (On q (C.Receive d)) = published (OnPathChalReceived q d) refl
complete (On q (C.Send d size now)) = published (OnPathChalSent q d size (record { us = now })) refl
complete (On q (C.Respond d now)) = published (OnPathRespReceived q d (record { us = now })) refl
complete (On q (C.Credit n)) = published (IncAntiAmplLimit q n) refl
complete (On q (C.Charge n)) = published (DecAntiAmplLimit q n) refl
complete (On q (C.SetScid none)) = published (SetScidSeq q false 0) refl
complete (On q (C.SetScid (some n))) = published (SetScidSeq q true n) refl
complete (On q (C.SetDcid none)) = published (SetDcidSeq q false 0) refl
complete (On q (C.SetDcid (some n))) = published (SetDcidSeq q true n) refl
complete (On q (C.SetActive b)) = published (SetActive q b) refl
complete (On q C.Verify) = published (MarkVerified q) refl
complete (On q (Look r)) = looks q r
complete (Insert pair m) = published (InsertPath pair m) refl
complete (C.Timeout now) = published (OnPathChalTimeout (record { us = now })) refl
complete (C.Ping none) = published (MarkPing false zero_pair) refl
complete (C.Ping (some pair)) = published (MarkPing true pair) refl
complete C.Multipath = published EnableMultipath refl
complete (Ask C.Len) = published Len refl
complete (Ask (C.IdOf pair)) = published (GetPathId pair) refl
complete (Ask C.GetActive) = published GetActive refl
complete (Ask C.Timer) = published MinPathChalTimer refl

-- ---- the totals

-- a call on one path that credits and charges nothing
neither : (p id : ℕ) → nothing ≡ cond (eqb id p) nothing nothing
neither p id = both (λ (m : Amounts). nothing ≡ m) (eqb id p) refl refl

amounts_are : (p : ℕ) (c : CodeCall) → amounts_to p c ≡ P.amounts_to p (view_call c)
amounts_are p (InsertPath pair size) = refl
amounts_are p Len = refl
amounts_are p (Get id) = neither p id
amounts_are p (GetPathId pair) = refl
amounts_are p GetActive = refl
amounts_are p (LocalAddr id) = neither p id
amounts_are p (RemoteAddr id) = neither p id
amounts_are p (State id) = neither p id
amounts_are p (Validated id) = neither p id
amounts_are p (Active id) = neither p id
amounts_are p (PathChalInitiated id) = neither p id
amounts_are p (NeedSendValidationFrames id) = neither p id
amounts_are p (NeedExpandPaddingFrames id) = neither p id
amounts_are p (InitiatePathChal id) = neither p id
amounts_are p (PopRecvChal id) = neither p id
amounts_are p (OnPathChalReceived id token) = neither p id
amounts_are p (OnPathChalSent id token size sent) = neither p id
amounts_are p (OnPathRespReceived id token now) = neither p id
amounts_are p (OnPathChalTimeout now) = refl
amounts_are p MinPathChalTimer = refl
amounts_are p (IncAntiAmplLimit id n) = refl
amounts_are p (DecAntiAmplLimit id n) = refl
amounts_are p (CmpAntiAmplLimit id wish) = neither p id
amounts_are p (MarkPing has pair) = refl
amounts_are p EnableMultipath = refl
amounts_are p (SetScidSeq id has seq) = neither p id
amounts_are p (SetDcidSeq id has seq) = neither p id
amounts_are p (SetActive id on) = neither p id
amounts_are p (MarkVerified id) = neither p id

-- a call whose arguments have not their form credits and charges nothing: a length is any number
true_not_false : true ≡ false → ⊥
true_not_false e = let z : ◌≡◌ {A = ℕ} 0 1 = cc in omega arith

no_amounts : (p : ℕ) (c : CodeCall) → args_formed c ≡ false → amounts_to p c ≡ nothing
no_amounts p (InsertPath pair size) e = refl
no_amounts p Len e = refl
no_amounts p (Get id) e = refl
no_amounts p (GetPathId pair) e = refl
no_amounts p GetActive e = refl
no_amounts p (LocalAddr id) e = refl
no_amounts p (RemoteAddr id) e = refl
no_amounts p (State id) e = refl
no_amounts p (Validated id) e = refl
no_amounts p (Active id) e = refl
no_amounts p (PathChalInitiated id) e = refl
no_amounts p (NeedSendValidationFrames id) e = refl
no_amounts p (NeedExpandPaddingFrames id) e = refl
no_amounts p (InitiatePathChal id) e = refl
no_amounts p (PopRecvChal id) e = refl
no_amounts p (OnPathChalReceived id token) e = refl
no_amounts p (OnPathChalSent id token size sent) e = refl
no_amounts p (OnPathRespReceived id token now) e = refl
no_amounts p (OnPathChalTimeout now) e = refl
no_amounts p MinPathChalTimer e = refl
no_amounts p (IncAntiAmplLimit id n) e = absurd (true_not_false e)
no_amounts p (DecAntiAmplLimit id n) e = absurd (true_not_false e)
no_amounts p (CmpAntiAmplLimit id wish) e = refl
no_amounts p (MarkPing has pair) e = refl
no_amounts p EnableMultipath e = refl
no_amounts p (SetScidSeq id has seq) e = refl
no_amounts p (SetDcidSeq id has seq) e = refl
no_amounts p (SetActive id on) e = refl
no_amounts p (MarkVerified id) e = refl

-- so the totals of the code's calls are those of the view's
abbrev Totals : ℕ → List CodeCall → List Call → Type 0
Totals p cs ds = (total_credit p cs ≡ P.total_credit p ds) × (total_charge p cs ≡ P.total_charge p ds)

totals_are : (p : ℕ) (cs : List CodeCall) → Totals p cs (view_calls cs)
totals_are p [] = (refl, refl)
totals_are p (c ∷ cs) = test (args_formed c) refl (totals_are p cs)
  where
    test : (b : Bool) → args_formed c ≡ b → Totals p cs (view_calls cs) → Totals p (c ∷ cs) (map view_call (cond b (c ∷ keep args_formed cs) (keep args_formed cs)))
    test true e r =
        let a = amounts_are p c in
        (ap₂ (λ (m : Amounts) (n : ℕ). m.credit + n) a r.0, ap₂ (λ (m : Amounts) (n : ℕ). m.charge + n) a r.1)
    test false e r =
        let a = no_amounts p c e in
        (omega (arith, ap (λ (m : Amounts). m.credit) a, r.0), omega (arith, ap (λ (m : Amounts). m.charge) a, r.1))

-- ---- the path p of the state is the path p of its view, at every place

item_is : (p : ℕ) (s : Paths) → well_formed s ≡ true → item p s ≡ path_of (path_at p (view s))
item_is p s w =
    ap (λ (l : List Path). get_or l p zero_path) (items_is s (tidy s w))
    ∙ padded_at max_paths_limit zero_path (map path_of (view s).paths) p
    ∙ get_or-map path_of (view s).paths p R.zero_path

allowance_is : (p : ℕ) (s : Paths) → well_formed s ≡ true → allowance p s ≡ (path_at p (view s)).credit
allowance_is p s w = ap (λ (x : Path). x.anti_ampl_limit) (item_is p s w)

verified_is : (p : ℕ) (s : Paths) → well_formed s ≡ true → (item p s).verified_peer_address ≡ (path_at p (view s)).verified
verified_is p s w = ap (λ (x : Path). x.verified_peer_address) (item_is p s w)

sent_is : (p token : ℕ) (s : Paths) → well_formed s ≡ true → sent_on p token s ≡ matches token (path_at p (view s))
sent_is p token s w =
    sym (any_view token (standing (item p s).sent_chals))
    ∙ ap (λ (x : Rec.Path). matches token x) (ap path_view (item_is p s w) ∙ path_of_lem (path_at p (view s)))

-- ---- the period is one of the view

lasts_is : (p : ℕ) (cs : List CodeCall) (s : Paths) → well_formed s ≡ true → Lasts p s cs → P.Lasts p (view s) (view_calls cs)
lasts_is p [] s w l = tt
lasts_is p (c ∷ cs) s w l = test (args_formed c) refl (lasts_is p cs (made s c) (keeps_well_lem s c w) l.2)
  where
    test : (b : Bool) → args_formed c ≡ b → P.Lasts p (view (made s c)) (view_calls cs)
        → P.Lasts p (view s) (map view_call (cond b (c ∷ keep args_formed cs) (keep args_formed cs)))
    test true e r = (
      sym (verified_is p s w) ∙ l.0,
      λ a. l.1 (new_is s w c e ∙ ap inserted_by a),
      subst (λ (v : Table). P.Lasts p v (view_calls cs)) (made_after s w c e) r,
    )
    test false e r = subst (λ (t : Paths). P.Lasts p (view t) (view_calls cs)) (malformed s c (and_no s w c e)).1 r

within_is : (p : ℕ) (cs : List CodeCall) (s : Paths) → well_formed s ≡ true → Within p s cs → P.Within p (view s) (view_calls cs)
within_is p [] s w l = tt
within_is p (c ∷ cs) s w l = test (args_formed c) refl (within_is p cs (made s c) (keeps_well_lem s c w) l.1)
  where
    test : (b : Bool) → args_formed c ≡ b → P.Within p (view (made s c)) (view_calls cs)
        → P.Within p (view s) (map view_call (cond b (c ∷ keep args_formed cs) (keep args_formed cs)))
    test true e r = (
      subst (λ (m : Amounts). m.charge ≤ (path_at p (view s)).credit) (amounts_are p c) (subst (λ (n : ℕ). (amounts_to p c).charge ≤ n) (allowance_is p s w) l.0),
      subst (λ (v : Table). P.Within p v (view_calls cs)) (made_after s w c e) r,
    )
    test false e r = subst (λ (t : Paths). P.Within p (view t) (view_calls cs)) (malformed s c (and_no s w c e)).1 r

begins_well : (f p : ℕ) (s : Paths) → Begins f p s → well_formed s ≡ true
begins_well f p s (first t b) = fresh_well_lem true f t b
begins_well f p s (inserted t b before pair size q e) = keeps_well_lem (calls t before) (InsertPath pair size) (runs_well_lem t before (fresh_well_lem true f t b))

begins_is : (f p : ℕ) (s : Paths) → Begins f p s → P.Begins f p (view s)
begins_is f p s (first t b) = P.first (view t) (is_start_lem true f t b)
begins_is f p s (inserted t b before pair size q e) =
    tested (pair_formed_of pair)
    (λ k. let m : (apply u (Insert pair size)).answer ≡ Inserted q =
    inserted_is (apply u (Insert pair size)).answer q (ap (λ (v : Table). inserted_by (apply v (Insert pair size)).answer) (sym h) ∙ sym (new_is v w (InsertPath pair size) k) ∙ e) in
    subst (P.Begins f q) (sym (made_after v w (InsertPath pair size) k ∙ ap (λ (v : Table). after v (Insert pair size)) h)) (P.inserted (view t) (is_start_lem true f t b) (view_calls before) pair size q m))
    (λ k. absurd (some_not_none (sym (at_refused AnInsertion 1 v).2 ∙ sym (ap inserted_in (refused_1 v (InsertPath pair size) (and_no v w (InsertPath pair size) k))) ∙ e)))
  where
    v : Paths
    v = calls t before

    u : Table
    u = run (view t) (view_calls before)

    w : well_formed v ≡ true
    w = runs_well_lem t before (fresh_well_lem true f t b)

    h : view v ≡ u
    h = is_run_lem t before (fresh_well_lem true f t b)

-- ---- the law of the allowance

-- the allowance after a run, and the totals, of the code and of the view
module _ (p : ℕ) (s : Paths) (w : well_formed s ≡ true) (cs : List CodeCall) (G : (credited charged left : ℕ) → Type 0) where
  carried : G (P.total_credit p (view_calls cs)) (P.total_charge p (view_calls cs)) (path_at p (run (view s) (view_calls cs))).credit → G (total_credit p cs) (total_charge p cs) (allowance p (calls s cs))
  carried g =
      subst (λ (n : ℕ). G n (total_charge p cs) (allowance p (calls s cs))) (sym (totals_are p cs).0)
      (subst (λ (n : ℕ). G (P.total_credit p (view_calls cs)) n (allowance p (calls s cs))) (sym (totals_are p cs).1)
      (subst (λ (n : ℕ). G (P.total_credit p (view_calls cs)) (P.total_charge p (view_calls cs)) n)
      (sym (allowance_is p (calls s cs) (runs_well_lem s cs w) ∙ ap (λ (v : Table). (path_at p v).credit) (is_run_lem s cs w))) g))

pub demand3 : Demand3
demand3 f p s b cs lasts within =
    let w = begins_well f p s b in
    carried p s w cs (λ (credited charged left : ℕ). (charged ≤ f * credited) × (f * credited < 2 ^ 64 → left ≡ f * credited - charged))
    (D.demand3 f p (view s) (begins_is f p s b) (view_calls cs) (lasts_is p cs s w lasts) (within_is p cs s w within))

pub starting_allowance_lem : StartingAllowance
starting_allowance_lem p s cs w server here lasts within =
    let x : ℕ = allowance p s in
    let f : ℕ = s.anti_ampl_factor in
    carried p s w cs (λ (credited charged left : ℕ). (charged + left ≤ x + f * credited) × (x + f * credited < 2 ^ 64 → charged + left ≡ x + f * credited))
    (subst (λ (x : ℕ). (P.total_charge p ds + left ≤ x + f * P.total_credit p ds) × (x + f * P.total_credit p ds < 2 ^ 64 → P.total_charge p ds + left ≡ x + f * P.total_credit p ds)) (sym (allowance_is p s w))
    (D.allowance p (view s) ds (well_view s w) server (omega (arith, paths_long s (tidy s w))) (lasts_is p cs s w lasts) (within_is p cs s w within)))
  where
    ds : List Call
    ds = view_calls cs

    left : ℕ
    left = (path_at p (run (view s) ds)).credit

pub one_run_lem : OneRun
one_run_lem s [] cs c = refl
one_run_lem s (b ∷ before) cs c = one_run_lem (made s b) before cs c

-- ---- the frame

-- the path p after a call, where state and arguments have their form; otherwise nothing changes
module _ (p : ℕ) (s : Paths) (c : CodeCall) (G : Path → Type 0) where
  framed : (well_formed s ≡ true → args_formed c ≡ true → G (path_of (path_at p (after (view s) (view_call c))))) → G (item p s) → G (item p (made s c))
  framed h k =
      tested (well_formed s && args_formed c)
      (λ e. let a = and_both (well_formed s) (args_formed c) e in
      subst G (sym (item_is p (made s c) (keeps_well_lem s c a.0) ∙ ap (λ (v : Table). path_of (path_at p v)) (made_after s a.0 c a.1))) (h a.0 a.1))
      (λ e. subst (λ (t : Paths). G (item p t)) (sym (malformed s c e).1) k)

pub frame : Frame
frame p q s c n other = framed p s c (λ (x : Path). x ≡ item p s) (λ w e. ap path_of (F.frame p q (view s) (view_call c) n other) ∙ sym (item_is p s w)) refl

pub insertion_frame_lem : InsertionFrame
insertion_frame_lem p pair size s h b =
    framed p s (InsertPath pair size) (λ (x : Path). with_listed b x ≡ with_listed b (item p s))
    (λ w e. ap path_of (F.insertion_frame_lem p pair size (view s) (λ a. h (new_is s w (InsertPath pair size) e ∙ ap inserted_by a)) b) ∙ sym (ap (with_listed b) (item_is p s w)))
    refl

pub insertion_unlists_lem : InsertionUnlists
insertion_unlists_lem p pair size s h =
    framed p s (InsertPath pair size) (λ (x : Path). x.listed ≡ true → (item p s).listed ≡ true)
    (λ w e l. ap (λ (x : Path). x.listed) (item_is p s w)
    ∙ F.insertion_unlists_lem p pair size (view s) (λ a. h (new_is s w (InsertPath pair size) e ∙ ap inserted_by a)) l)
    (λ l. l)

-- a call on one path is that of one call of the code
abbrev code_of : Call → CodeCall
code_of c = (complete c).call

one_is : (c : CodeCall) (p : ℕ) (a : Act) → args_formed c ≡ true → view_call c ≡ On p a → c ≡ code_of (On p a)
one_is (InsertPath pair size) p a e q = ap code_of q
one_is Len p a e q = ap code_of q
one_is (Get id) p a e q = ap code_of q
one_is (GetPathId pair) p a e q = ap code_of q
one_is GetActive p a e q = ap code_of q
one_is (LocalAddr id) p a e q = ap code_of q
one_is (RemoteAddr id) p a e q = ap code_of q
one_is (State id) p a e q = ap code_of q
one_is (Validated id) p a e q = ap code_of q
one_is (Active id) p a e q = ap code_of q
one_is (PathChalInitiated id) p a e q = ap code_of q
one_is (NeedSendValidationFrames id) p a e q = ap code_of q
one_is (NeedExpandPaddingFrames id) p a e q = ap code_of q
one_is (InitiatePathChal id) p a e q = ap code_of q
one_is (PopRecvChal id) p a e q = ap code_of q
one_is (OnPathChalReceived id token) p a e q = ap code_of q
one_is (OnPathChalSent id token size sent) p a e q = ap code_of q
one_is (OnPathRespReceived id token now) p a e q = ap code_of q
one_is (OnPathChalTimeout now) p a e q = ap code_of q
one_is MinPathChalTimer p a e q = ap code_of q
one_is (IncAntiAmplLimit id n) p a e q = ap code_of q
one_is (DecAntiAmplLimit id n) p a e q = ap code_of q
one_is (CmpAntiAmplLimit id wish) p a e q = ap code_of q
one_is (MarkPing has pair) p a e q = let z : ◌≡◌ {A = ℕ} 0 1 = cc in absurd (omega arith)
one_is EnableMultipath p a e q = ap code_of q
one_is (SetScidSeq id true seq) p a e q = ap code_of q
one_is (SetScidSeq id false seq) p a e q = ap (SetScidSeq id false) (nought_is seq e) ∙ ap code_of q
one_is (SetDcidSeq id true seq) p a e q = ap code_of q
one_is (SetDcidSeq id false seq) p a e q = ap (SetDcidSeq id false) (nought_is seq e) ∙ ap code_of q
one_is (SetActive id on) p a e q = ap code_of q
one_is (MarkVerified id) p a e q = ap code_of q

pub only_verified_lem : OnlyVerified
only_verified_lem p s c mark response h =
    framed p s c (λ (x : Path). x.verified_peer_address ≡ false)
    (λ w e. F.only_verified_lem p (view s) (view_call c)
    (λ q. mark (one_is c p C.Verify e q))
    (λ d now q v m. response d (record { us = now }) (one_is c p (C.Respond d now) e q) (ap (λ (x : Path). eqb x.state rank_validated) (item_is p s w) ∙ v) (sent_is p d s w ∙ m))
    (sym (verified_is p s w) ∙ h)) h

pub unasked : Unasked
unasked p token now s e = ap Response (test (well_formed s && moment_formed_of now.us) refl)
  where
    c : Call
    c = On p (C.Respond token now.us)

    test : (b : Bool) → (well_formed s && moment_formed_of now.us) ≡ b
        → cond b (responded_of (step (view s) c)) (responded_at 1 false [] s) ≡ responded_at (cond b 0 1) false [] s
    test true h =
        let w = (and_both (well_formed s) (moment_formed_of now.us) h).0 in
        ap responded_of (F.unheeded p token now.us (view s) (sym (sent_is p token s w) ∙ e)) ∙ ap (responded_at 0 false []) (view_is s (tidy s w))
    test false h = refl

pub only_credit_lem : OnlyCredit
only_credit_lem p s c credit charge new =
    framed p s c (λ (x : Path). x.anti_ampl_limit ≡ allowance p s)
    (λ w e. F.only_credit_lem p (view s) (view_call c)
    (λ n q. credit n (one_is c p (C.Credit n) e q)) (λ n q. charge n (one_is c p (C.Charge n) e q)) (λ a. new (new_is s w c e ∙ ap inserted_by a))
    ∙ sym (allowance_is p s w)) refl

-- ---- all of it

pub held : Promises
held = record {
  applies = applies;
  complete = complete;
  malformed = malformed;
  only_refuses = only_refuses_lem;
  leaves_nothing = leaves_nothing_lem;
  keeps_well = keeps_well_lem;
  fresh_one = fresh_one_lem;
  fresh_well = fresh_well_lem;
  runs_well = runs_well_lem;
  never_one = never_one_lem;
  is_run = is_run_lem;
  is_start = is_start_lem;
  demand3 = demand3;
  starting_allowance = starting_allowance_lem;
  one_run = one_run_lem;
  frame = frame;
  insertion_frame = insertion_frame_lem;
  insertion_unlists = insertion_unlists_lem;
  only_verified = only_verified_lem;
  unasked = unasked;
  only_credit = only_credit_lem;
}
