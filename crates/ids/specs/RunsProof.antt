-- Every promise of Runs.antt holds.
use Rattle.std.specs.Prelude.{ℕ, ◌≤◌, ◌≡◌, refl, List, [], ◌∷◌, ◌++◌, map, Bool, true, false, cond, not, ◌&&◌, ◌||◌, eqb, leb, length}
use Rattle.std.proofs.Common.{sym, ap, ap₂, ◌∙◌, subst, append-nil, arith, ne_eqb}
use Rattle.std.proofs.Math.Bool.{and-true}
use Rattle.std.proofs.Math.Option.{Option, none, some}
use Rattle.std.proofs.lemmas.Bool.{not-true}
use Rattle.lists.specs.Defs.{given, present, maybe, any, all, keep, has}
use Rattle.lists.specs.Bools.{and_both}
use Rattle.values.specs.Limits.{queue_slots}
use Rattle.values.specs.Cid.{id_formed}
use Rattle.values.specs.Token.{token_formed_of, token_view}
use Rattle.values.specs.declared.cid.ConnectionId.{ConnectionId}
use Rattle.values.specs.Answers.{counted_at, flagged_at, numbered_at}
use Rattle.ids_rules.specs.Values.{Item, seq_of, has_seq}
use Rattle.ids_rules.specs.View.{View, Out, Answer, Nothing, refused, accepted}
use Rattle.ids_rules.specs.Steps.{fresh, zero_view, fresh_formed, fresh_call}
use Rattle.ids_rules.specs.Well.{well}
use Rattle.ids_rules.specs.Calls.{Query, GetScid, GetDcid, FindScid, UnusedScids, UnusedDcids, LowestUnusedDcidSeq, NextScidToAdvertise, NextDcidToRetire, CreateNewConnectionIdFrame, NeedSendCidControlFrames, ZeroLengthScid, ZeroLengthDcid, ScidCount, ScidAt, DcidCount, DcidAt}
use Rattle.ids_rules.specs.Calls.{Call, query_formed, call_formed, step, apply, after, run}
use Rattle.ids_rules.proofs.Ends.{AddScidEnds, refuses, raises, issues as issues_one, RetireScidEnds, unissued, only, absent, out, frees, AddDcidEnds, rejects, again, waits, late4, late, lowers, renews, adds, add_scid_ends, retire_scid_ends, add_dcid_ends}
use Rattle.ids_rules.specs.Laws.{decided, or_neither}
use Rattle.ids_rules.proofs.Once.{reply_quiet}
use Rattle.ids_rules.proofs.Below.{never_early, first_early}
use Rattle.ids_rules.specs.Promise.{Starts, starts, issued_by, counted, sequences, never_after}
use Rattle.ids_rules.proofs.Promised.{promised}
use Rattle.tables.specs.Table.{live, at_least}
use Rattle.ids_state.specs.Formed.{well_formed}
use Rattle.ids_state.specs.declared.state.Ids.{Ids}
use Rattle.ids.specs.Reading.{item_view, view, ids_of, token_of, path_of, parts_of, Sought, Fields, path_formed_of, found_at, frame_at, found_answer_of, frame_of, done_of, issued_of, freed_of, retired_of, counted_of, flagged_of, numbered_of, item_answer_of, checked}
use Rattle.ids.specs.Reading.{item_at_of, done_call, issued_call, freed_call, retired_call}
use Rattle.ids.specs.ReadingLaws.{view_of, view_is}
use Rattle.ids.specs.WellLaws.{view_well, state_well, step_applies}
use Rattle.ids.specs.Runs.{CodeCall, SetInitialDcid, SetScidLimit, AddScid, RetireScid, AddDcid, MarkScidUsed, MarkDcidUsed, MarkScidToAdvertise, MarkDcidToRetire, Reads, started}
use Rattle.ids.specs.Runs.{Done, Issued, Freed, Retired, ACount, AFlag, ANumber, AnItem, AFound, AFrame}
use Rattle.ids.specs.Runs.{Shape, ADone, AnIssue, AFreed, ARetired, Counts, Flags, Numbers, Items, Finds, Frames, Result}
use Rattle.ids.specs.Runs.{args_formed, asked, result, state_in, refusal_in, made, refusal, calls, view_call, view_calls, asked_shape, shape, replied, shaped, result_as, refused_at, issued_in, issues, history, retires, logged, remaining, sets_initial, takes_frame, none_below}
use Rattle.ids.specs.Runs.{Applies, Published, Complete, Malformed, OnlyRefuses, LeavesNothing, KeepsWell, FreshOne, FreshWell, RunsWell, NeverOne, IsRun, IsStart, WithoutGap, TableIsHistory, NeverReturns, NoneBelow, NoneBelowEarly, Promises}
use Rattle.ids_rules.specs.Calls as C
use Rattle.ids_rules.specs.Promise as P
use Rattle.tables.specs.declared.items.Item as I

-- ---- the contract is `apply`

-- arguments of their form in the code are so on the view
args_call : (c : CodeCall) → args_formed c ≡ true → call_formed (view_call c) ≡ true
args_call (SetInitialDcid cid token has path) e = (and_both (id_formed cid) _ (and_both (id_formed cid && token_formed_of token) _ e).0).0
args_call (SetScidLimit n) e = refl
args_call (AddScid cid token advertise has path retire_if_needed) e = (and_both (id_formed cid) _ (and_both (id_formed cid && token_formed_of token) _ e).0).0
args_call (RetireScid seq packet) e = e
args_call (AddDcid cid seq token b) e = e
args_call (MarkScidUsed seq path) e = refl
args_call (MarkDcidUsed seq path) e = refl
args_call (MarkScidToAdvertise seq on) e = refl
args_call (MarkDcidToRetire seq on) e = refl
args_call (Reads q) e = e

-- the contract of a call, by the shape of its result; f: the arguments have their form
abbrev contract : Shape → Ids → (f : Bool) → Call → Result
contract ADone s f c = Done (done_call s f c)
contract AnIssue s f c = Issued (issued_call s f c)
contract AFreed s f c = Freed (freed_call s f c)
contract ARetired s f c = Retired (retired_call s f c)
contract Counts s f c = ACount (checked s f (counted_of (replied (step (view s) c))) (counted_at 1 0))
contract Flags s f c = AFlag (checked s f (flagged_of (replied (step (view s) c))) (flagged_at 1 false))
contract Numbers s f c = ANumber (checked s f (numbered_of (replied (step (view s) c))) (numbered_at 1 none))
contract Items s f c = AnItem (checked s f (item_answer_of (replied (step (view s) c))) (item_at_of 1 none))
contract Finds s f c = AFound (checked s f (found_answer_of (replied (step (view s) c))) (found_at 1 none))
contract Frames s f c = AFrame (checked s f (frame_of (replied (step (view s) c))) (frame_at 1 none))

asked_is : (s : Ids) (q : Query) → asked s q ≡ contract (asked_shape q) s (query_formed q) (C.Ask q)
asked_is s (GetScid seq) = refl
asked_is s (GetDcid seq) = refl
asked_is s (FindScid cid) = refl
asked_is s UnusedScids = refl
asked_is s UnusedDcids = refl
asked_is s LowestUnusedDcidSeq = refl
asked_is s NextScidToAdvertise = refl
asked_is s NextDcidToRetire = refl
asked_is s (CreateNewConnectionIdFrame seq) = refl
asked_is s NeedSendCidControlFrames = refl
asked_is s ZeroLengthScid = refl
asked_is s ZeroLengthDcid = refl
asked_is s ScidCount = refl
asked_is s (ScidAt place) = refl
asked_is s DcidCount = refl
asked_is s (DcidAt place) = refl

result_is : (s : Ids) (c : CodeCall) → result s c ≡ contract (shape c) s (args_formed c) (view_call c)
result_is s (SetInitialDcid cid token has path) = refl
result_is s (SetScidLimit n) = refl
result_is s (AddScid cid token advertise has path retire_if_needed) = refl
result_is s (RetireScid seq packet) = refl
result_is s (AddDcid cid seq token b) = refl
result_is s (MarkScidUsed seq path) = refl
result_is s (MarkDcidUsed seq path) = refl
result_is s (MarkScidToAdvertise seq on) = refl
result_is s (MarkDcidToRetire seq on) = refl
result_is s (Reads q) = asked_is s q

-- a test inside, whose outcome is known
pick : {A B : Type 0} (f : A → B) (x y : A) (b v : Bool) → b ≡ v → f (cond b x y) ≡ cond v (f x) (f y)
pick f x y b true e = ap (λ (a : Bool). f (cond a x y)) e
pick f x y b false e = ap (λ (a : Bool). f (cond a x y)) e

-- what was tested chooses between the step and refusal 1
chooses : (k : Shape) (s : Ids) (f : Bool) (c : Call) (v : Bool) → (well_formed s && f) ≡ v → contract k s f c ≡ cond v (shaped k (step (view s) c)) (refused_at k 1 s)
chooses ADone s f c v e = pick Done (done_of (step (view s) c)) _ (well_formed s && f) v e
chooses AnIssue s f c v e = pick Issued (issued_of (step (view s) c)) _ (well_formed s && f) v e
chooses AFreed s f c v e = pick Freed (freed_of (step (view s) c)) _ (well_formed s && f) v e
chooses ARetired s f c v e = pick Retired (retired_of (step (view s) c)) _ (well_formed s && f) v e
chooses Counts s f c v e = pick ACount (counted_of (replied (step (view s) c))) _ (well_formed s && f) v e
chooses Flags s f c v e = pick AFlag (flagged_of (replied (step (view s) c))) _ (well_formed s && f) v e
chooses Numbers s f c v e = pick ANumber (numbered_of (replied (step (view s) c))) _ (well_formed s && f) v e
chooses Items s f c v e = pick AnItem (item_answer_of (replied (step (view s) c))) _ (well_formed s && f) v e
chooses Finds s f c v e = pick AFound (found_answer_of (replied (step (view s) c))) _ (well_formed s && f) v e
chooses Frames s f c v e = pick AFrame (frame_of (replied (step (view s) c))) _ (well_formed s && f) v e

pub applies : Applies
applies s c w e =
    result_is s c
    ∙ chooses (shape c) s (args_formed c) (view_call c) true (ap₂ ◌&&◌ w e)
    ∙ ap (result_as c) (sym (step_applies s w (view_call c) (args_call c e)))

-- ---- or refusal 1

pub malformed : Malformed
malformed s c e = result_is s c ∙ chooses (shape c) s (args_formed c) (view_call c) false e

-- ---- what a result has

found_refusal : (n : ℕ) (o : Option Sought) → (found_at n o).refusal ≡ n
found_refusal n none = refl
found_refusal n (some f) = refl

frame_refusal : (n : ℕ) (o : Option Fields) → (frame_at n o).refusal ≡ n
frame_refusal n none = refl
frame_refusal n (some f) = refl

as_refusal : (k : Shape) (o : Out) → refusal_in (shaped k o) ≡ o.refusal
as_refusal ADone o = refl
as_refusal AnIssue o = refl
as_refusal AFreed o = refl
as_refusal ARetired o = refl
as_refusal Counts o = refl
as_refusal Flags o = refl
as_refusal Numbers o = refl
as_refusal Items o = refl
as_refusal Finds o = found_refusal o.refusal (parts_of o.answer).sought
as_refusal Frames o = frame_refusal o.refusal (parts_of o.answer).fields

-- of a refusal: its number, its state, and that it issues nothing
at_refused : (k : Shape) (s : Ids) → (refusal_in (refused_at k 1 s) ≡ 1) × (state_in s (refused_at k 1 s) ≡ s) × (issued_in (refused_at k 1 s) ≡ [])
at_refused ADone s = (refl, refl, refl)
at_refused AnIssue s = (refl, refl, refl)
at_refused AFreed s = (refl, refl, refl)
at_refused ARetired s = (refl, refl, refl)
at_refused Counts s = (refl, refl, refl)
at_refused Flags s = (refl, refl, refl)
at_refused Numbers s = (refl, refl, refl)
at_refused Items s = (refl, refl, refl)
at_refused Finds s = (refl, refl, refl)
at_refused Frames s = (refl, refl, refl)

module _ (s : Ids) (c : CodeCall) (e : (well_formed s && args_formed c) ≡ false) where
  one_refusal : refusal s c ≡ 1
  one_refusal = ap refusal_in (malformed s c e) ∙ (at_refused (shape c) s).0

  one_made : made s c ≡ s
  one_made = ap (state_in s) (malformed s c e) ∙ (at_refused (shape c) s).1

-- an outcome that answers nothing is given as a refusal with its number and its state
as_refused : (k : Shape) (n : ℕ) (v : View) → shaped k (refused n v) ≡ refused_at k n (ids_of v)
as_refused ADone n v = refl
as_refused AnIssue n v = refl
as_refused AFreed n v = refl
as_refused ARetired n v = refl
as_refused Counts n v = refl
as_refused Flags n v = refl
as_refused Numbers n v = refl
as_refused Items n v = refl
as_refused Finds n v = refl
as_refused Frames n v = refl

asked_state : (s : Ids) (q : Query) → state_in s (asked s q) ≡ s
asked_state s (GetScid seq) = refl
asked_state s (GetDcid seq) = refl
asked_state s (FindScid cid) = refl
asked_state s UnusedScids = refl
asked_state s UnusedDcids = refl
asked_state s LowestUnusedDcidSeq = refl
asked_state s NextScidToAdvertise = refl
asked_state s NextDcidToRetire = refl
asked_state s (CreateNewConnectionIdFrame seq) = refl
asked_state s NeedSendCidControlFrames = refl
asked_state s ZeroLengthScid = refl
asked_state s ZeroLengthDcid = refl
asked_state s ScidCount = refl
asked_state s (ScidAt place) = refl
asked_state s DcidCount = refl
asked_state s (DcidAt place) = refl

ask_after : (v : View) (q : Query) → after v (C.Ask q) ≡ v
ask_after v q = decided (λ (o : Out). o.view ≡ v) (well v && query_formed q) (λ e. refl) (λ e. refl)

module _ (s : Ids) (w : well_formed s ≡ true) where
  pub refusal_is : (c : CodeCall) → args_formed c ≡ true → refusal s c ≡ (apply (view s) (view_call c)).refusal
  refusal_is c e = ap refusal_in (applies s c w e) ∙ as_refusal (shape c) (apply (view s) (view_call c))

  -- the state after a call is the one that the view after it stands for
  pub made_is : (c : CodeCall) → args_formed c ≡ true → made s c ≡ ids_of (after (view s) (view_call c))
  made_is (SetInitialDcid cid token has path) e = ap (state_in s) (applies s (SetInitialDcid cid token has path) w e)
  made_is (SetScidLimit n) e = ap (state_in s) (applies s (SetScidLimit n) w e)
  made_is (AddScid cid token advertise has path retire_if_needed) e = ap (state_in s) (applies s (AddScid cid token advertise has path retire_if_needed) w e)
  made_is (RetireScid seq packet) e = ap (state_in s) (applies s (RetireScid seq packet) w e)
  made_is (AddDcid cid seq token b) e = ap (state_in s) (applies s (AddDcid cid seq token b) w e)
  made_is (MarkScidUsed seq path) e = ap (state_in s) (applies s (MarkScidUsed seq path) w e)
  made_is (MarkDcidUsed seq path) e = ap (state_in s) (applies s (MarkDcidUsed seq path) w e)
  made_is (MarkScidToAdvertise seq on) e = ap (state_in s) (applies s (MarkScidToAdvertise seq on) w e)
  made_is (MarkDcidToRetire seq on) e = ap (state_in s) (applies s (MarkDcidToRetire seq on) w e)
  made_is (Reads q) e = asked_state s q ∙ sym (view_is s w) ∙ ap ids_of (sym (ask_after (view s) q))

  pub made_after : (c : CodeCall) → args_formed c ≡ true → view (made s c) ≡ after (view s) (view_call c)
  made_after c e = ap view (made_is c e) ∙ view_of (after (view s) (view_call c))

  and_no : (c : CodeCall) → args_formed c ≡ false → (well_formed s && args_formed c) ≡ false
  and_no c e = ap₂ ◌&&◌ w e

-- a test passes or does not
tested : {P : Type 0} (b : Bool) → (b ≡ true → P) → (b ≡ false → P) → P
tested true h k = h refl
tested false h k = k refl

pub keeps_well_lem : KeepsWell
keeps_well_lem s c w =
    tested (args_formed c)
    (λ e. ap well_formed (made_is s w c e) ∙ state_well (after (view s) (view_call c)) (promised.keeps_well (view s) (view_call c) (view_well s w)))
    (λ e. ap well_formed (one_made s c (and_no s w c e)) ∙ w)

pub leaves_nothing_lem : LeavesNothing
leaves_nothing_lem s c h =
    tested (well_formed s && args_formed c)
    (λ e. let k = and_both (well_formed s) (args_formed c) e in
    let q = promised.leaves_nothing (view s) (view_call c) (ap (λ (n : ℕ). eqb n 1 || leb 5 n) (sym (refusal_is s k.0 c k.1)) ∙ h) in
    made_is s k.0 c k.1 ∙ ap ids_of q ∙ view_is s k.0)
    (λ e. one_made s c e)

pub only_refuses_lem : OnlyRefuses
only_refuses_lem s c h =
    tested (well_formed s && args_formed c)
    (λ e. let k = and_both (well_formed s) (args_formed c) e in
    let r = refusal_is s k.0 c k.1 in
    let o : Out = apply (view s) (view_call c) in
    let q : o.answer ≡ Nothing = promised.refused_is_quiet (view s) (view_call c) (ap (λ (n : ℕ). eqb n 0) (sym r) ∙ h) in
    applies s c k.0 k.1
    ∙ ap (λ (a : Answer). result_as c (record { refusal = o.refusal; answer = a; view = o.view })) q
    ∙ as_refused (shape c) o.refusal o.view
    ∙ ap₂ (refused_at (shape c)) (sym r) (sym (made_is s k.0 c k.1)))
    (λ e. malformed s c e ∙ ap₂ (refused_at (shape c)) (sym (one_refusal s c e)) (sym (one_made s c e)))

-- ---- no call of the rules is left over

abbrev published : (c : CodeCall) → args_formed c ≡ call_formed (view_call c) → Published (view_call c)
published c e = record { call = c; is = refl; formed = e }

-- an optional token and an optional path, as the code takes them
abbrev given_one : (cid : ConnectionId) (token : Option (List ℕ)) (path : Option ℕ) → (id_formed cid && token_formed_of (token_of token) && path_formed_of (present path) (path_of path)) ≡ id_formed cid
given_one cid none none = and-true (id_formed cid && true) ∙ and-true (id_formed cid)
given_one cid none (some p) = and-true (id_formed cid && true) ∙ and-true (id_formed cid)
given_one cid (some t) none = and-true (id_formed cid && true) ∙ and-true (id_formed cid)
given_one cid (some t) (some p) = and-true (id_formed cid && true) ∙ and-true (id_formed cid)

pub read_token : (o : Option (List ℕ)) → token_view (token_of o) ≡ o
read_token none = refl
read_token (some t) = refl

pub read_path : (o : Option ℕ) → given (present o) (path_of o) ≡ o
read_path none = refl
read_path (some p) = refl

abbrev pub complete : Complete
complete (C.SetInitialDcid cid token path) = record {
  call = SetInitialDcid cid (token_of token) (present path) (path_of path);
  is = ap₂ (λ (t : Option (List ℕ)) (p : Option ℕ). C.SetInitialDcid cid t p) (read_token token) (read_path path);
  formed = given_one cid token path;
}
complete (C.SetScidLimit n) = published (SetScidLimit n) refl
complete (C.AddScid cid token advertise path retire_if_needed) = record {
  call = AddScid cid (token_of token) advertise (present path) (path_of path) retire_if_needed;
  is = ap₂ (λ (t : Option (List ℕ)) (p : Option ℕ). C.AddScid cid t advertise p retire_if_needed) (read_token token) (read_path path);
  formed = given_one cid token path;
}
complete (C.RetireScid s packet) = published (RetireScid s packet) refl
complete (C.AddDcid cid s token b) = published (AddDcid cid s (record { bytes = token }) b) refl
complete (C.MarkScidUsed s p) = published (MarkScidUsed s p) refl
complete (C.MarkDcidUsed s p) = published (MarkDcidUsed s p) refl
complete (C.MarkScidToAdvertise s on) = published (MarkScidToAdvertise s on) refl
complete (C.MarkDcidToRetire s on) = published (MarkDcidToRetire s on) refl
complete (C.Ask q) = published (Reads q) refl

-- ---- fresh

pub fresh_one_lem : FreshOne
fresh_one_lem dcid_limit cid path token = test (token_formed_of token) (fresh_formed dcid_limit cid)
  where
    test : (t f : Bool) → (cond t (cond f (accepted Nothing (fresh dcid_limit cid path (token_view token))) (refused 1 zero_view)) (refused 1 zero_view)).refusal ≡ cond (t && f) 0 1
    test true true = refl
    test true false = refl
    test false f = refl

pub is_start_lem : IsStart
is_start_lem s (started dcid_limit cid path token e) = test (token_formed_of token) e
  where
    test : (t : Bool) → (done_of (cond t (fresh_call dcid_limit cid path (token_view token)) (refused 1 zero_view))).answer.refusal ≡ 0
        → Starts (view (done_of (cond t (fresh_call dcid_limit cid path (token_view token)) (refused 1 zero_view))).ids)
    test true e = subst Starts (sym (view_of (fresh_call dcid_limit cid path (token_view token)).view)) (starts dcid_limit cid path (token_view token) e)
    test false e = absurd (omega arith)

pub fresh_well_lem : FreshWell
fresh_well_lem s (started dcid_limit cid path token e) = test (token_formed_of token) e
  where
    test : (t : Bool) → (done_of (cond t (fresh_call dcid_limit cid path (token_view token)) (refused 1 zero_view))).answer.refusal ≡ 0
        → well_formed (done_of (cond t (fresh_call dcid_limit cid path (token_view token)) (refused 1 zero_view))).ids ≡ true
    test true e = state_well (fresh_call dcid_limit cid path (token_view token)).view (promised.fresh_well (fresh_call dcid_limit cid path (token_view token)).view (starts dcid_limit cid path (token_view token) e))
    test false e = absurd (omega arith)

-- ---- runs

pub runs_well_lem : RunsWell
runs_well_lem s [] w = w
runs_well_lem s (c ∷ cs) w = runs_well_lem (made s c) cs (keeps_well_lem s c w)

pub is_run_lem : IsRun
is_run_lem s [] w = refl
is_run_lem s (c ∷ cs) w = is_run_lem (made s c) cs (keeps_well_lem s c w) ∙ test (args_formed c) refl
  where
    test : (b : Bool) → args_formed c ≡ b → run (view (made s c)) (view_calls cs) ≡ run (view s) (map view_call (cond b (c ∷ keep args_formed cs) (keep args_formed cs)))
    test true e = ap (λ (v : View). run v (view_calls cs)) (made_after s w c e)
    test false e = ap (λ (t : Ids). run (view t) (view_calls cs)) (one_made s c (and_no s w c e))

pub never_one_lem : NeverOne
never_one_lem s f cs c =
    let w = fresh_well_lem s f in
    let t = calls s cs in
    let k = runs_well_lem s cs w in
    tested (args_formed c)
    (λ e. ap (λ (n : ℕ). eqb n 1) (refusal_is t k c e ∙ ap (λ (v : View). (apply v (view_call c)).refusal) (is_run_lem s cs w))
    ∙ promised.never_one (view s) (is_start_lem s f) (view_calls cs) (view_call c) ∙ ap not (args_call c e ∙ sym e))
    (λ e. ap (λ (n : ℕ). eqb n 1) (one_refusal t c (and_no t k c e)) ∙ sym (ap not e))

-- ---- the source sequences

abbrev Quiet : Out → Type 0
Quiet o = issued_by o.answer ≡ []

retire_quiet : {s : ℕ} {packet : ConnectionId} {v : View} {o : Out} → RetireScidEnds s packet v o → Quiet o
retire_quiet (unissued k) = refl
retire_quiet (only e) = refl
retire_quiet (absent e) = refl
retire_quiet (out n k a e) = refl
retire_quiet (frees x r a e l) = refl

dcid_quiet : {x : Item} {b : ℕ} {v : View} {o : Out} → AddDcidEnds x b v o → Quiet o
dcid_quiet (rejects n k) = refl
dcid_quiet (again e) = refl
dcid_quiet (waits n k q) = refl
dcid_quiet (late4 n k l) = refl
dcid_quiet (late n k l t) = refl
dcid_quiet (lowers m k n l q) = refl
dcid_quiet (renews n l q r t) = refl
dcid_quiet (adds n l q r) = refl

-- the sequence in the code's answer is the one that the view answers
not_0 : (n m : ℕ) → 2 ≤ n → cond (eqb n 0) (m ∷ []) [] ≡ []
not_0 n m k = ap (λ (b : Bool). cond b (m ∷ []) []) (ne_eqb n 0 (λ e. omega arith))

add_issued : {x : Item} {advertise : Bool} {v : View} {o : Out} → AddScidEnds x advertise v o → issued_in (Issued (issued_of o)) ≡ issued_by o.answer
add_issued (refuses n k) = not_0 n 0 k
add_issued (raises n r k t) = not_0 n 0 k.low
add_issued (issues_one r t n p l a) = refl

step_issued : (v : View) (c : CodeCall) → issued_in (result_as c (step v (view_call c))) ≡ issued_by (step v (view_call c)).answer
step_issued v (SetInitialDcid cid token has path) = refl
step_issued v (SetScidLimit n) = refl
step_issued v (AddScid cid token advertise has path retire_if_needed) = add_issued (add_scid_ends cid (token_view token) advertise (given has path) v retire_if_needed)
step_issued v (RetireScid seq packet) = sym (retire_quiet (retire_scid_ends seq packet v))
step_issued v (AddDcid cid seq token b) = sym (dcid_quiet (add_dcid_ends cid seq token.bytes b v))
step_issued v (MarkScidUsed seq path) = sym (decided Quiet (any (has_seq seq) v.scids) (λ e. refl) (λ e. refl))
step_issued v (MarkDcidUsed seq path) = sym (decided Quiet (any (has_seq seq) v.dcids) (λ e. refl) (λ e. refl))
step_issued v (MarkScidToAdvertise seq on) = sym (decided Quiet (on && leb queue_slots (length v.scids_to_advertise)) (λ e. refl) (λ e. refl))
step_issued v (MarkDcidToRetire seq on) = sym (decided Quiet (on && leb queue_slots (length v.dcids_to_retire)) (λ e. refl) (λ e. refl))
step_issued v (Reads q) = as_quiet q ∙ sym (reply_quiet v q)
  where
    as_quiet : (q : Query) → issued_in (shaped (asked_shape q) (step v (C.Ask q))) ≡ []
    as_quiet (GetScid seq) = refl
    as_quiet (GetDcid seq) = refl
    as_quiet (FindScid cid) = refl
    as_quiet UnusedScids = refl
    as_quiet UnusedDcids = refl
    as_quiet LowestUnusedDcidSeq = refl
    as_quiet NextScidToAdvertise = refl
    as_quiet NextDcidToRetire = refl
    as_quiet (CreateNewConnectionIdFrame seq) = refl
    as_quiet NeedSendCidControlFrames = refl
    as_quiet ZeroLengthScid = refl
    as_quiet ZeroLengthDcid = refl
    as_quiet ScidCount = refl
    as_quiet (ScidAt place) = refl
    as_quiet DcidCount = refl
    as_quiet (DcidAt place) = refl

-- the sequence that a call of its form issues is the one that the view answers; refused with 1, it issues nothing
module _ (s : Ids) (w : well_formed s ≡ true) (c : CodeCall) where
  issued_is : args_formed c ≡ true → issued_in (result s c) ≡ issued_by (apply (view s) (view_call c)).answer
  issued_is e =
      let a : step (view s) (view_call c) ≡ apply (view s) (view_call c) = sym (step_applies s w (view_call c) (args_call c e)) in
      ap issued_in (applies s c w e ∙ ap (result_as c) (sym a)) ∙ step_issued (view s) c ∙ ap (λ (o : Out). issued_by o.answer) a

  no_issue : args_formed c ≡ false → issued_in (result s c) ≡ []
  no_issue e = ap issued_in (malformed s c (and_no s w c e)) ∙ (at_refused (shape c) s).2

pub issues_is : (s : Ids) (cs : List CodeCall) → well_formed s ≡ true → issues s cs ≡ P.issues (P.history (view s) (view_calls cs))
issues_is s [] w = refl
issues_is s (c ∷ cs) w = ap (λ (l : List ℕ). issued_in (result s c) ++ l) (issues_is (made s c) cs (keeps_well_lem s c w)) ∙ test (args_formed c) refl
  where
    test : (b : Bool) → args_formed c ≡ b → issued_in (result s c) ++ P.issues (P.history (view (made s c)) (view_calls cs)) ≡ P.issues (P.history (view s) (map view_call (cond b (c ∷ keep args_formed cs) (keep args_formed cs))))
    test true e = ap₂ (λ (l : List ℕ) (v : View). l ++ P.issues (P.history v (view_calls cs))) (issued_is s w c e) (made_after s w c e)
    test false e = ap₂ (λ (l : List ℕ) (t : Ids). l ++ P.issues (P.history (view t) (view_calls cs))) (no_issue s w c e) (one_made s c (and_no s w c e))

pub without_gap_lem : WithoutGap
without_gap_lem s f cs = subst (λ (l : List ℕ). l ≡ counted 1 (length l)) (sym (issues_is s cs (fresh_well_lem s f))) (promised.without_gap (view s) (is_start_lem s f) (view_calls cs))

-- a call names the same sequence to retire
retires_is : (c : CodeCall) → P.retires (view_call c) ≡ retires c
retires_is (SetInitialDcid cid token has path) = refl
retires_is (SetScidLimit n) = refl
retires_is (AddScid cid token advertise has path retire_if_needed) = refl
retires_is (RetireScid seq packet) = refl
retires_is (AddDcid cid seq token b) = refl
retires_is (MarkScidUsed seq path) = refl
retires_is (MarkDcidUsed seq path) = refl
retires_is (MarkScidToAdvertise seq on) = refl
retires_is (MarkDcidToRetire seq on) = refl
retires_is (Reads q) = refl

-- what is kept of the history, from the sequence that is named, what is issued and the number
abbrev kept_of : List ℕ → Option ℕ → List ℕ → ℕ → List ℕ
kept_of l o i n = maybe o (l ++ i) (λ (s : ℕ). cond (eqb n 1) l (P.out s l))

kept_none : (l : List ℕ) (o : Option ℕ) → kept_of l o [] 1 ≡ l
kept_none l none = append-nil l
kept_none l (some s) = refl

pub remaining_is : (s : Ids) (cs : List CodeCall) (l : List ℕ) → well_formed s ≡ true → remaining l (history s cs) ≡ P.remaining l (P.history (view s) (view_calls cs))
remaining_is s [] l w = refl
remaining_is s (c ∷ cs) l w = remaining_is (made s c) cs (logged l (record { call = c; returned = result s c })) (keeps_well_lem s c w) ∙ test (args_formed c) refl
  where
    test : (b : Bool) → args_formed c ≡ b → P.remaining (logged l (record { call = c; returned = result s c })) (P.history (view (made s c)) (view_calls cs))
        ≡ P.remaining l (P.history (view s) (map view_call (cond b (c ∷ keep args_formed cs) (keep args_formed cs))))
    test true e =
        let o : Out = apply (view s) (view_call c) in
        ap₂ (λ (m : List ℕ) (v : View). P.remaining m (P.history v (view_calls cs)))
        (ap₂ (λ (i : List ℕ) (n : ℕ). kept_of l (retires c) i n) (issued_is s w c e) (refusal_is s w c e)
        ∙ ap (λ (r : Option ℕ). kept_of l r (issued_by o.answer) o.refusal) (sym (retires_is c)))
        (made_after s w c e)
    test false e =
        ap₂ (λ (m : List ℕ) (t : Ids). P.remaining m (P.history (view t) (view_calls cs)))
        (ap₂ (λ (i : List ℕ) (n : ℕ). kept_of l (retires c) i n) (no_issue s w c e) (one_refusal s c (and_no s w c e)) ∙ kept_none l (retires c))
        (one_made s c (and_no s w c e))

pub table_is_history_lem : TableIsHistory
table_is_history_lem s f cs =
    let w = fresh_well_lem s f in
    ap sequences (is_run_lem s cs w) ∙ promised.table_is_history (view s) (is_start_lem s f) (view_calls cs) ∙ sym (remaining_is s cs (0 ∷ []) w)

more : (cs ds : List CodeCall) → view_calls (cs ++ ds) ≡ view_calls cs ++ view_calls ds
more [] ds = refl
more (c ∷ cs) ds = test (args_formed c) (more cs ds)
  where
    test : (b : Bool) → view_calls (cs ++ ds) ≡ view_calls cs ++ view_calls ds
        → map view_call (cond b (c ∷ keep args_formed (cs ++ ds)) (keep args_formed (cs ++ ds))) ≡ map view_call (cond b (c ∷ keep args_formed cs) (keep args_formed cs)) ++ view_calls ds
    test true e = ap (λ (l : List Call). view_call c ∷ l) e
    test false e = e

pub never_returns_lem : NeverReturns
never_returns_lem s f cs ds n i o =
    let w = fresh_well_lem s f in
    ap (λ (v : View). has n (sequences v)) (is_run_lem s (cs ++ ds) w ∙ ap (run (view s)) (more cs ds))
    ∙ promised.never_returns (view s) (is_start_lem s f) (view_calls cs) (view_calls ds) n
    (ap (λ (l : List ℕ). has n (0 ∷ l)) (sym (issues_is s cs w)) ∙ i)
    (ap (λ (v : View). has n (sequences v)) (sym (is_run_lem s cs w)) ∙ o)

-- ---- retired destination sequences

-- what no call passes, none of the view's passes
none_view : (p : Call → Bool) (cs : List CodeCall) → any (λ (c : CodeCall). p (view_call c)) cs ≡ false → any p (view_calls cs) ≡ false
none_view p [] e = refl
none_view p (c ∷ cs) e = let w = or_neither (p (view_call c)) _ e in test (args_formed c) w.0 (none_view p cs w.1)
  where
    test : (b : Bool) → p (view_call c) ≡ false → any p (view_calls cs) ≡ false → any p (map view_call (cond b (c ∷ keep args_formed cs) (keep args_formed cs))) ≡ false
    test true n i = rw n i
    test false n i = i

early_view : (cs : List CodeCall) → never_after sets_initial takes_frame cs ≡ true → never_after P.sets_initial P.takes_frame (view_calls cs) ≡ true
early_view [] e = refl
early_view (c ∷ cs) e = test (args_formed c) (takes_frame c) refl e (early_view cs)
  where
    quiet : not (any sets_initial cs) ≡ true → any P.sets_initial (view_calls cs) ≡ false
    quiet e = none_view P.sets_initial cs (not-true (any sets_initial cs) e)

    test : (b f : Bool) → takes_frame c ≡ f → cond f (not (any sets_initial cs)) (never_after sets_initial takes_frame cs) ≡ true
        → (never_after sets_initial takes_frame cs ≡ true → never_after P.sets_initial P.takes_frame (view_calls cs) ≡ true)
        → never_after P.sets_initial P.takes_frame (map view_call (cond b (c ∷ keep args_formed cs) (keep args_formed cs))) ≡ true
    test true true q e i = rw (q, quiet e)
    test true false q e i = rw q (i e)
    test false true q e i = never_early P.sets_initial P.takes_frame (view_calls cs) (quiet e)
    test false false q e i = i e

-- the fields, read as lists
none_below_is : (s : Ids) → none_below s ≡ P.none_below (view s)
none_below_is s = each (live s.dcids)
  where
    each : (l : List I.Item) → all (at_least s.largest_peer_retire_prior_to) l ≡ all (leb s.largest_peer_retire_prior_to) (map seq_of (map item_view l))
    each [] = refl
    each (x ∷ l) = ap (λ (b : Bool). leb s.largest_peer_retire_prior_to x.seq && b) (each l)

pub none_below_early_lem : NoneBelowEarly
none_below_early_lem s f cs ds n =
    none_below_is (calls s cs) ∙ ap P.none_below (is_run_lem s cs (fresh_well_lem s f))
    ∙ promised.none_below_early (view s) (is_start_lem s f) (view_calls cs) (view_calls ds)
    (subst (λ (l : List Call). never_after P.sets_initial P.takes_frame l ≡ true) (more cs ds) (early_view (cs ++ ds) n))

pub none_below_lem : NoneBelow
none_below_lem s f cs ds i = none_below_early_lem s f cs ds (first_early sets_initial takes_frame (cs ++ ds) i)

-- ---- all of it

pub held : Promises
held = record {
  applies = applies;
  complete = complete;
  malformed = malformed;
  only_refuses = only_refuses_lem;
  leaves_nothing = leaves_nothing_lem;
  keeps_well = keeps_well_lem;
  fresh_one = fresh_one_lem;
  fresh_well = fresh_well_lem;
  runs_well = runs_well_lem;
  never_one = never_one_lem;
  is_run = is_run_lem;
  is_start = is_start_lem;
  without_gap = without_gap_lem;
  table_is_history = table_is_history_lem;
  never_returns = never_returns_lem;
  none_below = none_below_lem;
  none_below_early = none_below_early_lem;
}
