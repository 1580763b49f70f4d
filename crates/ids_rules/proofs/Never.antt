-- No run from a fresh state meets a 1 for its state.
use Rattle.std.specs.Prelude.{ℕ, ◌≤◌, ◌≡◌, refl, List, [], ◌∷◌, Bool, true, false, cond, not, ◌&&◌, length, eqb, leb}
use Rattle.std.proofs.Common.{arith, leb-true, ne_eqb}
use Rattle.lists.specs.Defs.{first, any}
use Rattle.lists.specs.Bools.{and_both}
use Rattle.values.specs.declared.cid.ConnectionId.{ConnectionId}
use Rattle.values.specs.Limits.{max_dcid_limit, queue_slots}
use Rattle.values.specs.Cid.{id_formed}
use Rattle.ids_rules.specs.Values.{Item, has_seq}
use Rattle.ids_rules.specs.View.{View, Nothing, Out, refused, accepted}
use Rattle.ids_rules.specs.Steps.{fresh, zero_view}
use Rattle.ids_rules.proofs.Ends.{AddScidEnds, refuses, raises, issues, RetireScidEnds, unissued, only, absent, out, frees, AddDcidEnds, rejects, again, waits, late4, late, lowers, renews, adds, add_scid_ends, retire_scid_ends, add_dcid_ends}
use Rattle.ids_rules.specs.Well.{well}
use Rattle.ids_rules.specs.Calls.{Call, SetInitialDcid, SetScidLimit, AddScid, RetireScid, AddDcid, MarkScidUsed, MarkDcidUsed, MarkScidToAdvertise, MarkDcidToRetire, Ask}
use Rattle.ids_rules.specs.Calls.{Query, GetScid, GetDcid, FindScid, UnusedScids, UnusedDcids, LowestUnusedDcidSeq, NextScidToAdvertise, NextDcidToRetire, CreateNewConnectionIdFrame, NeedSendCidControlFrames, ZeroLengthScid, ZeroLengthDcid, ScidCount, ScidAt, DcidCount, DcidAt}
use Rattle.ids_rules.specs.Calls.{Reply, reply, call_formed, step, after, run}
use Rattle.ids_rules.specs.Laws.{decided, optioned}
use Rattle.ids_rules.proofs.Kept.{well_is, is_well, step_well}
use Rattle.ids_rules.specs.Promise.{starts, FreshWell, KeepsWell, NeverOne}

-- ---- well formed

pub fresh_well_lem : FreshWell
fresh_well_lem v (starts dcid_limit cid path token e) = test (leb 1 dcid_limit && leb dcid_limit max_dcid_limit) (id_formed cid) refl refl e
  where
    test : (a b : Bool) → (leb 1 dcid_limit && leb dcid_limit max_dcid_limit) ≡ a → id_formed cid ≡ b → (cond (a && b) (accepted Nothing (fresh dcid_limit cid path token)) (refused 1 zero_view)).refusal ≡ 0
        → well (cond (a && b) (accepted Nothing (fresh dcid_limit cid path token)) (refused 1 zero_view)).view ≡ true
    test true true p q e =
        let w = and_both (leb 1 dcid_limit) (leb dcid_limit max_dcid_limit) p in
        is_well (fresh dcid_limit cid path token) (record {
          limits = omega (arith, leb-true 1 dcid_limit w.0, leb-true dcid_limit max_dcid_limit w.1);
          source = record { one = omega arith; few = omega arith; low = omega arith; high = omega arith; own = omega arith; rises = refl; forms = rw q };
          destination = record { few = omega arith; apart = refl; forms = refl };
          queues = omega arith;
        })
    test true false p q e = absurd (omega arith)
    test false b p q e = absurd (omega arith)

pub keeps_well_lem : KeepsWell
keeps_well_lem v c h =
    decided (λ (o : Out). well o.view ≡ true) (well v && call_formed c)
    (λ e. is_well (step v c).view (step_well v c (and_both (well v) (call_formed c) e).1 (well_is v h))) (λ e. h)

pub run_well : (cs : List Call) (v : View) → well v ≡ true → well (run v cs) ≡ true
run_well [] v h = h
run_well (c ∷ cs) v h = run_well cs (after v c) (keeps_well_lem v c h)

-- ---- no step answers 1

abbrev Other : Out → Type 0
Other o = eqb o.refusal 1 ≡ false

no_one : (n : ℕ) → 2 ≤ n → eqb n 1 ≡ false
no_one n k = ne_eqb n 1 (λ e. omega arith)

add_other : {x : Item} {advertise : Bool} {v : View} {o : Out} → AddScidEnds x advertise v o → Other o
add_other (refuses n k) = no_one n k
add_other (raises n r k t) = no_one n k.low
add_other (issues r t n p l a) = refl

retire_other : {s : ℕ} {packet : ConnectionId} {v : View} {o : Out} → RetireScidEnds s packet v o → Other o
retire_other (unissued k) = refl
retire_other (only e) = refl
retire_other (absent e) = refl
retire_other (out n k a e) = no_one n k.low
retire_other (frees x r a e l) = refl

dcid_other : {x : Item} {b : ℕ} {v : View} {o : Out} → AddDcidEnds x b v o → Other o
dcid_other (rejects n k) = no_one n k
dcid_other (again e) = refl
dcid_other (waits n k q) = refl
dcid_other (late4 n k l) = refl
dcid_other (late n k l t) = refl
dcid_other (lowers m k n l q) = no_one m k.low
dcid_other (renews n l q r t) = refl
dcid_other (adds n l q r) = refl

reply_other : (v : View) (q : Query) → eqb (reply v q).refusal 1 ≡ false
reply_other v (GetScid s) = optioned (λ (r : Reply). eqb r.refusal 1 ≡ false) (first (has_seq s) v.scids) (λ e. refl) (λ x e. refl)
reply_other v (GetDcid s) = optioned (λ (r : Reply). eqb r.refusal 1 ≡ false) (first (has_seq s) v.dcids) (λ e. refl) (λ x e. refl)
reply_other v (FindScid c) = refl
reply_other v UnusedScids = refl
reply_other v UnusedDcids = refl
reply_other v LowestUnusedDcidSeq = refl
reply_other v NextScidToAdvertise = refl
reply_other v NextDcidToRetire = refl
reply_other v (CreateNewConnectionIdFrame s) =
    optioned (λ (r : Reply). eqb r.refusal 1 ≡ false) (first (has_seq s) v.scids) (λ e. refl)
    (λ x e. optioned (λ (r : Reply). eqb r.refusal 1 ≡ false) x.token (λ e. refl) (λ t e. refl))
reply_other v NeedSendCidControlFrames = refl
reply_other v ZeroLengthScid = refl
reply_other v ZeroLengthDcid = refl
reply_other v ScidCount = refl
reply_other v (ScidAt i) = refl
reply_other v DcidCount = refl
reply_other v (DcidAt i) = refl

step_other : (v : View) (c : Call) → Other (step v c)
step_other v (SetInitialDcid cid token path) = refl
step_other v (SetScidLimit n) = refl
step_other v (AddScid cid token advertise path retire_if_needed) = add_other (add_scid_ends cid token advertise path v retire_if_needed)
step_other v (RetireScid s packet) = retire_other (retire_scid_ends s packet v)
step_other v (AddDcid cid s token b) = dcid_other (add_dcid_ends cid s token b v)
step_other v (MarkScidUsed s p) = decided Other (any (has_seq s) v.scids) (λ e. refl) (λ e. refl)
step_other v (MarkDcidUsed s p) = decided Other (any (has_seq s) v.dcids) (λ e. refl) (λ e. refl)
step_other v (MarkScidToAdvertise s on) = decided Other (on && leb queue_slots (length v.scids_to_advertise)) (λ e. refl) (λ e. refl)
step_other v (MarkDcidToRetire s on) = decided Other (on && leb queue_slots (length v.dcids_to_retire)) (λ e. refl) (λ e. refl)
step_other v (Ask q) = reply_other v q

pub never_one_lem : NeverOne
never_one_lem v f cs c = rw (run_well cs v (fresh_well_lem v f)) (test (call_formed c))
  where
    test : (b : Bool) → eqb (cond b (step (run v cs) c) (refused 1 (run v cs))).refusal 1 ≡ not b
    test true = step_other (run v cs) c
    test false = refl
