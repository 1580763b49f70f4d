-- One outcome for every call; a refused call answers nothing but its number, and 1 and the numbers from 5 on leave the view as it was.
use Rattle.std.specs.Prelude.{ℕ, ◌≡◌, refl, Bool, true, false, ◌&&◌, ◌||◌, length, eqb, leb}
use Rattle.std.proofs.Common.{sym, ◌∙◌, arith, ne_eqb}
use Rattle.std.proofs.lemmas.Bool.{lt-leb}
use Rattle.lists.specs.Defs.{first, any}
use Rattle.values.specs.declared.cid.ConnectionId.{ConnectionId}
use Rattle.values.specs.Limits.{queue_slots}
use Rattle.ids_rules.specs.Values.{Item, has_seq}
use Rattle.ids_rules.specs.View.{View, Answer, Nothing, Out, refused, accepted}
use Rattle.ids_rules.proofs.Ends.{Partial, AddScidEnds, refuses, raises, issues, RetireScidEnds, unissued, only, absent, out, frees, AddDcidEnds, rejects, again, waits, late4, late, lowers, renews, adds, add_scid_ends, retire_scid_ends, add_dcid_ends}
use Rattle.ids_rules.specs.Well.{well}
use Rattle.ids_rules.specs.Calls.{Call, SetInitialDcid, SetScidLimit, AddScid, RetireScid, AddDcid, MarkScidUsed, MarkDcidUsed, MarkScidToAdvertise, MarkDcidToRetire, Ask, call_formed, step, apply}
use Rattle.ids_rules.specs.Calls.{Query, GetScid, GetDcid, FindScid, UnusedScids, UnusedDcids, LowestUnusedDcidSeq, NextScidToAdvertise, NextDcidToRetire, CreateNewConnectionIdFrame, NeedSendCidControlFrames, ZeroLengthScid, ZeroLengthDcid, ScidCount, ScidAt, DcidCount, DcidAt, Reply, reply}
use Rattle.ids_rules.specs.Laws.{decided, optioned, never}
use Rattle.ids_rules.specs.Promise.{Determined, RefusedIsQuiet, LeavesNothing}

pub determined : Determined
determined v c a b p q = p ∙ sym q

-- ---- every way to end

record Sober (v : View) (o : Out) : Type 0 where
  quiet : eqb o.refusal 0 ≡ false → o.answer ≡ Nothing
  still : (eqb o.refusal 1 || leb 5 o.refusal) ≡ true → o.view ≡ v

-- nothing changed; accepted; 2, 3 or 4
unchanged : (v : View) (n : ℕ) → Sober v (refused n v)
unchanged v n = record { quiet = λ e. refl; still = λ e. refl }

fine : (v : View) (a : Answer) (w : View) → Sober v (accepted a w)
fine v a w = record { quiet = λ e. never e; still = λ e. never (sym e) }

partly : (v : View) (n : ℕ) (w : View) → Partial n → Sober v (refused n w)
partly v n w k = record { quiet = λ e. refl; still = λ e. never (sym e ∙ low) }
  where
    low : (eqb n 1 || leb 5 n) ≡ false
    low = rw (ne_eqb n 1 (λ e. omega (arith, k.low)), lt-leb 5 n (omega (arith, k.high)))

add_sober : {x : Item} {advertise : Bool} {v : View} {o : Out} → AddScidEnds x advertise v o → Sober v o
add_sober {v = v} (refuses n k) = unchanged v n
add_sober {v = v} (raises n r k t) = partly v n _ k
add_sober {v = v} (issues r t n p l a) = fine v _ _

retire_sober : {s : ℕ} {packet : ConnectionId} {v : View} {o : Out} → RetireScidEnds s packet v o → Sober v o
retire_sober {v = v} (unissued k) = unchanged v 4
retire_sober {v = v} (only e) = unchanged v 2
retire_sober {v = v} (absent e) = fine v _ _
retire_sober {v = v} (out n k a e) = partly v n _ k
retire_sober {v = v} (frees x r a e l) = fine v _ _

dcid_sober : {x : Item} {b : ℕ} {v : View} {o : Out} → AddDcidEnds x b v o → Sober v o
dcid_sober {v = v} (rejects n k) = unchanged v n
dcid_sober {v = v} (again e) = fine v _ _
dcid_sober {v = v} (waits n k q) = fine v _ _
dcid_sober {v = v} (late4 n k l) = partly v 4 _ (omega arith)
dcid_sober {v = v} (late n k l t) = fine v _ _
dcid_sober {v = v} (lowers m k n l q) = partly v m _ k
dcid_sober {v = v} (renews n l q r t) = fine v _ _
dcid_sober {v = v} (adds n l q r) = fine v _ _

-- a call that reads
abbrev Modest : Reply → Type 0
Modest r = eqb r.refusal 0 ≡ false → r.answer ≡ Nothing

reply_modest : (v : View) (q : Query) → Modest (reply v q)
reply_modest v (GetScid s) = optioned Modest (first (has_seq s) v.scids) (λ e z. refl) (λ x e z. never z)
reply_modest v (GetDcid s) = optioned Modest (first (has_seq s) v.dcids) (λ e z. refl) (λ x e z. never z)
reply_modest v (FindScid c) = λ z. never z
reply_modest v UnusedScids = λ z. never z
reply_modest v UnusedDcids = λ z. never z
reply_modest v LowestUnusedDcidSeq = λ z. never z
reply_modest v NextScidToAdvertise = λ z. never z
reply_modest v NextDcidToRetire = λ z. never z
reply_modest v (CreateNewConnectionIdFrame s) =
    optioned Modest (first (has_seq s) v.scids) (λ e z. refl) (λ x e. optioned Modest x.token (λ e z. refl) (λ t e z. never z))
reply_modest v NeedSendCidControlFrames = λ z. never z
reply_modest v ZeroLengthScid = λ z. never z
reply_modest v ZeroLengthDcid = λ z. never z
reply_modest v ScidCount = λ z. never z
reply_modest v (ScidAt i) = λ z. never z
reply_modest v DcidCount = λ z. never z
reply_modest v (DcidAt i) = λ z. never z

step_sober : (v : View) (c : Call) → Sober v (step v c)
step_sober v (SetInitialDcid cid token path) = fine v _ _
step_sober v (SetScidLimit n) = fine v _ _
step_sober v (AddScid cid token advertise path retire_if_needed) = add_sober (add_scid_ends cid token advertise path v retire_if_needed)
step_sober v (RetireScid s packet) = retire_sober (retire_scid_ends s packet v)
step_sober v (AddDcid cid s token b) = dcid_sober (add_dcid_ends cid s token b v)
step_sober v (MarkScidUsed s p) = decided (Sober v) (any (has_seq s) v.scids) (λ e. fine v _ _) (λ e. unchanged v 2)
step_sober v (MarkDcidUsed s p) = decided (Sober v) (any (has_seq s) v.dcids) (λ e. fine v _ _) (λ e. unchanged v 2)
step_sober v (MarkScidToAdvertise s on) = decided (Sober v) (on && leb queue_slots (length v.scids_to_advertise)) (λ e. unchanged v 6) (λ e. fine v _ _)
step_sober v (MarkDcidToRetire s on) = decided (Sober v) (on && leb queue_slots (length v.dcids_to_retire)) (λ e. unchanged v 6) (λ e. fine v _ _)
step_sober v (Ask q) = record { quiet = reply_modest v q; still = λ e. refl }

sober : (v : View) (c : Call) → Sober v (apply v c)
sober v c = decided (Sober v) (well v && call_formed c) (λ e. step_sober v c) (λ e. unchanged v 1)

pub refused_is_quiet_lem : RefusedIsQuiet
refused_is_quiet_lem v c = (sober v c).quiet

pub leaves_nothing_lem : LeavesNothing
leaves_nothing_lem v c = (sober v c).still
