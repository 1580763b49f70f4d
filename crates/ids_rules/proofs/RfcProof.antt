-- The rules of the RFC that the calls meet, and where they differ.
use Rattle.std.specs.Prelude.{ℕ, ◌+◌, ◌*◌, ◌≤◌, ◌<◌, min, ◌≡◌, refl, List, [], ◌∷◌, ◌++◌, map, Bool, true, false, cond, not, ◌&&◌, ◌||◌, length, eqb, leb, ltb}
use Rattle.std.proofs.Common.{sym, ap, ◌∙◌, subst, append-nil, arith, length-append, leb-true, leb-false, ltb-true, ltb-false, eqb-true, le-leb, lt-ltb, le-ltb, eq-eqb, ne_eqb}
use Rattle.std.proofs.Math.Bool.{or-true}
use Rattle.std.proofs.Math.Option.{Option, none, some}
use Rattle.std.proofs.lemmas.List.{length-map}
use Rattle.std.proofs.lemmas.Bool.{eqb-false, lt-leb, not-true}
use Rattle.lists.specs.Defs.{present, first, keep, any, all, least, less, has}
use Rattle.lists.specs.Bools.{and_both}
use Rattle.lists.specs.Search.{length_keep}
use Rattle.values.specs.declared.cid.ConnectionId.{ConnectionId}
use Rattle.values.specs.Limits.{max_sequence, queue_slots, retire_factor, capacity_of}
use Rattle.values.specs.Cid.{same_id}
use Rattle.values.specs.Laws.{same_id_is}
use Rattle.values.specs.Refusals.{connection_id_limit_error, protocol_violation}
use Rattle.ids_rules.specs.Values.{Item, on_path, seq_of, has_seq, has_cid, from, below, clashes, repeats}
use Rattle.values.specs.declared.used.UsedSeq.{UsedSeq}
use Rattle.ids_rules.specs.View.{View, Nothing, Issued, Retired, Out, refused, accepted}
use Rattle.ids_rules.specs.With.{with_dcids_to_retire}
use Rattle.ids_rules.specs.Steps.{lowest_from, sole, without, too_many, queue_late, raise, append, lowered}
use Rattle.ids_rules.proofs.Ends.{Raised, spare, lifts, AddScidEnds, refuses, raises, issues, RetireScidEnds, unissued, only as only_one, absent, out, frees, AddDcidEnds, rejects, again, waits, late4, late, lowers, renews, adds, queued, add_scid_ends, retire_scid_ends, add_dcid_ends}
use Rattle.ids_rules.specs.Well.{well, distinct}
use Rattle.ids_rules.specs.Calls.{Call, SetInitialDcid, SetScidLimit, AddScid, RetireScid, AddDcid, MarkScidUsed, MarkDcidUsed, MarkScidToAdvertise, MarkDcidToRetire, Ask, call_formed, step, apply, after, run}
use Rattle.ids_rules.specs.Laws.{any_moved, decided, optioned, never, or_neither, all_append, all_kept, first_none, first_some}
use Rattle.ids_rules.proofs.Kept.{Well, well_is, raised_le}
use Rattle.ids_rules.proofs.Never.{fresh_well_lem, run_well}
use Rattle.ids_rules.specs.Promise.{sets_initial, takes_frame, destinations, none_below, never_after}
use Rattle.ids_rules.proofs.Once.{without_gap_lem, has_map, map_more, begun}
use Rattle.ids_rules.proofs.Below.{has_right, has_below, has_from, by_frame, step_aside, known, Carried, run_carried, none_below_early_lem}
use Rattle.ids_rules.specs.Rfc.{NewConnectionId, RetireConnectionId, Issue, new_id, retire_id, issue_id, initial_id, itself, same_again, item_of, Closes, Rule, Met, MetUnless, MetOver, held, repeated, increases, comes_late, kept, in_need, retire_limit, filled, unfilled, excess, no_room, marking, crowded, unlimited, otherwise, spoilt, unwelcome, only, none_left, active, initial, retiring}
use Rattle.ids_rules.specs.Rfc.{InitialIsZero, AcceptedUntilRetired, OthersStay, WithinPeerLimit, WithinLimit, OverLimit, Supplies, TotalLimited, IssuanceLimited, ZeroLengthIssues, LowerAreRetired, QueueLimited, TracksTwice, TooManyToRetire, NotForgotten}
use Rattle.ids_rules.specs.Rfc.{ZeroLengthDestination, SameFrameAgain, SameFrameLater, Conflict, IssuedAboveOwn, AboveSequence, Ignores, LateIsRetired, LateIsNotKept, WaitsAlready, TokenEnds, NotIssued, OwnPacket, GivenIsRetired, Conforms, Differs, cid, token}

-- a call with arguments of their form, on a well-formed view, is its step
apply_is : (v : View) (c : Call) → well v ≡ true → call_formed c ≡ true → step v c ≡ apply v c
apply_is v c h f = rw (h, f)

-- a rule is met if the step meets it
module _ {A : Type 0} (call : A → Call) (R : Rule A) where
  met : ((v : View) (f : A) → Well v → R v f (step v (call f))) → Met call R
  met k v f h c = subst (R v f) (apply_is v (call f) h c) (k v f (well_is v h))

  met_unless : (E : View → A → Bool) → ((v : View) (f : A) → Well v → E v f ≡ false → R v f (step v (call f))) → MetUnless call E R
  met_unless E k v f h c e = subst (R v f) (apply_is v (call f) h c) (k v f (well_is v h) e)

-- ---- the rules that one test decides

zero_destination : Met new_id ZeroLengthDestination
zero_destination = met new_id ZeroLengthDestination (λ v f h z. rw z (refl, refl))

zero_issues : Met issue_id ZeroLengthIssues
zero_issues = met issue_id ZeroLengthIssues (λ v i h z. rw z (refl, λ e. omega arith))

not_issued_lem : Met retire_id NotIssued
not_issued_lem = met retire_id NotIssued (λ v f h n. rw (le-leb v.next_scid_seq f.seq n) (refl, refl))

-- ---- repeats

record Agrees (z x : Item) : Type 0 where
  cid : z.cid ≡ x.cid
  seq : z.seq ≡ x.seq

repeats_is : (z x : Item) → repeats z x ≡ true → Agrees z x
repeats_is z x e =
    let a = and_both (same_id z.cid x.cid && eqb z.seq x.seq) _ e in
    let b = and_both (same_id z.cid x.cid) (eqb z.seq x.seq) a.0 in
    record { cid = same_id_is z.cid x.cid b.0; seq = eqb-true z.seq x.seq b.1 }

-- what clashes with x clashes with each item that repeats x
clash_through : (y x : Item) (l : List Item) → any (λ (z : Item). repeats z x) l ≡ true → clashes y x ≡ true → any (clashes y) l ≡ true
clash_through y x [] e k = never (sym e)
clash_through y x (z ∷ l) e k = test (repeats z x) refl e (λ q. clash_through y x l q k)
  where
    test : (b : Bool) → repeats z x ≡ b → (b || any (λ (z : Item). repeats z x) l) ≡ true → (any (λ (z : Item). repeats z x) l ≡ true → any (clashes y) l ≡ true) → (clashes y z || any (clashes y) l) ≡ true
    test true r e i =
        let a : Agrees z x = repeats_is z x r in
        let c : clashes y z ≡ true = rw (a.cid, a.seq) k in
        rw c
    test false r e i = rw (i e, or-true)

-- where an item repeats x, the first that clashes with x repeats it
first_repeats : (x : Item) (l : List Item) → distinct l ≡ true → any (λ (z : Item). repeats z x) l ≡ true
    → (y : Item) × (first (λ (z : Item). clashes z x) l ≡ some y) × (repeats y x ≡ true)
first_repeats x [] d e = never (sym e)
first_repeats x (y ∷ l) d e =
    let w = and_both (not (any (clashes y) l)) (distinct l) d in
    test (repeats y x) (clashes y x) refl refl e (not-true (any (clashes y) l) w.0) (λ q. first_repeats x l w.1 q)
  where
    test : (a b : Bool) → repeats y x ≡ a → clashes y x ≡ b → (a || any (λ (z : Item). repeats z x) l) ≡ true → any (clashes y) l ≡ false
        → (any (λ (z : Item). repeats z x) l ≡ true → (u : Item) × (first (λ (z : Item). clashes z x) l ≡ some u) × (repeats u x ≡ true))
        → (u : Item) × (cond b (some y) (first (λ (z : Item). clashes z x) l) ≡ some u) × (repeats u x ≡ true)
    test true true r c e n i = (y, refl, r)
    test true false r c e n i =
        let g = and_both (same_id y.cid x.cid && eqb y.seq x.seq) _ r in
        let k = and_both (same_id y.cid x.cid) (eqb y.seq x.seq) g.0 in
        never (sym (ap (λ (t : Bool). t || eqb y.seq x.seq) k.0) ∙ c)
    test false true r c e n i = never (sym (clash_through y x l e c) ∙ n)
    test false false r c e n i = i e

repeat_is_taken : (v : View) (f : NewConnectionId) → Well v → v.zero_length_dcid ≡ false → repeated v f ≡ true → step v (new_id f) ≡ accepted (Retired []) v
repeat_is_taken v f h z e = let w = first_repeats (item_of f) v.dcids h.destination.apart e in rw (z, w.1, w.2)

-- what is found passes no test that none passes
first_passes : {A : Type 0} (p q : A → Bool) (l : List A) (y : A) → first p l ≡ some y → any q l ≡ false → q y ≡ false
first_passes p q [] y e k = let z : ◌≡◌ {A = ℕ} 0 1 = cc in absurd (omega arith)
first_passes p q (x ∷ l) y e k = let w = or_neither (q x) (any q l) k in test (p x) e w.0 (λ g. first_passes p q l y g w.1)
  where
    test : (b : Bool) → cond b (some x) (first p l) ≡ some y → q x ≡ false → (first p l ≡ some y → q y ≡ false) → q y ≡ false
    test true e k i = let z : x ≡ y = cc in rw (← z) k
    test false e k i = i e

-- a frame that no item repeats is refused with nothing changed, or the table holds neither its ID nor its sequence
unrepeated : (P : Out → Type 0) (v : View) (f : NewConnectionId) → repeated v f ≡ false → P (refused 4 v) → (held v f ≡ false → P (step v (new_id f))) → P (step v (new_id f))
unrepeated P v f n r k = test (held v f) refl
  where
    test : (b : Bool) → held v f ≡ b → P (step v (new_id f))
    test true c =
        decided P v.zero_length_dcid (λ e. r) (λ e.
        optioned P (first (λ (y : Item). clashes y (item_of f)) v.dcids) (λ e. never (sym c ∙ first_none (λ (y : Item). clashes y (item_of f)) v.dcids e))
        (λ y e. rw (first_passes (λ (y : Item). clashes y (item_of f)) (λ (y : Item). repeats y (item_of f)) v.dcids y e n) r))
    test false c = k c

conflicts : Met new_id Conflict
conflicts = met new_id Conflict (λ v f h c n. unrepeated (λ (o : Out). Closes protocol_violation o × (o.view ≡ v)) v f n ((refl, refl), refl) (λ e. never (sym c ∙ e)))

-- ---- where the table does not hold the ID or the sequence

-- what comes of a NEW_CONNECTION_ID frame
ends : (v : View) (f : NewConnectionId) → AddDcidEnds (item_of f) f.retire_prior_to v (step v (new_id f))
ends v f = add_dcid_ends f.cid f.seq f.token f.retire_prior_to v

issue_ends : (v : View) (i : Issue) → AddScidEnds (record { cid = i.cid; seq = v.next_scid_seq; token = i.token; path = i.path }) i.advertise v (step v (issue_id i))
issue_ends v i = add_scid_ends i.cid i.token i.advertise i.path v i.retire_if_needed

above : MetUnless new_id repeated (AboveSequence protocol_violation)
above = met_unless new_id (AboveSequence protocol_violation) repeated (λ v f h n k.
    let P : Out → Type 0 = Closes protocol_violation in
    unrepeated P v f n (refl, refl) (λ c.
    decided P v.zero_length_dcid (λ e. (refl, refl)) (λ e.
    optioned P (first (λ (y : Item). clashes y (item_of f)) v.dcids) (λ e. rw (lt-ltb f.seq f.retire_prior_to k) (refl, refl))
    (λ y e. never (sym (first_some (λ (y : Item). clashes y (item_of f)) v.dcids y e) ∙ c)))))

ignored : Met new_id Ignores
ignored v f h c k l =
    rw (le-ltb f.seq f.retire_prior_to l, le-ltb v.largest_peer_retire_prior_to f.retire_prior_to k, le-ltb f.seq 0 (omega arith), le-ltb v.largest_peer_retire_prior_to 0 (omega arith))

-- ---- late sequences, and raised ones

-- where the table holds neither the ID nor the sequence
unheld : (x : Item) (l : List Item) → any (λ (y : Item). clashes y x) l ≡ false → any (has_seq x.seq) l ≡ false
unheld x [] e = refl
unheld x (y ∷ l) e =
    let w = or_neither (clashes y x) (any (λ (y : Item). clashes y x) l) e in
    let u = or_neither (same_id y.cid x.cid) (eqb y.seq x.seq) w.0 in
    rw (ne_eqb x.seq y.seq (λ z. eqb-false y.seq x.seq u.1 (sym z))) (unheld x l w.1)

late_retired : (v : View) (f : NewConnectionId) {o : Out} → AddDcidEnds (item_of f) f.retire_prior_to v o → held v f ≡ false → LateIsRetired v f o
late_retired v f (rejects n k) c l z = absurd (omega arith)
late_retired v f (again e) c l z = never (sym e ∙ c)
late_retired v f (waits n k q) c l z = q
late_retired v f (late4 n k m) c l z = absurd (omega arith)
late_retired v f (late n k m t) c l z = has_right f.seq v.dcids_to_retire (f.seq ∷ []) (rw (eq-eqb f.seq f.seq refl))
late_retired v f (lowers m k n u q) c l z = absurd (omega arith)
late_retired v f (renews n u q r t) c l z = absurd (omega (arith, n.fits))
late_retired v f (adds n u q r) c l z = absurd (omega arith)

late_not_kept : (v : View) (f : NewConnectionId) {o : Out} → AddDcidEnds (item_of f) f.retire_prior_to v o → held v f ≡ false → LateIsNotKept v f o
late_not_kept v f (rejects n k) c l z = absurd (omega arith)
late_not_kept v f (again e) c l z = never (sym e ∙ c)
late_not_kept v f (waits n k q) c l z = unheld (item_of f) v.dcids c
late_not_kept v f (late4 n k m) c l z = absurd (omega arith)
late_not_kept v f (late n k m t) c l z = unheld (item_of f) v.dcids c
late_not_kept v f (lowers m k n u q) c l z = absurd (omega arith)
late_not_kept v f (renews n u q r t) c l z = absurd (omega (arith, n.fits))
late_not_kept v f (adds n u q r) c l z = absurd (omega arith)

lower_retired : (v : View) (f : NewConnectionId) {o : Out} → AddDcidEnds (item_of f) f.retire_prior_to v o → held v f ≡ false → LowerAreRetired v f o
lower_retired v f (rejects n k) c l z = absurd (omega arith)
lower_retired v f (again e) c l z = never (sym e ∙ c)
lower_retired v f (waits n k q) c l z = absurd (omega (arith, n.fits))
lower_retired v f (late4 n k m) c l z = absurd (omega arith)
lower_retired v f (late n k m t) c l z = absurd (omega (arith, n.fits))
lower_retired v f (lowers m k n u q) c l z = absurd (omega arith)
lower_retired v f (renews n u q r t) c l z =
    let b : ℕ = f.retire_prior_to in (
      all_append (from b) (keep (from b) v.dcids) (item_of f ∷ []) (all_kept (from b) v.dcids) (rw (le-leb b f.seq n.fits)),
      λ s t k. has_right s v.dcids_to_retire _ (has_below s b v.dcids k t),
    )
lower_retired v f (adds n u q r) c l z = absurd (omega arith)

-- ---- the destination limit

-- what is kept, where Retire Prior To is increased and where it is not
kept_from : (v : View) (f : NewConnectionId) → v.largest_peer_retire_prior_to < f.retire_prior_to → kept v f ≡ keep (from f.retire_prior_to) v.dcids
kept_from v f k = rw (lt-ltb v.largest_peer_retire_prior_to f.retire_prior_to k)

kept_all : (v : View) (f : NewConnectionId) → f.retire_prior_to ≤ v.largest_peer_retire_prior_to → kept v f ≡ v.dcids
kept_all v f k = rw (le-ltb v.largest_peer_retire_prior_to f.retire_prior_to k)

limit_within : (v : View) (f : NewConnectionId) {o : Out} → AddDcidEnds (item_of f) f.retire_prior_to v o → length (kept v f) < v.dcid_limit → (held v f ≡ true → length v.dcids ≤ v.dcid_limit) → WithinLimit v f o
limit_within v f (rejects n k) l g z = absurd (omega arith)
limit_within v f (again e) l g z = g e
limit_within v f (waits n k q) l g z = omega (arith, ap length (kept_all v f (omega (arith, n.fits))))
limit_within v f (late4 n k m) l g z = absurd (omega arith)
limit_within v f (late n k m t) l g z = omega (arith, ap length (kept_all v f (omega (arith, n.fits))))
limit_within v f (lowers m k n u q) l g z = absurd (omega arith)
limit_within v f (renews n u q r t) l g z = simp length-append (omega (arith, ap length (kept_from v f u)))
limit_within v f (adds n u q r) l g z = simp length-append (omega (arith, ap length (kept_all v f u)))

limited : MetUnless new_id filled WithinLimit
limited = met_unless new_id WithinLimit filled (λ v f h e.
    let u = or_neither (leb v.dcid_limit (length (kept v f))) _ e in
    test v f (leb-false v.dcid_limit (length (kept v f)) u.0) (repeated v f) refl u.1)
  where
    test : (v : View) (f : NewConnectionId) → length (kept v f) < v.dcid_limit → (b : Bool) → repeated v f ≡ b → (b && ltb v.dcid_limit (length v.dcids)) ≡ false → WithinLimit v f (step v (new_id f))
    test v f l true r e = limit_within v f (ends v f) l (λ c. ltb-false v.dcid_limit (length v.dcids) e)
    test v f l false r e = unrepeated (WithinLimit v f) v f r (λ z. absurd (omega arith)) (λ c. limit_within v f (ends v f) l (λ t. never (sym t ∙ c)))

-- ---- nothing is forgotten

record Kept (v : View) (o : Out) : Type 0 where
  each : (s : ℕ) → has s (destinations v) ≡ true → (has s (destinations o.view) || has s o.view.dcids_to_retire) ≡ true

-- the sequences are the same
same : (v : View) (o : Out) → destinations o.view ≡ destinations v → Kept v o
same v o q = record { each = λ s e. rw (q, e) }

-- the table is longer
longer : (x : Item) (l : List Item) (q : List ℕ) (s : ℕ) → (has s (map seq_of l) || has s q) ≡ true → (has s (map seq_of (l ++ (x ∷ []))) || has s q) ≡ true
longer x [] q s e = rw (e, or-true)
longer x (y ∷ l) q s e = test (eqb s y.seq) e (longer x l q s)
  where
    test : (b : Bool) → (b || has s (map seq_of l) || has s q) ≡ true → ((has s (map seq_of l) || has s q) ≡ true → (has s (map seq_of (l ++ (x ∷ []))) || has s q) ≡ true)
        → (b || has s (map seq_of (l ++ (x ∷ []))) || has s q) ≡ true
    test true e i = refl
    test false e i = i e

-- what is below b goes to the queue
lowered_keeps : (v : View) (b s : ℕ) → has s (map seq_of v.dcids) ≡ true → (has s (map seq_of (keep (from b) v.dcids)) || has s (queued b v)) ≡ true
lowered_keeps v b s e = test (leb b s) refl
  where
    test : (t : Bool) → leb b s ≡ t → (has s (map seq_of (keep (from b) v.dcids)) || has s (queued b v)) ≡ true
    test true q = rw (has_from s b v.dcids (leb-true b s q) e)
    test false q = rw (has_right s v.dcids_to_retire _ (has_below s b v.dcids (leb-false b s q) e), or-true)

dcid_keeps : {x : Item} {b : ℕ} (v : View) {o : Out} → AddDcidEnds x b v o → Kept v o
dcid_keeps v (rejects n k) = same v _ refl
dcid_keeps v (again e) = same v _ refl
dcid_keeps v (waits n k q) = same v _ refl
dcid_keeps v (late4 n k m) = same v _ refl
dcid_keeps v (late n k m t) = same v _ refl
dcid_keeps {b = b} v (lowers m k n u q) = record { each = lowered_keeps v b }
dcid_keeps {x} {b} v (renews n u q r t) = record { each = λ s e. longer x (keep (from b) v.dcids) (queued b v) s (lowered_keeps v b s e) }
dcid_keeps {x} v (adds n u q r) = record { each = λ s e. longer x v.dcids v.dcids_to_retire s (rw e) }

step_keeps : (v : View) (c : Call) → initial v c ≡ false → Kept v (step v c)
step_keeps v =
    by_frame (λ (c : Call). initial v c ≡ false → Kept v (step v c)) (λ cid s token b i. dcid_keeps v (add_dcid_ends cid s token b v))
    (λ c f i. same v _ ((step_aside v c f).alike i).table)

-- ---- the peer's limit

keep_one_more : (p : Item → Bool) (l : List Item) (x : Item) → length (keep p (l ++ (x ∷ []))) ≤ length (keep p l) + 1
keep_one_more p [] x = decided (λ (m : List Item). length m ≤ 1) (p x) (λ e. omega arith) (λ e. omega arith)
keep_one_more p (y ∷ l) x = test (p y) (keep_one_more p l x)
  where
    test : (b : Bool) → length (keep p (l ++ (x ∷ []))) ≤ length (keep p l) + 1 → length (cond b (y ∷ keep p (l ++ (x ∷ []))) (keep p (l ++ (x ∷ [])))) ≤ length (cond b (y ∷ keep p l) (keep p l)) + 1
    test true i = omega arith
    test false i = omega arith

-- the lowest not below b is not below b, and is there
lowest_is : (b s : ℕ) (l : List Item) → lowest_from b l ≡ some s → (b ≤ s) × (has s (map seq_of l) ≡ true)
lowest_is b s [] e = let z : ◌≡◌ {A = ℕ} 0 1 = cc in absurd (omega arith)
lowest_is b s (x ∷ l) e = test (leb b x.seq) refl (λ t q. lowest_is b t l q) e
  where
    pick : (m : ℕ) → min m x.seq ≡ s → b ≤ x.seq → (b ≤ m) × (has m (map seq_of l) ≡ true) → (b ≤ s) × ((eqb s x.seq || has s (map seq_of l)) ≡ true)
    pick m q k i =
        (omega (arith, i.0), choose (leb m x.seq) refl)
      where
        choose : (t : Bool) → leb m x.seq ≡ t → (eqb s x.seq || has s (map seq_of l)) ≡ true
        choose true r = let z : m ≡ s = omega (arith, leb-true m x.seq r) in rw (← z) (rw (i.1, or-true))
        choose false r = rw (eq-eqb s x.seq (omega (arith, leb-false m x.seq r)))

    test : (t : Bool) → leb b x.seq ≡ t → ((u : ℕ) → least (map seq_of (keep (from b) l)) ≡ some u → (b ≤ u) × (has u (map seq_of l) ≡ true))
        → least (map seq_of (cond t (x ∷ keep (from b) l) (keep (from b) l))) ≡ some s → (b ≤ s) × ((eqb s x.seq || has s (map seq_of l)) ≡ true)
    test true q i e = inner (least (map seq_of (keep (from b) l))) refl e
      where
        inner : (o : Option ℕ) → least (map seq_of (keep (from b) l)) ≡ o → less o x.seq ≡ some s → (b ≤ s) × ((eqb s x.seq || has s (map seq_of l)) ≡ true)
        inner none r e = let z : x.seq ≡ s = cc in (omega (arith, leb-true b x.seq q), rw (eq-eqb s x.seq (sym z)))
        inner (some m) r e = let z : min m x.seq ≡ s = cc in pick m z (leb-true b x.seq q) (i m r)
    test false q i e = let w = i s e in (w.0, rw (w.1, or-true))

-- one fewer, from above the lowest
not_more : (b s : ℕ) (l : List Item) → b ≤ s → length (keep (from (s + 1)) l) ≤ length (keep (from b) l)
not_more b s [] k = omega arith
not_more b s (x ∷ l) k = test (leb (s + 1) x.seq) (leb b x.seq) refl refl (not_more b s l k)
  where
    test : (t u : Bool) → leb (s + 1) x.seq ≡ t → leb b x.seq ≡ u → length (keep (from (s + 1)) l) ≤ length (keep (from b) l)
        → length (cond t (x ∷ keep (from (s + 1)) l) (keep (from (s + 1)) l)) ≤ length (cond u (x ∷ keep (from b) l) (keep (from b) l))
    test true true p q i = omega arith
    test true false p q i = absurd (omega (arith, leb-true (s + 1) x.seq p, leb-false b x.seq q))
    test false true p q i = omega arith
    test false false p q i = i

fewer : (b s : ℕ) (l : List Item) → b ≤ s → has s (map seq_of l) ≡ true → length (keep (from (s + 1)) l) < length (keep (from b) l)
fewer b s [] k e = never (sym e)
fewer b s (x ∷ l) k e = test (eqb s x.seq) (leb (s + 1) x.seq) (leb b x.seq) refl refl refl e (fewer b s l k) (not_more b s l k)
  where
    test : (a t u : Bool) → eqb s x.seq ≡ a → leb (s + 1) x.seq ≡ t → leb b x.seq ≡ u → (a || has s (map seq_of l)) ≡ true
        → (has s (map seq_of l) ≡ true → length (keep (from (s + 1)) l) < length (keep (from b) l)) → length (keep (from (s + 1)) l) ≤ length (keep (from b) l)
        → length (cond t (x ∷ keep (from (s + 1)) l) (keep (from (s + 1)) l)) < length (cond u (x ∷ keep (from b) l) (keep (from b) l))
    test true true u o p q e i n = absurd (omega (arith, eqb-true s x.seq o, leb-true (s + 1) x.seq p))
    test true false true o p q e i n = omega arith
    test true false false o p q e i n = absurd (omega (arith, eqb-true s x.seq o, leb-false b x.seq q))
    test false true true o p q e i n = omega (arith, i e)
    test false true false o p q e i n = absurd (omega (arith, leb-true (s + 1) x.seq p, leb-false b x.seq q))
    test false false true o p q e i n = omega (arith, i e)
    test false false false o p q e i n = i e

raised_few : (v : View) {r : ℕ} → Raised v r → active v ≤ v.scid_limit → length (keep (from r) v.scids) < v.scid_limit
raised_few v (spare k) a = omega (arith, length_keep (from v.retire_prior_to) v.scids)
raised_few v (lifts s e) a = let w = lowest_is v.retire_prior_to s v.scids e in omega (arith, fewer v.retire_prior_to s v.scids w.0 w.1)

peer_within : {x : Item} {advertise : Bool} (v : View) (i : Issue) {o : Out} → AddScidEnds x advertise v o → active v ≤ v.scid_limit → WithinPeerLimit v i o
peer_within v i (refuses n k) a z = absurd (omega arith)
peer_within v i (raises n r k t) a z = absurd (omega arith)
peer_within {x} v i (issues r t n p l q) a z = omega (arith, keep_one_more (from r) v.scids x, raised_few v t a)

-- ---- the frame of the ID just issued

not_nothing : {A : Type 0} (n : ℕ) → Nothing ≡ Issued n → A
not_nothing n e = let z : ◌≡◌ {A = ℕ} 0 1 = cc in absurd (omega arith)

own_above : {x : Item} {advertise : Bool} (v : View) (i : Issue) {o : Out} → Well v → AddScidEnds x advertise v o → IssuedAboveOwn v i o
own_above v i h (refuses n k) m e = not_nothing m e
own_above v i h (raises n r k t) m e = not_nothing m e
own_above v i h (issues r t n p l q) m e = let z : v.next_scid_seq ≡ m = cc in omega (arith, raised_le v t h)

-- ---- a retire of the packet's own ID

own_packet_lem : MetUnless retire_id only OwnPacket
own_packet_lem = met_unless retire_id OwnPacket only (λ v f h o x e s.
    let P : Out → Type 0 = Closes protocol_violation in
    decided P (leb v.next_scid_seq f.seq) (λ e. (refl, refl)) (λ q. rw (o, e, s) (refl, refl)))

-- ---- an issued ID is accepted until the peer retires it

any_left : {A : Type 0} (p : A → Bool) (l m : List A) → any p l ≡ true → any p (l ++ m) ≡ true
any_left p [] m e = never (sym e)
any_left p (x ∷ l) m e = test (p x) e (any_left p l m)
  where
    test : (b : Bool) → (b || any p l) ≡ true → (any p l ≡ true → any p (l ++ m) ≡ true) → (b || any p (l ++ m)) ≡ true
    test true e i = refl
    test false e i = i e

record Accepts (v : View) (o : Out) : Type 0 where
  each : (id : ConnectionId) → any (has_cid id) v.scids ≡ true → any (has_cid id) o.view.scids ≡ true

-- the table is the same
alike : (v : View) (o : Out) → o.view.scids ≡ v.scids → Accepts v o
alike v o q = record { each = λ id e. rw q e }

add_accepts : {x : Item} {advertise : Bool} (v : View) {o : Out} → AddScidEnds x advertise v o → Accepts v o
add_accepts v (refuses n k) = alike v _ refl
add_accepts v (raises n r k t) = alike v _ refl
add_accepts {x} v (issues r t n p l a) = record { each = λ id e. any_left (has_cid id) v.scids (x ∷ []) e }

dcid_accepts : {x : Item} {b : ℕ} (v : View) {o : Out} → AddDcidEnds x b v o → Accepts v o
dcid_accepts v (rejects n k) = alike v _ refl
dcid_accepts v (again e) = alike v _ refl
dcid_accepts v (waits n k q) = alike v _ refl
dcid_accepts v (late4 n k m) = alike v _ refl
dcid_accepts v (late n k m t) = alike v _ refl
dcid_accepts v (lowers m k n u q) = alike v _ refl
dcid_accepts v (renews n u q r t) = alike v _ refl
dcid_accepts v (adds n u q r) = alike v _ refl

used_id : (id : ConnectionId) (s p : ℕ) (x : Item) → has_cid id (cond (has_seq s x) (on_path p x) x) ≡ has_cid id x
used_id id s p x = decided (λ (y : Item). has_cid id y ≡ has_cid id x) (has_seq s x) (λ e. refl) (λ e. refl)

step_accepts : (v : View) (c : Call) → retiring v c ≡ false → Accepts v (step v c)
step_accepts v (SetInitialDcid cid token path) i = alike v _ refl
step_accepts v (SetScidLimit n) i = alike v _ refl
step_accepts v (AddScid cid token advertise path retire_if_needed) i = add_accepts v (add_scid_ends cid token advertise path v retire_if_needed)
step_accepts v (RetireScid s packet) i = never i
step_accepts v (AddDcid cid s token b) i = dcid_accepts v (add_dcid_ends cid s token b v)
step_accepts v (MarkScidUsed s p) i =
    decided (Accepts v) (any (has_seq s) v.scids) (λ e. record { each = λ id q. any_moved (has_cid id) _ (used_id id s p) v.scids ∙ q }) (λ e. alike v _ refl)
step_accepts v (MarkDcidUsed s p) i = decided (Accepts v) (any (has_seq s) v.dcids) (λ e. alike v _ refl) (λ e. alike v _ refl)
step_accepts v (MarkScidToAdvertise s on) i = decided (Accepts v) (on && leb queue_slots (length v.scids_to_advertise)) (λ e. alike v _ refl) (λ e. alike v _ refl)
step_accepts v (MarkDcidToRetire s on) i = decided (Accepts v) (on && leb queue_slots (length v.dcids_to_retire)) (λ e. alike v _ refl) (λ e. alike v _ refl)
step_accepts v (Ask q) i = alike v _ refl

-- ---- a retire takes out the sequence that it names, and no other

has_without : (s t : ℕ) (l : List Item) → eqb s t ≡ false → has s (map seq_of l) ≡ true → has s (map seq_of (without t l)) ≡ true
has_without s t [] d e = e
has_without s t (x ∷ l) d e = test (eqb s x.seq) (eqb t x.seq) refl refl e (has_without s t l d)
  where
    test : (a b : Bool) → eqb s x.seq ≡ a → eqb t x.seq ≡ b → (a || has s (map seq_of l)) ≡ true → (has s (map seq_of l) ≡ true → has s (map seq_of (without t l)) ≡ true)
        → has s (map seq_of (cond (not b) (x ∷ without t l) (without t l))) ≡ true
    test true true p q e i = absurd (eqb-false s t d (omega (arith, eqb-true s x.seq p, eqb-true t x.seq q)))
    test true false p q e i = rw p
    test false true p q e i = i e
    test false false p q e i = rw p (i e)

others_stay_lem : (v : View) (f : RetireConnectionId) {o : Out} → RetireScidEnds f.seq f.packet v o → OthersStay v f o
others_stay_lem v f (unissued k) s d e = e
others_stay_lem v f (only_one q) s d e = e
others_stay_lem v f (absent q) s d e = e
others_stay_lem v f (out n k a q) s d e = has_without s f.seq v.scids d e
others_stay_lem v f (frees x r a q l) s d e = has_without s f.seq v.scids d e

without_is : (s : ℕ) (l : List Item) → any (has_seq s) (without s l) ≡ false
without_is s [] = refl
without_is s (x ∷ l) = test (eqb s x.seq) refl (without_is s l)
  where
    test : (b : Bool) → eqb s x.seq ≡ b → any (has_seq s) (without s l) ≡ false → any (has_seq s) (cond (not b) (x ∷ without s l) (without s l)) ≡ false
    test true e i = i
    test false e i = rw e i

token_ends_lem : (v : View) (f : RetireConnectionId) {o : Out} → RetireScidEnds f.seq f.packet v o → TokenEnds v f o
token_ends_lem v f (unissued k) z = absurd (omega arith)
token_ends_lem v f (only_one q) z = absurd (omega arith)
token_ends_lem v f (absent q) z = q
token_ends_lem v f (out n k a q) z = absurd (omega arith)
token_ends_lem v f (frees x r a q l) z = without_is f.seq v.scids

not_none : {A : Type 0} (o : Option A) → not (present o) ≡ false → (a : A) × (o ≡ some a)
not_none none e = never e
not_none (some a) e = (a, refl)

given_retired : MetUnless retire_id none_left GivenIsRetired
given_retired = met_unless retire_id GivenIsRetired none_left (λ v f h n x b e s.
    let w = or_neither (sole f.seq v.scids) _ n in
    let r = not_none (lowest_from v.retire_prior_to (without f.seq v.scids)) w.1 in
    rw (lt-leb v.next_scid_seq f.seq b, w.0, e, s, r.1))

-- ---- supply, and the limits of issuing

supplied : MetUnless issue_id no_room Supplies
supplied = met_unless issue_id Supplies no_room (λ v i h n z t a.
    let u = or_neither (leb v.scid_limit (length v.scids)) _ n in
    let w = or_neither (leb max_sequence v.next_scid_seq) _ u.1 in
    let k : length v.scids < v.scid_limit = leb-false v.scid_limit (length v.scids) u.0 in
    rw (z, w.0, lt-ltb (length v.scids) v.scid_limit k, t, lt-leb v.scid_capacity (length v.scids) (omega (arith, h.limits.room, h.limits.slow)), w.1))

total_limited_lem : {x : Item} {advertise : Bool} (v : View) (i : Issue) {o : Out} → AddScidEnds x advertise v o → TotalLimited v i o
total_limited_lem v i (refuses n k) m e = not_nothing m e
total_limited_lem v i (raises n r k t) m e = not_nothing m e
total_limited_lem v i (issues r t n p l q) m e = let z : v.next_scid_seq ≡ m = cc in omega arith

-- ---- the retire queue

-- no call but a frame and the host's mark makes it longer
module _ (v : View) (m : length v.dcids_to_retire ≤ retire_limit v) where
  abbrev Limited : Out → Type 0
  Limited o = o.refusal ≡ 0 → length o.view.dcids_to_retire ≤ retire_limit v

  add_limited : {x : Item} {advertise : Bool} {o : Out} → AddScidEnds x advertise v o → Limited o
  add_limited (refuses n k) z = m
  add_limited (raises n r k t) z = m
  add_limited (issues r t n p l a) z = m

  retire_limited : {s : ℕ} {packet : ConnectionId} {o : Out} → RetireScidEnds s packet v o → Limited o
  retire_limited (unissued k) z = m
  retire_limited (only_one e) z = m
  retire_limited (absent e) z = m
  retire_limited (out n k a e) z = m
  retire_limited (frees x r a e l) z = m

  dcid_limited : {x : Item} {b : ℕ} {o : Out} → AddDcidEnds x b v o → Limited o
  dcid_limited (rejects n k) z = m
  dcid_limited (again e) z = m
  dcid_limited (waits n k q) z = m
  dcid_limited (late4 n k l) z = absurd (omega arith)
  dcid_limited (late n k l t) z = ltb-false _ _ t
  dcid_limited (lowers n k w u q) z = absurd (omega (arith, k.low))
  dcid_limited (renews n u q r t) z = ltb-false _ _ t
  dcid_limited (adds n u q r) z = m

  step_limited : (c : Call) → marking v c ≡ false → Limited (step v c)
  step_limited (SetInitialDcid cid token path) i = λ z. m
  step_limited (SetScidLimit n) i = λ z. m
  step_limited (AddScid cid token advertise path retire_if_needed) i = add_limited (add_scid_ends cid token advertise path v retire_if_needed)
  step_limited (RetireScid s packet) i = retire_limited (retire_scid_ends s packet v)
  step_limited (AddDcid cid s token b) i = dcid_limited (add_dcid_ends cid s token b v)
  step_limited (MarkScidUsed s p) i = decided Limited (any (has_seq s) v.scids) (λ e z. m) (λ e z. m)
  step_limited (MarkDcidUsed s p) i = decided Limited (any (has_seq s) v.dcids) (λ e z. m) (λ e z. m)
  step_limited (MarkScidToAdvertise s on) i = decided Limited (on && leb queue_slots (length v.scids_to_advertise)) (λ e z. m) (λ e z. m)
  step_limited (MarkDcidToRetire s true) i = never i
  step_limited (MarkDcidToRetire s false) i = λ z. omega (arith, length_keep (λ (n : ℕ). not (eqb s n)) v.dcids_to_retire)
  step_limited (Ask q) i = λ z. m

too_many_lem : (w : View) → too_many w ≡ true → retire_factor * w.dcid_limit < length w.dcids_to_retire
too_many_lem w t = ltb-true (retire_factor * w.dcid_limit) (length w.dcids_to_retire) t

not_many : (w : View) → too_many w ≡ false → length w.dcids_to_retire ≤ retire_factor * w.dcid_limit
not_many w t = ltb-false (retire_factor * w.dcid_limit) (length w.dcids_to_retire) t

-- a frame that is no error for what it says, and gives nothing that is held, comes late and waits already, comes late, raises Retire Prior To, or is added
module _ (v : View) (f : NewConnectionId) where
  abbrev waiting : Bool
  waiting = has f.seq v.dcids_to_retire

  plain : (P : Out → Type 0) → otherwise v f ≡ false
      → (comes_late v f ≡ true → waiting ≡ true → increases v f ≡ false → P (accepted (Retired []) v))
      → (comes_late v f ≡ true → waiting ≡ false → increases v f ≡ false → P (queue_late f.seq v))
      → (comes_late v f ≡ false → increases v f ≡ true → P (raise (item_of f) f.retire_prior_to v))
      → (comes_late v f ≡ false → increases v f ≡ false → P (append (item_of f) [] v))
      → P (step v (new_id f))
  plain P n w l r a =
      let u = or_neither v.zero_length_dcid _ n in
      let t = or_neither (held v f) _ u.1 in
      let k : f.retire_prior_to ≤ f.seq = ltb-false f.seq f.retire_prior_to t.1 in
      decided P v.zero_length_dcid (λ e. never (sym e ∙ u.0)) (λ e.
      optioned P (first (λ (y : Item). clashes y (item_of f)) v.dcids)
      (λ e. decided P (ltb f.seq f.retire_prior_to) (λ e. never (sym e ∙ t.1)) (λ e.
      decided P (comes_late v f)
      (λ c. let i : increases v f ≡ false = le-ltb v.largest_peer_retire_prior_to f.retire_prior_to (omega (arith, ltb-true f.seq v.largest_peer_retire_prior_to c)) in
      decided P waiting (λ q. w c q i) (λ q. l c q i))
      (λ c. decided P (increases v f) (λ e. r c e) (λ e. a c e))))
      (λ y e. never (sym (first_some (λ (y : Item). clashes y (item_of f)) v.dcids y e) ∙ t.0)))

  -- what is in need of retirement, in each of the four
  need_waits : comes_late v f ≡ true → waiting ≡ true → increases v f ≡ false → length v.dcids_to_retire ≡ in_need v f
  need_waits c q e = rw (c, q, e) (omega arith)

  need_late : comes_late v f ≡ true → waiting ≡ false → increases v f ≡ false → length (v.dcids_to_retire ++ (f.seq ∷ [])) ≡ in_need v f
  need_late c q e = rw (c, q, e) (simp length-append (omega arith))

  need_raised : comes_late v f ≡ false → increases v f ≡ true → length (queued f.retire_prior_to v) ≡ in_need v f
  need_raised c e = rw (c, e) (simp (length-append, length-map) (omega arith))

  need_same : comes_late v f ≡ false → increases v f ≡ false → length v.dcids_to_retire ≡ in_need v f
  need_same c e = rw (c, e) (omega arith)

  -- with fewer in the queue than may wait, a late one waits too
  late_fits : Well v → length v.dcids_to_retire < retire_limit v → (queue_late f.seq v).refusal ≡ 0
  late_fits h k =
      let P : Out → Type 0 = λ o. o.refusal ≡ 0 in
      let w : View = with_dcids_to_retire (v.dcids_to_retire ++ (f.seq ∷ [])) v in
      decided P (leb queue_slots (length v.dcids_to_retire)) (λ t. absurd (omega (arith, leb-true queue_slots (length v.dcids_to_retire) t, h.limits.dhigh))) (λ t.
      decided P (too_many w) (λ t. absurd (omega (arith, length-append v.dcids_to_retire (f.seq ∷ []), too_many_lem w t))) (λ t. refl))

-- what waits already is left as it is
waits_already_lem : Met new_id WaitsAlready
waits_already_lem = met new_id WaitsAlready (λ v f h k q. (left v f k q, λ n. still v f k q n))
  where
    left : (v : View) (f : NewConnectionId) → f.seq < v.largest_peer_retire_prior_to → has f.seq v.dcids_to_retire ≡ true → (step v (new_id f)).view ≡ v
    left v f k q =
        let P : Out → Type 0 = λ o. o.view ≡ v in
        decided P v.zero_length_dcid (λ e. refl) (λ e.
        optioned P (first (λ (y : Item). clashes y (item_of f)) v.dcids)
        (λ e. decided P (ltb f.seq f.retire_prior_to) (λ e. refl) (λ e. rw (lt-ltb f.seq v.largest_peer_retire_prior_to k, q)))
        (λ y e. decided P (repeats y (item_of f)) (λ e. refl) (λ e. refl)))

    still : (v : View) (f : NewConnectionId) → f.seq < v.largest_peer_retire_prior_to → has f.seq v.dcids_to_retire ≡ true → otherwise v f ≡ false → step v (new_id f) ≡ accepted (Retired []) v
    still v f k q n =
        let late = lt-ltb f.seq v.largest_peer_retire_prior_to k in
        plain v f (λ o. o ≡ accepted (Retired []) v) n (λ c w e. refl) (λ c w e. never (sym q ∙ w)) (λ c e. never (sym late ∙ c)) (λ c e. never (sym late ∙ c))

queue_limited_lem : MetUnless itself unlimited QueueLimited
queue_limited_lem = met_unless itself QueueLimited unlimited (λ v c h n.
    let u = or_neither (marking v c) _ n in
    step_limited v (ltb-false (retire_limit v) (length v.dcids_to_retire) u.1) c u.0)

-- the table is full, and nothing else refuses
over_limit_lem : MetUnless new_id unfilled OverLimit
over_limit_lem = met_unless new_id OverLimit unfilled (λ v f h g n l m k.
    let P : Out → Type 0 = Closes connection_id_limit_error in
    let b : ℕ = f.retire_prior_to in
    let full : capacity_of v.dcid_limit ≤ length (kept v f) = ltb-false (length (kept v f)) (capacity_of v.dcid_limit) g in
    plain v f P n (λ c q e. never (sym c ∙ l)) (λ c q e. never (sym c ∙ l))
    (λ c e.
    decided P (ltb queue_slots (length (queued b v))) (λ t. absurd (omega (arith, need_raised v f c e, ltb-true queue_slots (length (queued b v)) t, h.limits.dhigh))) (λ t.
    decided P (too_many (lowered b v)) (λ t. absurd (omega (arith, need_raised v f c e, too_many_lem (lowered b v) t))) (λ t.
    decided P (leb (capacity_of v.dcid_limit) (length (keep (from b) v.dcids))) (λ t. (refl, refl))
    (λ t. absurd (omega (arith, ap length (kept_from v f (ltb-true v.largest_peer_retire_prior_to b e)), leb-false (capacity_of v.dcid_limit) (length (keep (from b) v.dcids)) t))))))
    (λ c e.
    decided P (leb (capacity_of v.dcid_limit) (length v.dcids)) (λ t. (refl, refl))
    (λ t. absurd (omega (arith, ap length (kept_all v f (ltb-false v.largest_peer_retire_prior_to b e)), leb-false (capacity_of v.dcid_limit) (length v.dcids) t)))))

-- with no more than the limit before, 128 is not reached
many_to_retire : MetUnless new_id crowded (TooManyToRetire protocol_violation)
many_to_retire = met_unless new_id (TooManyToRetire protocol_violation) crowded (λ v f h g n k.
    let P : Out → Type 0 = Closes protocol_violation in
    let b : ℕ = f.retire_prior_to in
    let before : length v.dcids_to_retire ≤ retire_limit v = ltb-false (retire_limit v) (length v.dcids_to_retire) g in
    plain v f P n (λ c q e. absurd (omega (arith, need_waits v f c q e)))
    (λ c q e.
    let w : View = with_dcids_to_retire (v.dcids_to_retire ++ (f.seq ∷ [])) v in
    decided P (leb queue_slots (length v.dcids_to_retire)) (λ t. absurd (omega (arith, leb-true queue_slots (length v.dcids_to_retire) t, h.limits.dhigh))) (λ t.
    decided P (too_many w) (λ t. (refl, refl)) (λ t. absurd (omega (arith, need_late v f c q e, not_many w t)))))
    (λ c e.
    decided P (ltb queue_slots (length (queued b v)))
    (λ t. absurd (omega (arith, queued_few v b, ltb-true queue_slots (length (queued b v)) t, h.limits.dhigh, h.destination.few))) (λ t.
    decided P (too_many (lowered b v)) (λ t. (refl, refl)) (λ t. absurd (omega (arith, need_raised v f c e, not_many (lowered b v) t)))))
    (λ c e. absurd (omega (arith, need_same v f c e))))
  where
    queued_few : (v : View) (b : ℕ) → length (queued b v) ≤ length v.dcids_to_retire + length v.dcids
    queued_few v b = simp (length-append, length-map) (omega (arith, length_keep (below b) v.dcids))

tracks_twice_lem : MetUnless new_id otherwise TracksTwice
tracks_twice_lem = met_unless new_id TracksTwice otherwise (λ v f h n k.
    let P : Out → Type 0 = λ o. (Closes connection_id_limit_error o → ⊥) → o.refusal ≡ 0 in
    let b : ℕ = f.retire_prior_to in
    plain v f P n (λ c q e z. refl)
    (λ c q e z. late_fits v f h (omega (arith, length-append v.dcids_to_retire (f.seq ∷ []), need_late v f c q e, h.limits.dlow)))
    (λ c e.
    decided P (ltb queue_slots (length (queued b v))) (λ t. absurd (omega (arith, need_raised v f c e, ltb-true queue_slots (length (queued b v)) t, h.limits.dhigh))) (λ t.
    decided P (too_many (lowered b v)) (λ t. absurd (omega (arith, need_raised v f c e, too_many_lem (lowered b v) t))) (λ t.
    appended (item_of f) (lowered b v) _)))
    (λ c e. appended (item_of f) v []))
  where
    appended : (x : Item) (w : View) (ps : List UsedSeq) → (Closes connection_id_limit_error (append x ps w) → ⊥) → (append x ps w).refusal ≡ 0
    appended x w ps = decided (λ (o : Out). (Closes connection_id_limit_error o → ⊥) → o.refusal ≡ 0) (leb (capacity_of w.dcid_limit) (length w.dcids)) (λ e c. absurd (c (refl, refl))) (λ e c. refl)

-- ---- the same frame again, later

-- the sequence of an item that repeats the frame is there
repeated_has : (x : Item) (l : List Item) → any (λ (z : Item). repeats z x) l ≡ true → has x.seq (map seq_of l) ≡ true
repeated_has x [] e = never (sym e)
repeated_has x (y ∷ l) e = test (repeats y x) refl e (repeated_has x l)
  where
    test : (b : Bool) → repeats y x ≡ b → (b || any (λ (z : Item). repeats z x) l) ≡ true → (any (λ (z : Item). repeats z x) l ≡ true → has x.seq (map seq_of l) ≡ true) → (eqb x.seq y.seq || has x.seq (map seq_of l)) ≡ true
    test true r e i = rw (eq-eqb x.seq y.seq (sym (repeats_is y x r).seq))
    test false r e i = rw (i e, or-true)

module _ (v : View) (f : NewConnectionId) where
  -- what a frame that was taken leaves: no zero-length mark, and its sequence in the table or below the largest Retire Prior To
  record Took (o : Out) : Type 0 where
    unmarked : o.view.zero_length_dcid ≡ false
    knows : known f.seq o.view ≡ true

  below_known : (w : View) → f.seq < w.largest_peer_retire_prior_to → known f.seq w ≡ true
  below_known w k = rw (lt-ltb f.seq w.largest_peer_retire_prior_to k, or-true)

  end_known : (l : List Item) (n : ℕ) → (has f.seq (map seq_of (l ++ (item_of f ∷ []))) || ltb f.seq n) ≡ true
  end_known l n = rw (map_more l (item_of f), has_right f.seq (map seq_of l) (f.seq ∷ []) (rw (eq-eqb f.seq f.seq refl)))

  ends_took : {o : Out} → AddDcidEnds (item_of f) f.retire_prior_to v o → v.zero_length_dcid ≡ false → held v f ≡ false → o.refusal ≡ 0 → Took o
  ends_took (rejects n k) m c z = absurd (omega arith)
  ends_took (again e) m c z = never (sym e ∙ c)
  ends_took (waits n k q) m c z = record { unmarked = m; knows = below_known v k }
  ends_took (late4 n k l) m c z = absurd (omega arith)
  ends_took (late n k l t) m c z = record { unmarked = m; knows = below_known v k }
  ends_took (lowers n k w u q) m c z = absurd (omega arith)
  ends_took (renews n u q r t) m c z = record { unmarked = m; knows = end_known (keep (from f.retire_prior_to) v.dcids) f.retire_prior_to }
  ends_took (adds n u q r) m c z = record { unmarked = m; knows = end_known v.dcids v.largest_peer_retire_prior_to }

  took : Well v → (step v (new_id f)).refusal ≡ 0 → Took (step v (new_id f))
  took h = mark v.zero_length_dcid refl
    where
      Takes : Out → Type 0
      Takes o = o.refusal ≡ 0 → Took o

      fresh_took : v.zero_length_dcid ≡ false → (b : Bool) → repeated v f ≡ b → Takes (step v (new_id f))
      fresh_took m true r = subst Takes (sym (repeat_is_taken v f h m r)) (λ z. record { unmarked = m; knows = rw (repeated_has (item_of f) v.dcids r) })
      fresh_took m false r = unrepeated Takes v f r (λ z. absurd (omega arith)) (λ c. ends_took (ends v f) m c)

      mark : (b : Bool) → v.zero_length_dcid ≡ b → Takes (step v (new_id f))
      mark true m = rw m (λ z. absurd (omega arith))
      mark false m = fresh_took m (repeated v f) refl

  -- where it is known, and nothing of the exception holds, it is taken again
  welcome : Well v → v.zero_length_dcid ≡ false → known f.seq v ≡ true → spoilt v f ≡ false → (step v (new_id f)).refusal ≡ 0
  welcome h m k = test (repeated v f) refl
    where
      test : (b : Bool) → repeated v f ≡ b
          → (not b && (held v f || (ltb f.seq f.retire_prior_to || (not (has f.seq v.dcids_to_retire) && leb (retire_limit v) (length v.dcids_to_retire))))) ≡ false → (step v (new_id f)).refusal ≡ 0
      test true r e = ap (λ (o : Out). o.refusal) (repeat_is_taken v f h m r)
      test false r e =
          let u = or_neither (held v f) _ e in
          let t = or_neither (ltb f.seq f.retire_prior_to) _ u.1 in
          let gone : has f.seq (destinations v) ≡ false = has_map f.seq v.dcids ∙ unheld (item_of f) v.dcids u.0 in
          let late : comes_late v f ≡ true = sym (ap (λ (b : Bool). b || comes_late v f) gone) ∙ k in
          plain v f (λ o. o.refusal ≡ 0) (rw (m, u.0, t.0)) (λ c q i. refl)
          (λ c q i. late_fits v f h (leb-false (retire_limit v) (length v.dcids_to_retire) (sym (ap (λ (b : Bool). not b && leb (retire_limit v) (length v.dcids_to_retire)) q) ∙ t.1)))
          (λ c i. never (sym late ∙ c)) (λ c i. never (sym late ∙ c))

same_later : MetUnless same_again unwelcome SameFrameLater
same_later v r h c e z q =
    let w : View = r.before in
    let u = or_neither (any sets_initial r.since) _ e in
    let was : (well w ≡ true) × ((step w (same_again r)).refusal ≡ 0) = accepted_step w (same_again r) z in
    let t : Took w r.frame (apply w (same_again r)) = subst (Took w r.frame) (apply_is w (same_again r) was.0 c) (took w r.frame (well_is w was.0) was.1) in
    let s : Carried (after w (same_again r)) (run (after w (same_again r)) r.since) = run_carried r.since (after w (same_again r)) u.0 in
    let g : (v.zero_length_dcid ≡ false) × (known r.frame.seq v ≡ true) = rw q (s.mark ∙ t.unmarked, s.knows r.frame.seq t.knows) in
    sym (ap (λ (o : Out). o.refusal) (apply_is v (same_again r) h c)) ∙ welcome v r.frame (well_is v h) g.0 g.1 u.1
  where
    accepted_step : (w : View) (d : Call) → (apply w d).refusal ≡ 0 → (well w ≡ true) × ((step w d).refusal ≡ 0)
    accepted_step w d = test (well w) (call_formed d) refl
      where
        test : (a b : Bool) → well w ≡ a → (cond (a && b) (step w d) (refused 1 w)).refusal ≡ 0 → (well w ≡ true) × ((step w d).refusal ≡ 0)
        test true true p z = (p, z)
        test true false p z = absurd (omega arith)
        test false b p z = absurd (omega arith)

-- ---- late sequences, over any calls from fresh

-- a sequence below the largest is in no item, so that no frame of it is a repeat
unrepeated_late : (v : View) (f : NewConnectionId) → none_below v ≡ true → f.seq < v.largest_peer_retire_prior_to → repeated v f ≡ false
unrepeated_late v f n k = test (repeated v f) refl
  where
    all_has : (b s : ℕ) (l : List ℕ) → all (leb b) l ≡ true → has s l ≡ true → b ≤ s
    all_has b s [] n e = never (sym e)
    all_has b s (x ∷ l) n e =
        let w = and_both (leb b x) (all (leb b) l) n in
        choose (eqb s x) refl e w.0 (all_has b s l w.1)
      where
        choose : (t : Bool) → eqb s x ≡ t → (t || has s l) ≡ true → leb b x ≡ true → (has s l ≡ true → b ≤ s) → b ≤ s
        choose true p e q i = omega (arith, eqb-true s x p, leb-true b x q)
        choose false p e q i = i e

    test : (b : Bool) → repeated v f ≡ b → b ≡ false
    test true r = absurd (omega (arith, all_has v.largest_peer_retire_prior_to f.seq (destinations v) n (repeated_has (item_of f) v.dcids r)))
    test false r = refl

-- so a rule of late frames that is met but for repeats is met over such calls
met_over : (R : Rule NewConnectionId) → ((v : View) (f : NewConnectionId) (o : Out) → (f.seq < v.largest_peer_retire_prior_to → R v f o) → R v f o) → MetUnless new_id repeated R → MetOver new_id R
met_over R of_late m v s cs n f c =
    let w : View = run v cs in
    let low : none_below w ≡ true = none_below_early_lem v s cs [] (subst (λ (l : List Call). never_after sets_initial takes_frame l ≡ true) (sym (append-nil cs)) n) in
    of_late w f (apply w (new_id f)) (λ k. m w f (run_well cs v (fresh_well_lem v s)) c (unrepeated_late w f low k))

late_is_retired_lem : MetUnless new_id repeated LateIsRetired
late_is_retired_lem = met_unless new_id LateIsRetired repeated (λ v f h n. unrepeated (LateIsRetired v f) v f n (λ k z. absurd (omega arith)) (λ c. late_retired v f (ends v f) c))

late_is_not_kept_lem : MetUnless new_id repeated LateIsNotKept
late_is_not_kept_lem = met_unless new_id LateIsNotKept repeated (λ v f h n. unrepeated (LateIsNotKept v f) v f n (λ k z. absurd (omega arith)) (λ c. late_not_kept v f (ends v f) c))

-- ---- the whole

pub conforms : Conforms
conforms = record {
  own_initial_is_zero = λ v s. (begun v s).table;
  initial_is_zero = met initial_id InitialIsZero (λ v i h. refl);
  increases_by_one = without_gap_lem;
  accepted_until_retired = met_unless itself AcceptedUntilRetired retiring (λ v c h i. (step_accepts v c i).each);
  others_stay = met retire_id OthersStay (λ v f h. others_stay_lem v f (retire_scid_ends f.seq f.packet v));
  within_peer_limit = met_unless issue_id WithinPeerLimit excess (λ v i h x. peer_within v i (issue_ends v i) (ltb-false v.scid_limit (active v) x));
  within_limit = limited;
  over_limit = over_limit_lem;
  supplies = supplied;
  total_limited = met issue_id TotalLimited (λ v i h. total_limited_lem v i (issue_ends v i));
  issuance_limited = met SetScidLimit IssuanceLimited (λ v n h. (omega arith, omega arith));
  zero_length_issues = zero_issues;
  lower_are_retired = met_unless new_id LowerAreRetired repeated (λ v f h n. unrepeated (LowerAreRetired v f) v f n (λ k z. absurd (omega arith)) (λ c. lower_retired v f (ends v f) c));
  queue_limited = queue_limited_lem;
  tracks_twice = tracks_twice_lem;
  too_many_to_retire = many_to_retire;
  not_forgotten = met_unless itself NotForgotten initial (λ v c h i. (step_keeps v c i).each);
  zero_length_destination = zero_destination;
  same_frame_again = met new_id SameFrameAgain repeat_is_taken;
  same_frame_later = same_later;
  conflict = conflicts;
  issued_above_own = met issue_id IssuedAboveOwn (λ v i h. own_above v i h (issue_ends v i));
  above_sequence = above;
  ignores = ignored;
  late_is_retired = late_is_retired_lem;
  late_is_not_kept = late_is_not_kept_lem;
  waits_already = waits_already_lem;
  late_is_retired_over = met_over LateIsRetired (λ v f o k l. k l l) late_is_retired_lem;
  late_is_not_kept_over = met_over LateIsNotKept (λ v f o k l. k l l) late_is_not_kept_lem;
  token_ends = met retire_id TokenEnds (λ v f h. token_ends_lem v f (retire_scid_ends f.seq f.packet v));
  not_issued = not_issued_lem;
  own_packet = own_packet_lem;
  given_is_retired = given_retired;
}

pub differs : Differs
differs = record {
  encoding = (refl, refl, λ r. omega (arith, (r (omega arith)).1));
  over_limit = (refl, refl, λ r. omega (arith, r refl));
  limit_no_error = (refl, refl, λ r. never (r refl refl (omega arith) (omega arith)).0);
  zero_length_source = (refl, refl, λ r. omega (arith, (r refl).1));
  repeat_raises = (refl, refl, λ r. never (sym (r (omega arith) refl).0));
  repeat_keeps_all = (refl, refl, λ r. omega (arith, r refl));
  encoding_of_repeat = (refl, refl, λ r. r (omega arith) refl);
  too_many_to_retire = (refl, refl, λ r. omega (arith, (r refl (omega arith)).1));
  many_marks = (refl, refl, λ r. omega (arith, r refl));
  after_marks = (refl, refl, λ r. never (r refl (omega arith)).0);
  frame_of_retired = (refl, refl, λ r. omega (arith, r 1 2 (cid 2) (token 2) refl));
  retires_unsent = (refl, refl, λ r. never (r refl).0);
  frame_for_retired = (refl, refl, λ r. never (r refl));
  takes_empty = (refl, refl, λ r. never (r refl).0);
  over_peer_limit = (refl, refl, λ r. omega (arith, r refl));
  cannot_supply = (refl, refl, λ r. omega (arith, r refl refl (omega arith)));
  cannot_supply_with_leave = (refl, refl, λ r. omega (arith, r refl refl (omega arith)));
  forgets = (refl, refl, λ r. never (sym (r 1 refl)));
  forgotten_frame = (refl, refl, λ r. omega (arith, r refl refl));
  cuts_longer = (refl, refl, λ r. never (r (omega arith)).0);
  retire_refused = (refl, refl, λ r. omega (arith, r _ (omega arith) refl refl));
  only_own_packet = (refl, refl, λ r. omega (arith, (r _ refl refl).1));
  raises_again = (refl, refl, λ r. omega (arith, r refl));
  offers_retired = (refl, refl, λ r. never (r refl 0 refl));
  issued_twice = (refl, refl, λ r. never (r refl));
  issues_empty = (refl, refl, λ r. never (sym (r refl)));
  low_limit = (refl, refl, λ r. never (r (omega arith)).0);
  shares_token = (refl, refl, λ r. never (r refl));
  peer_shares_token = (refl, refl, λ r. never (r refl));
  moves_path = (refl, refl, λ r. never (r refl));
  moves_own_path = (refl, refl, λ r. never (r refl));
  late_repeat = (refl, refl, λ r. never (sym (r (omega arith) refl)));
  late_kept = (refl, refl, λ r. never (r (omega arith) refl));
  retired_frame = (refl, refl, λ r. omega (arith, r refl refl));
}
