-- The destination sequences: what a call leaves of them, and so a run. None in the table is below the largest Retire Prior To [10]; and one that was there stays, or is
-- below it.
use Rattle.std.specs.Prelude.{ℕ, ◌≤◌, ◌<◌, ◌≡◌, refl, List, [], ◌∷◌, ◌++◌, map, Bool, true, false, cond, not, ◌&&◌, ◌||◌, length, drop, eqb, leb, ltb}
use Rattle.std.proofs.Common.{sym, ap, ◌∙◌, arith, leb-true, leb-false, ltb-true, eqb-true, le-leb, lt-ltb}
use Rattle.std.proofs.Math.Bool.{or-true}
use Rattle.std.proofs.lemmas.Bool.{not-true}
use Rattle.lists.specs.Defs.{keep, any, all, has}
use Rattle.values.specs.declared.cid.ConnectionId.{ConnectionId}
use Rattle.values.specs.Limits.{queue_slots}
use Rattle.ids_rules.specs.Values.{Item, seq_of, has_seq, from, below}
use Rattle.ids_rules.specs.View.{View, Out}
use Rattle.ids_rules.specs.Steps.{fresh_formed, lowered}
use Rattle.ids_rules.proofs.Ends.{AddScidEnds, refuses, raises, issues, RetireScidEnds, unissued, only, absent, out, frees, AddDcidEnds, rejects, again, waits, late4, late, lowers, renews, adds, add_scid_ends, retire_scid_ends, add_dcid_ends}
use Rattle.ids_rules.specs.Well.{well}
use Rattle.ids_rules.specs.Calls.{Call, SetInitialDcid, SetScidLimit, AddScid, RetireScid, AddDcid, MarkScidUsed, MarkDcidUsed, MarkScidToAdvertise, MarkDcidToRetire, Ask, call_formed, step, after, run}
use Rattle.ids_rules.specs.Laws.{decided, never, or_neither, all_append, all_kept}
use Rattle.ids_rules.proofs.Once.{map_more, map_used}
use Rattle.ids_rules.specs.Promise.{Starts, starts, sets_initial, takes_frame, destinations, none_below, never_after, NoneBelow, NoneBelowEarly}

-- ---- a sequence of a list of items

pub has_right : (s : ℕ) (l m : List ℕ) → has s m ≡ true → has s (l ++ m) ≡ true
has_right s [] m e = e
has_right s (x ∷ l) m e = rw (has_right s l m e, or-true)

has_left : (s : ℕ) (l m : List ℕ) → has s l ≡ true → has s (l ++ m) ≡ true
has_left s [] m e = never (sym e)
has_left s (x ∷ l) m e = test (eqb s x) e (has_left s l m)
  where
    test : (b : Bool) → (b || has s l) ≡ true → (has s l ≡ true → has s (l ++ m) ≡ true) → (b || has s (l ++ m)) ≡ true
    test true e i = refl
    test false e i = i e

-- one below b, and one not below b
pub has_below : (s b : ℕ) (l : List Item) → s < b → has s (map seq_of l) ≡ true → has s (map seq_of (keep (below b) l)) ≡ true
has_below s b [] k e = e
has_below s b (x ∷ l) k e = test (eqb s x.seq) (leb b x.seq) refl refl e (has_below s b l k)
  where
    test : (t u : Bool) → eqb s x.seq ≡ t → leb b x.seq ≡ u → (t || has s (map seq_of l)) ≡ true → (has s (map seq_of l) ≡ true → has s (map seq_of (keep (below b) l)) ≡ true)
        → has s (map seq_of (cond (not u) (x ∷ keep (below b) l) (keep (below b) l))) ≡ true
    test true true p q e i = absurd (omega (arith, eqb-true s x.seq p, leb-true b x.seq q))
    test true false p q e i = rw p
    test false true p q e i = i e
    test false false p q e i = rw p (i e)

pub has_from : (s b : ℕ) (l : List Item) → b ≤ s → has s (map seq_of l) ≡ true → has s (map seq_of (keep (from b) l)) ≡ true
has_from s b [] k e = e
has_from s b (x ∷ l) k e = test (eqb s x.seq) (leb b x.seq) refl refl e (has_from s b l k)
  where
    test : (t u : Bool) → eqb s x.seq ≡ t → leb b x.seq ≡ u → (t || has s (map seq_of l)) ≡ true → (has s (map seq_of l) ≡ true → has s (map seq_of (keep (from b) l)) ≡ true)
        → has s (map seq_of (cond u (x ∷ keep (from b) l) (keep (from b) l))) ≡ true
    test true false p q e i = absurd (omega (arith, eqb-true s x.seq p, leb-false b x.seq q))
    test true true p q e i = rw p
    test false false p q e i = i e
    test false true p q e i = rw p (i e)

-- a bound on the sequences is one on the items
all_seqs : (b : ℕ) (l : List Item) → all (leb b) (map seq_of l) ≡ all (from b) l
all_seqs b [] = refl
all_seqs b (x ∷ l) = ap (λ (t : Bool). leb b x.seq && t) (all_seqs b l)

-- ---- the calls that take no frame

-- a fact of the one that does and of the others is a fact of all
pub by_frame : (P : Call → Type 0) → ((cid : ConnectionId) (s : ℕ) (token : List ℕ) (b : ℕ) → P (AddDcid cid s token b)) → ((c : Call) → takes_frame c ≡ false → P c) → (c : Call) → P c
by_frame P a o (SetInitialDcid cid token path) = o (SetInitialDcid cid token path) refl
by_frame P a o (SetScidLimit n) = o (SetScidLimit n) refl
by_frame P a o (AddScid cid token advertise path retire_if_needed) = o (AddScid cid token advertise path retire_if_needed) refl
by_frame P a o (RetireScid s packet) = o (RetireScid s packet) refl
by_frame P a o (AddDcid cid s token b) = a cid s token b
by_frame P a o (MarkScidUsed s p) = o (MarkScidUsed s p) refl
by_frame P a o (MarkDcidUsed s p) = o (MarkDcidUsed s p) refl
by_frame P a o (MarkScidToAdvertise s on) = o (MarkScidToAdvertise s on) refl
by_frame P a o (MarkDcidToRetire s on) = o (MarkDcidToRetire s on) refl
by_frame P a o (Ask q) = o (Ask q) refl

-- the sequences, the largest Retire Prior To and the zero-length mark are the same
pub record Alike (v w : View) : Type 0 where
  pub table : destinations w ≡ destinations v
  pub largest : w.largest_peer_retire_prior_to ≡ v.largest_peer_retire_prior_to
  pub mark : w.zero_length_dcid ≡ v.zero_length_dcid

-- the largest is the same; and all of these are, but after set_initial_dcid
pub record Aside (v : View) (c : Call) (o : Out) : Type 0 where
  pub largest : o.view.largest_peer_retire_prior_to ≡ v.largest_peer_retire_prior_to
  pub alike : sets_initial c ≡ false → Alike v o.view

same : (v : View) (c : Call) (o : Out) → destinations o.view ≡ destinations v → o.view.largest_peer_retire_prior_to ≡ v.largest_peer_retire_prior_to → o.view.zero_length_dcid ≡ v.zero_length_dcid → Aside v c o
same v c o t l m = record { largest = l; alike = λ i. record { table = t; largest = l; mark = m } }

add_aside : (c : Call) {x : Item} {advertise : Bool} {v : View} {o : Out} → AddScidEnds x advertise v o → Aside v c o
add_aside c {v = v} (refuses n k) = same v c _ refl refl refl
add_aside c {v = v} (raises n r k t) = same v c _ refl refl refl
add_aside c {v = v} (issues r t n p l a) = same v c _ refl refl refl

retire_aside : (c : Call) {s : ℕ} {packet : ConnectionId} {v : View} {o : Out} → RetireScidEnds s packet v o → Aside v c o
retire_aside c {v = v} (unissued k) = same v c _ refl refl refl
retire_aside c {v = v} (only e) = same v c _ refl refl refl
retire_aside c {v = v} (absent e) = same v c _ refl refl refl
retire_aside c {v = v} (out n k a e) = same v c _ refl refl refl
retire_aside c {v = v} (frees x r a e l) = same v c _ refl refl refl

pub step_aside : (v : View) (c : Call) → takes_frame c ≡ false → Aside v c (step v c)
step_aside v (SetInitialDcid cid token path) f = record { largest = refl; alike = λ i. never i }
step_aside v (SetScidLimit n) f = same v _ _ refl refl refl
step_aside v (AddScid cid token advertise path retire_if_needed) f = add_aside _ (add_scid_ends cid token advertise path v retire_if_needed)
step_aside v (RetireScid s packet) f = retire_aside _ (retire_scid_ends s packet v)
step_aside v (AddDcid cid s token b) f = never f
step_aside v (MarkScidUsed s p) f =
    let c : Call = MarkScidUsed s p in
    decided (Aside v c) (any (has_seq s) v.scids) (λ e. same v c _ refl refl refl) (λ e. same v c _ refl refl refl)
step_aside v (MarkDcidUsed s p) f =
    let c : Call = MarkDcidUsed s p in
    decided (Aside v c) (any (has_seq s) v.dcids) (λ e. same v c _ (map_used s p v.dcids) refl refl) (λ e. same v c _ refl refl refl)
step_aside v (MarkScidToAdvertise s on) f =
    let c : Call = MarkScidToAdvertise s on in
    decided (Aside v c) (on && leb queue_slots (length v.scids_to_advertise)) (λ e. same v c _ refl refl refl) (λ e. same v c _ refl refl refl)
step_aside v (MarkDcidToRetire s on) f =
    let c : Call = MarkDcidToRetire s on in
    decided (Aside v c) (on && leb queue_slots (length v.dcids_to_retire)) (λ e. same v c _ refl refl refl) (λ e. same v c _ refl refl refl)
step_aside v (Ask q) f = same v _ _ refl refl refl

-- ---- any call but set_initial_dcid

-- the table holds the sequence, or it is below the largest Retire Prior To
abbrev pub known : ℕ → View → Bool
known s v = has s (destinations v) || ltb s v.largest_peer_retire_prior_to

-- none comes to be below the largest, what is known stays so, and so does the mark
pub record Carried (v w : View) : Type 0 where
  pub none : none_below v ≡ true → none_below w ≡ true
  pub knows : (s : ℕ) → known s v ≡ true → known s w ≡ true
  pub mark : w.zero_length_dcid ≡ v.zero_length_dcid

carried : (v w : View) → Alike v w → Carried v w
carried v w a = record { none = λ h. rw (a.table, a.largest) h; knows = λ s h. rw (a.table, a.largest) h; mark = a.mark }

unchanged : (v : View) → Carried v v
unchanged v = record { none = λ h. h; knows = λ s h. h; mark = refl }

-- of two that one is: the first, or the second
either : {A : Type 0} (a b : Bool) → (a || b) ≡ true → (a ≡ true → A) → (b ≡ true → A) → A
either true b e h k = h refl
either false b e h k = k e

-- a Retire Prior To above the largest: what is lower is below it now, and the others stay
module _ (b : ℕ) (v : View) (k : v.largest_peer_retire_prior_to < b) where
  lowered_known : (s : ℕ) → known s v ≡ true → known s (lowered b v) ≡ true
  lowered_known s h = decide (leb b s) refl
    where
      low : s < b → known s (lowered b v) ≡ true
      low l = rw (lt-ltb s b l, or-true)

      decide : (t : Bool) → leb b s ≡ t → known s (lowered b v) ≡ true
      decide true e =
          either (has s (destinations v)) (ltb s v.largest_peer_retire_prior_to) h (λ t. rw (has_from s b v.dcids (leb-true b s e) t))
          (λ t. absurd (omega (arith, leb-true b s e, ltb-true s v.largest_peer_retire_prior_to t)))
      decide false e = low (leb-false b s e)

  lowered_carried : Carried v (lowered b v)
  lowered_carried = record { none = λ h. all_seqs b (keep (from b) v.dcids) ∙ all_kept (from b) v.dcids; knows = lowered_known; mark = refl }

-- an item that is not below the largest comes to the end
module _ (x : Item) (v w : View) (d : w.dcids ≡ v.dcids ++ (x ∷ [])) (l : w.largest_peer_retire_prior_to ≡ v.largest_peer_retire_prior_to) (k : v.largest_peer_retire_prior_to ≤ x.seq) where
  longer : destinations w ≡ destinations v ++ (x.seq ∷ [])
  longer = ap (map seq_of) d ∙ map_more v.dcids x

  added : w.zero_length_dcid ≡ v.zero_length_dcid → Carried v w
  added m = record {
    none = λ h. rw (longer, l) (all_append (leb v.largest_peer_retire_prior_to) (destinations v) (x.seq ∷ []) h (rw (le-leb v.largest_peer_retire_prior_to x.seq k)));
    knows = λ s h. rw (longer, l) (either (has s (destinations v)) (ltb s v.largest_peer_retire_prior_to) h (λ t. rw (has_left s (destinations v) (x.seq ∷ []) t)) (λ t. rw (t, or-true)));
    mark = m;
  }

then_carried : {u v w : View} → Carried u v → Carried v w → Carried u w
then_carried a b = record { none = λ h. b.none (a.none h); knows = λ s h. b.knows s (a.knows s h); mark = b.mark ∙ a.mark }

dcid_carried : {x : Item} {b : ℕ} (v : View) {o : Out} → AddDcidEnds x b v o → Carried v o.view
dcid_carried v (rejects n k) = unchanged v
dcid_carried v (again e) = unchanged v
dcid_carried v (waits n k q) = unchanged v
dcid_carried v (late4 n k m) = carried v _ (record { table = refl; largest = refl; mark = refl })
dcid_carried v (late n k m t) = carried v _ (record { table = refl; largest = refl; mark = refl })
dcid_carried {b = b} v (lowers m k n u q) = lowered_carried b v u
dcid_carried {x} {b} v (renews n u q r t) = then_carried (lowered_carried b v u) (added x (lowered b v) _ refl refl n.fits refl)
dcid_carried {x} v (adds n u q r) = added x v _ refl refl q refl

-- a call that takes a frame, and any
frame_carried : (v : View) (c : Call) → takes_frame c ≡ true → Carried v (step v c).view
frame_carried v =
    by_frame (λ (c : Call). takes_frame c ≡ true → Carried v (step v c).view) (λ cid s token b f. dcid_carried v (add_dcid_ends cid s token b v))
    (λ c n f. never (sym f ∙ n))

step_carried : (v : View) (c : Call) → sets_initial c ≡ false → Carried v (step v c).view
step_carried v =
    by_frame (λ (c : Call). sets_initial c ≡ false → Carried v (step v c).view) (λ cid s token b i. dcid_carried v (add_dcid_ends cid s token b v))
    (λ c f i. carried v _ ((step_aside v c f).alike i))

-- answered 1, nothing changes
after_is : (P : View → Type 0) (v : View) (c : Call) → P v → P (step v c).view → P (after v c)
after_is P v c n s = decided (λ (o : Out). P o.view) (well v && call_formed c) (λ e. s) (λ e. n)

-- ---- runs

none_left_lem : {A : Type 0} (p : A → Bool) (l m : List A) → any p (l ++ m) ≡ false → any p l ≡ false
none_left_lem p [] m e = refl
none_left_lem p (x ∷ l) m e = let w = or_neither (p x) (any p (l ++ m)) e in rw w.0 (none_left_lem p l m w.1)

pub run_carried : (cs : List Call) (v : View) → any sets_initial cs ≡ false → Carried v (run v cs)
run_carried [] v i = unchanged v
run_carried (c ∷ cs) v i =
    let w = or_neither (sets_initial c) (any sets_initial cs) i in
    then_carried (after_is (Carried v) v c (unchanged v) (step_carried v c w.0)) (run_carried cs (after v c) w.1)

-- none is below 0
at_zero : (v : View) → v.largest_peer_retire_prior_to ≡ 0 → none_below v ≡ true
at_zero v z = rw z (all_zero (destinations v))
  where
    all_zero : (l : List ℕ) → all (leb 0) l ≡ true
    all_zero [] = refl
    all_zero (x ∷ l) = rw (le-leb 0 x (omega arith)) (all_zero l)

-- until a frame comes, the largest is 0
early : (cs ds : List Call) (v : View) → v.largest_peer_retire_prior_to ≡ 0 → never_after sets_initial takes_frame (cs ++ ds) ≡ true → none_below (run v cs) ≡ true
early [] ds v z n = at_zero v z
early (c ∷ cs) ds v z n = test (takes_frame c) refl (early cs ds (after v c)) n
  where
    test : (b : Bool) → takes_frame c ≡ b → ((after v c).largest_peer_retire_prior_to ≡ 0 → never_after sets_initial takes_frame (cs ++ ds) ≡ true → none_below (run (after v c) cs) ≡ true)
        → cond b (not (any sets_initial (cs ++ ds))) (never_after sets_initial takes_frame (cs ++ ds)) ≡ true → none_below (run (after v c) cs) ≡ true
    test true f i n =
        (run_carried cs (after v c) (none_left_lem sets_initial cs ds (not-true (any sets_initial (cs ++ ds)) n))).none
        ((after_is (Carried v) v c (unchanged v) (frame_carried v c f)).none (at_zero v z))
    test false f i n = i (after_is (λ (w : View). w.largest_peer_retire_prior_to ≡ 0) v c z ((step_aside v c f).largest ∙ z)) n

-- what passes p nowhere, or at the first place alone, never comes after what passes q
module _ {A : Type 0} (p q : A → Bool) where
  pub never_early : (l : List A) → any p l ≡ false → never_after p q l ≡ true
  never_early [] e = refl
  never_early (x ∷ l) e =
      let w = or_neither (p x) (any p l) e in
      decided (λ (b : Bool). b ≡ true) (q x) (λ t. rw w.1) (λ t. never_early l w.1)

  pub first_early : (l : List A) → any p (drop 1 l) ≡ false → never_after p q l ≡ true
  first_early [] e = refl
  first_early (x ∷ l) e = decided (λ (b : Bool). b ≡ true) (q x) (λ t. rw e) (λ t. never_early l e)

start_zero : (v : View) → Starts v → v.largest_peer_retire_prior_to ≡ 0
start_zero v (starts dcid_limit cid path token e) = decided (λ (o : Out). o.view.largest_peer_retire_prior_to ≡ 0) (fresh_formed dcid_limit cid) (λ t. refl) (λ t. refl)

pub none_below_early_lem : NoneBelowEarly
none_below_early_lem v f cs ds n = early cs ds v (start_zero v f) n

pub none_below_lem : NoneBelow
none_below_lem v f cs ds i = none_below_early_lem v f cs ds (first_early sets_initial takes_frame (cs ++ ds) i)
