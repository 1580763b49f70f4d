-- Laws of tables and queues, as the loops over them cite them.
use Rattle.std.specs.Option.{MatchOption}
use Rattle.std.specs.Prelude.{Option as Optional, Some, None, ℕ, zero, suc, ◌+◌, ◌-◌, ◌≤◌, ◌<◌, ◌≡◌, refl, List, [], ◌∷◌, ◌++◌, Bool, true, false, not, cond, ◌&&◌, ◌||◌, leb, ltb, length, take, set, get_or, replicate}
use Rattle.std.proofs.Common.{sym, ap, ap₂, ◌∙◌, arith, leb-true, leb-false, lt-ltb, le-ltb, not-suc-le-zero, le_of_suc-le-suc, length-append, length-set, get_or-take}
use Rattle.std.proofs.Math.Option.{none, some}
use Rattle.std.proofs.Math.Bool.{and-true, and_assoc}
use Rattle.std.specs.Int.Bits.{bit_or}
use Rattle.lists.specs.Defs.{optional, first_with, nought, past, picked, padded}
use Rattle.lists.specs.Every.{middle}
use Rattle.lists.specs.Tests.{zero_or}
use Rattle.lists.specs.Search.{first_below, optional_some, optional_none, picked_yes, picked_no, picked_few}
use Rattle.lists.specs.Held.{take_padded, padded_push, held_length, held_count, held_push, held_more, held_of, get_or_in}
use Rattle.values.specs.Limits.{table_slots, queue_slots, max_cid_len, token_len}
use Rattle.values.specs.declared.used.UsedSeq.{UsedSeq}
use Rattle.tables.specs.Table.{zero_item, zero_pair, live, entries, table_of, queue_of, used_of, low_on_path, pair_of, TableWell, QueueWell, on_path, clashing, repeating, judged, first_judged, clash_of, is_zero}
use Rattle.tables.specs.declared.lookup.Clash.{Clash}
use Rattle.tables.specs.declared.lookup.Clash.TheVariants.{Repeats, Differs}
use Rattle.tables.specs.declared.sequences.Queue.{Queue}
use Rattle.tables.specs.declared.items.Item.{Item}
use Rattle.tables.specs.declared.items.Table.{Table}
use Rattle.tables.specs.declared.lower.Used.{Used}

-- ---- queues

module _ (q : Queue) (w : QueueWell q) where
  pub entries_long : length (entries q) ≡ q.count
  entries_long = held_count w

  pub queue_is : queue_of (entries q) ≡ q
  queue_is = λ i. record { items = sym w.is i; count = entries_long i }

  pub queue_push_is : (x : ℕ) → q.count < queue_slots → ◌≡◌ {A = Queue} (record { items = set q.items q.count x; count = q.count + 1 }) (queue_of (entries q ++ (x ∷ [])))
  queue_push_is x h = λ i. record { items = held_push w x h i; count = held_more w x i }

pub entries_at : (l : List ℕ) (q : Queue) → q ≡ queue_of l → entries q ≡ l
entries_at l q e = ap entries e ∙ take_padded queue_slots 0 l

pub queue_at_lem : (l : List ℕ) (q : Queue) → q ≡ queue_of l → length l ≤ queue_slots → QueueWell q
queue_at_lem l q e h = rw e (held_of queue_slots 0 l h)

-- a queue that is known by its list k, after a push
pub push_onto : (k m : List ℕ) (v : ℕ) (out r : Queue) → out ≡ queue_of k → r ≡ queue_of (entries out ++ (v ∷ [])) → m ≡ k ++ (v ∷ []) → r ≡ queue_of m
push_onto k m v out r e q g = q ∙ ap (λ (x : List ℕ). queue_of (x ++ (v ∷ []))) (entries_at k out e) ∙ ap queue_of (sym g)

-- ---- tables

module _ (t : Table) (w : TableWell t) where
  pub table_long : length t.items ≡ table_slots
  table_long = held_length w

  pub live_long : length (live t) ≡ t.count
  live_long = held_count w

  pub table_is : table_of (live t) ≡ t
  table_is = λ i. record { items = sym w.is i; count = live_long i }

  pub append_is : (x : Item) → t.count < table_slots → ◌≡◌ {A = Table} (record { items = set t.items t.count x; count = t.count + 1 }) (table_of (live t ++ (x ∷ [])))
  append_is x h = λ i. record { items = held_push w x h i; count = held_more w x i }

  -- an item of the table, as the code reads it
  pub item_at_lem : (i : ℕ) (d : Item) → i < t.count → get_or (live t) i zero_item ≡ get_or t.items i d
  item_at_lem i d h = get_or-take t.count t.items i zero_item h ∙ get_or_in t.items i zero_item d (omega (arith, table_long, w.few))

-- a table that is known by its list k
module _ (k : List Item) (out : Table) (e : out ≡ table_of k) where
  pub table_at : length k ≤ table_slots → TableWell out
  table_at h = rw e (held_of table_slots zero_item k h)

  pub live_of : live out ≡ k
  live_of = ap live e ∙ take_padded table_slots zero_item k

  pub append_onto : (m : List Item) (x : Item) (r : Table) → r ≡ table_of (live out ++ (x ∷ [])) → m ≡ k ++ (x ∷ []) → r ≡ table_of m
  append_onto m x r q g = q ∙ ap (λ (l : List Item). table_of (l ++ (x ∷ []))) live_of ∙ ap table_of (sym g)

  pub room_at : length k < table_slots → TableWell out × (out.count < table_slots)
  room_at h = (table_at (omega arith), omega (arith, ap (λ (t : Table). t.count) e))

-- a store within the list
pub set_append : {A : Type 0} (l r : List A) (i : ℕ) (a : A) → i < length l → set (l ++ r) i a ≡ set l i a ++ r
set_append [] r i a h = absurd (not-suc-le-zero h)
set_append (x ∷ l) r zero a h = refl
set_append {A} (x ∷ l) r (suc i) a h = ap (λ (m : List A). x ∷ m) (set_append l r i a (le_of_suc-le-suc h))

pub set_padded : {A : Type 0} (n : ℕ) (z : A) (l : List A) (i : ℕ) (a : A) → i < length l → set (padded n z l) i a ≡ padded n z (set l i a)
set_padded n z l i a h = set_append l (replicate (n - length l) z) i a h ∙ ap (λ (m : ℕ). set l i a ++ replicate (n - m) z) (sym (length-set l i a))

pub path_is : (t : Table) (w : TableWell t) (i : ℕ) (d : Item) (p : ℕ) → i < t.count
    → ◌≡◌ {A = Table} (record { items = set t.items i (on_path p (get_or t.items i d)); count = t.count }) (table_of (set (live t) i (on_path p (get_or (live t) i zero_item))))
path_is t w i d p h = λ k. record { items = items k; count = count k }
  where
    items : set t.items i (on_path p (get_or t.items i d)) ≡ padded table_slots zero_item (set (live t) i (on_path p (get_or (live t) i zero_item)))
    items =
        ap₂ (λ (x : Item) (l : List Item). set l i (on_path p x)) (sym (item_at_lem t w i d h)) w.is
        ∙ set_padded table_slots zero_item (live t) i (on_path p (get_or (live t) i zero_item)) (omega (arith, live_long t w))

    count : t.count ≡ length (set (live t) i (on_path p (get_or (live t) i zero_item)))
    count = sym (length-set (live t) i (on_path p (get_or (live t) i zero_item)) ∙ live_long t w)

-- ---- what a search answered

-- what was found stands at its place, which is the first
module _ (t : Table) (p : Item → Bool) (r : Optional ℕ) (e : r ≡ optional (first_with p (live t))) where
  pub place_at : (i : ℕ) → r ≡ Some i → first_with p (live t) ≡ some i
  place_at i q = optional_some (first_with p (live t)) i (sym e ∙ q)

  pub place_in : (i : ℕ) → TableWell t → r ≡ Some i → i < t.count
  place_in i w q = omega (arith, first_below p (live t) i (place_at i q), live_long t w)

  pub place_none : r ≡ None → first_with p (live t) ≡ none
  place_none q = optional_none (first_with p (live t)) (sym e ∙ q)

-- ---- the first item that clashes with a new one

pub clash_none : (n : ℕ) → clash_of n ≡ None → n ≡ 0
clash_none zero e = refl
clash_none (suc zero) e = cc
clash_none (suc (suc n)) e = cc

pub clash_repeats : (n : ℕ) → clash_of n ≡ Some Repeats → n ≡ 1
clash_repeats zero e = cc
clash_repeats (suc zero) e = refl
clash_repeats (suc (suc n)) e = cc

pub clash_differs : (n : ℕ) → clash_of n ≡ Some Differs → (n ≡ 0 → ⊥) × (n ≡ 1 → ⊥)
clash_differs zero e = cc
clash_differs (suc zero) e = cc
clash_differs (suc (suc n)) e = (λ q. omega (arith, q), λ q. omega (arith, q))

-- what find_map gives, place by place
module _ (x : Item) where
  abbrev pub against : Item → Optional Clash
  against y = clash_of (judged x y)

  passed : (y : Item) (r : ℕ) → against y ≡ None → clash_of (cond (clashing x y) (cond (repeating x y) 1 2) r) ≡ clash_of r
  passed y r = go (clashing x y) (repeating x y)
    where
      go : (b t : Bool) → clash_of (cond {A = ℕ} b (cond t 1 2) 0) ≡ None → clash_of (cond b (cond t 1 2) r) ≡ clash_of r
      go true true e = cc
      go true false e = cc
      go false t e = refl

  stopped : (y : Item) (r : ℕ) (c : Clash) → against y ≡ Some c → clash_of (cond (clashing x y) (cond (repeating x y) 1 2) r) ≡ Some c
  stopped y r c = go (clashing x y) (repeating x y)
    where
      go : (b t : Bool) → clash_of (cond {A = ℕ} b (cond t 1 2) 0) ≡ Some c → clash_of (cond b (cond t 1 2) r) ≡ Some c
      go true true e = e
      go true false e = e
      go false t e = cc

  abbrev pub Found : List Item → Optional Clash → Type 0
  Found l r =
      MatchOption r ((k : ℕ) → k < length l → against (get_or l k zero_item) ≡ None)
      (λ c. (i : ℕ) × (i < length l) × (against (get_or l i zero_item) ≡ Some c) × ((k : ℕ) → k < i → against (get_or l k zero_item) ≡ None))

  pub found_first : (l : List Item) (r : Optional Clash) → Found l r → r ≡ clash_of (first_judged x l)
  found_first [] None f = refl
  found_first [] (Some c) f = absurd (not-suc-le-zero f.1)
  found_first (y ∷ l) None f = found_first l None (λ k h. f (suc k) (omega arith)) ∙ sym (passed y (first_judged x l) (f 0 (omega arith)))
  found_first (y ∷ l) (Some c) (zero, f, g, b) = sym (stopped y (first_judged x l) c g)
  found_first (y ∷ l) (Some c) (suc i, f, g, b) =
      found_first l (Some c) (i, omega (arith, f), g, λ k h. b (suc k) (omega arith)) ∙ sym (passed y (first_judged x l) (b 0 (omega arith)))

-- ---- the pairs of the items below a bound that are on a path: one more item is looked at

lower : (b : ℕ) (x : Item) → low_on_path b x ≡ (ltb x.seq b && x.has_path)
lower b x = ap (λ (t : Bool). t && x.has_path) (go (leb b x.seq) refl)
  where
    go : (t : Bool) → leb b x.seq ≡ t → not t ≡ ltb x.seq b
    go true e = sym (le-ltb x.seq b (leb-true b x.seq e))
    go false e = sym (lt-ltb x.seq b (omega (arith, leb-false b x.seq e)))

-- ---- a list of pairs that is known by its list k, after one more is stored

module _ (k : List UsedSeq) (out : Used) (e : out ≡ used_of k) where
  pub used_onto : (m : List UsedSeq) (x : UsedSeq) (n : ℕ) → n ≡ out.count → length k < table_slots → m ≡ k ++ (x ∷ []) → ◌≡◌ {A = Used} (record { pairs = set out.pairs n x; count = n + 1 }) (used_of m)
  used_onto m x n q h g = λ i. record { pairs = pairs i; count = count i }
    where
      at : n ≡ length k
      at = q ∙ ap (λ (u : Used). u.count) e

      pairs : set out.pairs n x ≡ padded table_slots zero_pair m
      pairs = ap₂ (λ (l : List UsedSeq) (j : ℕ). set l j x) (ap (λ (u : Used). u.pairs) e) at ∙ padded_push table_slots zero_pair k x h ∙ ap (padded table_slots zero_pair) (sym g)

      count : n + 1 ≡ length m
      count = omega (arith, at, ap (length {A = UsedSeq}) g, length-append k (x ∷ []))

module _ (b : ℕ) (l : List Item) (i : ℕ) (d : Item) (out : Used) (e : out ≡ used_of (picked pair_of (low_on_path b) (take i l))) (h : i < length l) where
  pub used_yes : length l ≤ table_slots → (ltb (get_or l i d).seq b && (get_or l i d).has_path) ≡ true
      → ◌≡◌ {A = Used} (record { pairs = set out.pairs out.count (pair_of (get_or l i d)); count = out.count + 1 }) (used_of (picked pair_of (low_on_path b) (take (i + 1) l)))
  used_yes few t =
      used_onto (picked pair_of (low_on_path b) (take i l)) out e (picked pair_of (low_on_path b) (take (i + 1) l)) (pair_of (get_or l i d)) out.count refl
      (omega (arith, picked_few pair_of (low_on_path b) i l)) (picked_yes pair_of (low_on_path b) d l i h (lower b (get_or l i d) ∙ t))

  pub used_no : (ltb (get_or l i d).seq b && (get_or l i d).has_path) ≡ false → out ≡ used_of (picked pair_of (low_on_path b) (take (i + 1) l))
  used_no t = e ∙ ap used_of (sym (picked_no pair_of (low_on_path b) d l i h (lower b (get_or l i d) ∙ t)))

-- ---- an item that is zero exactly where two are

marks : (a b c d : Bool) → not (a || b || c || d) ≡ ((not b && not a) && (not d && not c))
marks true true c d = refl
marks true false c d = refl
marks false true c d = refl
marks false false true true = refl
marks false false true false = refl
marks false false false true = refl
marks false false false false = refl

step : (x y u v : Bool) {p q : Bool} → p ≡ (x && y) → q ≡ (u && v) → (p && q) ≡ ((x && u) && (y && v))
step x y u v e f = ap₂ ◌&&◌ e f ∙ middle x y u v

pub seven : (a1 a2 a3 a4 a5 b1 b2 b3 b4 b5 at ah bt bh : Bool) {r1 r2 r3 r4 r5 t h : Bool}
    → r1 ≡ (a1 && b1) → r2 ≡ (a2 && b2) → r3 ≡ (a3 && b3) → r4 ≡ (a4 && b4) → r5 ≡ (a5 && b5) → t ≡ false → h ≡ (ah || at || bh || bt)
    → (r1 && r2 && r3 && r4 && r5 && not t && not h) ≡ ((a1 && a2 && a3 && a4 && a5 && not at && not ah) && (b1 && b2 && b3 && b4 && b5 && not bt && not bh))
seven a1 a2 a3 a4 a5 b1 b2 b3 b4 b5 at ah bt bh e1 e2 e3 e4 e5 et eh =
    let a : Bool = a1 && a2 && a3 && a4 && a5 in
    let b : Bool = b1 && b2 && b3 && b4 && b5 in
    let s2 = step a1 b1 a2 b2 e1 e2 in
    let s3 = step (a1 && a2) (b1 && b2) a3 b3 s2 e3 in
    let s4 = step (a1 && a2 && a3) (b1 && b2 && b3) a4 b4 s3 e4 in
    let s5 = step (a1 && a2 && a3 && a4) (b1 && b2 && b3 && b4) a5 b5 s4 e5 in
    ap₂ ◌&&◌ (ap₂ ◌&&◌ s5 (ap not et) ∙ and-true (a && b)) (ap not eh ∙ marks ah at bh bt)
    ∙ middle a b (not at && not ah) (not bt && not bh)
    ∙ ap₂ ◌&&◌ (sym (and_assoc a (not at) (not ah))) (sym (and_assoc b (not bt) (not bh)))

pub gathered_item : (a b : Item) (id token : List ℕ)
    → past nought max_cid_len 0 id ≡ (past nought max_cid_len 0 a.cid.bytes && past nought max_cid_len 0 b.cid.bytes)
    → past nought token_len 0 token ≡ (past nought token_len 0 a.token.bytes && past nought token_len 0 b.token.bytes)
    → is_zero (record {
      seq = bit_or a.seq b.seq;
      path = bit_or a.path b.path;
      cid = record { bytes = id; len = bit_or a.cid.len b.cid.len };
      token = record { bytes = token; present = false };
      has_path = a.has_path || a.token.present || b.has_path || b.token.present;
    }) ≡ (is_zero a && is_zero b)
gathered_item a b id token ei ek =
    seven
    (nought a.seq) (nought a.path) (nought a.cid.len) (past nought max_cid_len 0 a.cid.bytes) (past nought token_len 0 a.token.bytes)
    (nought b.seq) (nought b.path) (nought b.cid.len) (past nought max_cid_len 0 b.cid.bytes) (past nought token_len 0 b.token.bytes)
    a.token.present a.has_path b.token.present b.has_path
    (zero_or a.seq b.seq) (zero_or a.path b.path) (zero_or a.cid.len b.cid.len) ei ek refl refl
