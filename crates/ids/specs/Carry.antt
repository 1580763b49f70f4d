-- What is asked of a view, asked of the items: searches, tests, what is kept, and the change of one item.
use Rattle.std.specs.Prelude.{ℕ, zero, suc, ◌≤◌, ◌<◌, ◌≡◌, refl, List, [], ◌∷◌, ◌++◌, map, Bool, true, false, not, cond, ◌&&◌, ◌||◌, eqb, ltb, length, set, get_or}
use Rattle.std.proofs.Common.{sym, ap, ap₂, ◌∙◌, subst, arith, not-suc-le-zero, le_of_suc-le-suc, ne_eqb, eqb-true, ltb-true}
use Rattle.std.proofs.Math.Option.{Option, none, some}
use Rattle.std.proofs.lemmas.List.{length-map}
use Rattle.std.proofs.lemmas.Bool.{not-true}
use Rattle.lists.specs.Defs.{all, any, pairwise, later, first, first_with, front, at, empty, keep, picked}
use Rattle.lists.specs.Bools.{and_both}
use Rattle.ids_rules.specs.Values.{Item, on_path, seq_of, has_seq, unused}
use Rattle.ids_rules.specs.Steps.{without, used}
use Rattle.tables.specs.Table.{zero_item, free}
use Rattle.ids_state.specs.Formed.{apart}
use Rattle.ids.specs.Reading.{item_view, item_of}
use Rattle.ids.specs.ReadingLaws.{present_given}
use Rattle.tables.specs.declared.items.Item as I
use Rattle.tables.specs.Table as T
use Rattle.lists.specs.Defs as D

-- ---- the place of the first that passes a test

later_elim : (P : ℕ → Type 0) (o : Option ℕ) (i : ℕ) → later o ≡ some i → ((j : ℕ) → o ≡ some j → P (suc j)) → P i
later_elim P none i e k = let z : ◌≡◌ {A = ℕ} 0 1 = cc in absurd (omega arith)
later_elim P (some j) i e k = let q : suc j ≡ i = cc in subst P q (k j refl)

-- what holds of every place that first_with gives
pub place_holds : {A : Type 0} (q : A → Bool) (P : List A → ℕ → Type 0)
    → ((x : A) (xs : List A) → q x ≡ true → P (x ∷ xs) 0)
    → ((x : A) (xs : List A) (j : ℕ) → q x ≡ false → P xs j → P (x ∷ xs) (suc j))
    → (l : List A) (i : ℕ) → first_with q l ≡ some i → P l i
place_holds q P here there [] i e = let z : ◌≡◌ {A = ℕ} 0 1 = cc in absurd (omega arith)
place_holds q P here there (x ∷ xs) i e = go (q x) refl e (λ j r. place_holds q P here there xs j r)
  where
    go : (b : Bool) → q x ≡ b → cond b (some 0) (later (first_with q xs)) ≡ some i → ((j : ℕ) → first_with q xs ≡ some j → P xs j) → P (x ∷ xs) i
    go true t r k = let z : 0 ≡ i = cc in subst (P (x ∷ xs)) z (here x xs t)
    go false t r k = later_elim (P (x ∷ xs)) (first_with q xs) i r (λ j s. there x xs j t (k j s))

-- what holds where it gives none
pub nowhere_holds : {A : Type 0} (q : A → Bool) (P : List A → Type 0) → P [] → ((x : A) (xs : List A) → q x ≡ false → P xs → P (x ∷ xs)) → (l : List A) → first_with q l ≡ none → P l
nowhere_holds q P end on [] e = end
nowhere_holds q P end on (x ∷ xs) e = go (q x) (first_with q xs) refl e (λ r. nowhere_holds q P end on xs r)
  where
    go : (b : Bool) (o : Option ℕ) → q x ≡ b → cond b (some 0) (later o) ≡ none → (o ≡ none → P xs) → P (x ∷ xs)
    go true o t r k = let z : ◌≡◌ {A = ℕ} 0 1 = cc in absurd (omega arith)
    go false none t r k = on x xs t (k refl)
    go false (some j) t r k = let z : ◌≡◌ {A = ℕ} 0 1 = cc in absurd (omega arith)

module _ {A B : Type 0} (f : A → B) (p : B → Bool) (q : A → Bool) (h : (x : A) → p (f x) ≡ q x) where
  -- the first of the view is the view of the item at the place
  pub first_at : (d : A) (l : List A) (i : ℕ) → first_with q l ≡ some i → first p (map f l) ≡ some (f (get_or l i d))
  first_at d = place_holds q (λ l i. first p (map f l) ≡ some (f (get_or l i d)))
      (λ x xs t. ap (λ (b : Bool). cond b (some (f x)) (first p (map f xs))) (h x ∙ t))
      (λ x xs j t k. ap (λ (b : Bool). cond b (some (f x)) (first p (map f xs))) (h x ∙ t) ∙ k)

  pub first_none : (l : List A) → first_with q l ≡ none → first p (map f l) ≡ none
  first_none = nowhere_holds q (λ l. first p (map f l) ≡ none) refl (λ x xs t k. ap (λ (b : Bool). cond b (some (f x)) (first p (map f xs))) (h x ∙ t) ∙ k)

  pub any_at : (l : List A) (i : ℕ) → first_with q l ≡ some i → any p (map f l) ≡ true
  any_at = place_holds q (λ l i. any p (map f l) ≡ true)
      (λ x xs t. ap (λ (b : Bool). b || any p (map f xs)) (h x ∙ t))
      (λ x xs j t k. ap (λ (b : Bool). b || any p (map f xs)) (h x ∙ t) ∙ k)

  pub any_none : (l : List A) → first_with q l ≡ none → any p (map f l) ≡ false
  any_none = nowhere_holds q (λ l. any p (map f l) ≡ false) refl (λ x xs t k. ap (λ (b : Bool). b || any p (map f xs)) (h x ∙ t) ∙ k)

  -- what is kept of the view is the view of what is kept
  pub keep_view : (l : List A) → keep p (map f l) ≡ map f (keep q l)
  keep_view [] = refl
  keep_view (x ∷ l) = ap₂ (λ (b : Bool) (r : List B). cond b (f x ∷ r) r) (h x) (keep_view l) ∙ go (q x)
    where
      go : (b : Bool) → cond b (f x ∷ map f (keep q l)) (map f (keep q l)) ≡ map f (cond b (x ∷ keep q l) (keep q l))
      go true = refl
      go false = refl

  pub count_view : (l : List A) → length (keep p (map f l)) ≡ length (keep q l)
  count_view l = ap length (keep_view l) ∙ length-map (keep q l) f

module _ {A B : Type 0} (f : A → B) where
  pub at_in : (d : A) (i : ℕ) (l : List A) → i < length l → at i (map f l) ≡ some (f (get_or l i d))
  at_in d i [] h = absurd (not-suc-le-zero h)
  at_in d zero (x ∷ l) h = refl
  at_in d (suc i) (x ∷ l) h = at_in d i l (le_of_suc-le-suc h)

  pub at_past : (i : ℕ) (l : List A) → length l ≤ i → at i (map f l) ≡ none
  at_past i [] h = refl
  at_past zero (x ∷ l) h = absurd (not-suc-le-zero h)
  at_past (suc i) (x ∷ l) h = at_past i l (le_of_suc-le-suc h)

pub front_some : (l : List ℕ) → 0 < length l → front l ≡ some (get_or l 0 0)
front_some [] h = absurd (not-suc-le-zero h)
front_some (x ∷ l) h = refl

pub front_none : (l : List ℕ) → length l ≤ 0 → front l ≡ none
front_none [] h = refl
front_none (x ∷ l) h = absurd (not-suc-le-zero h)

pub empty_is : (l : List ℕ) → empty l ≡ eqb (length l) 0
empty_is [] = refl
empty_is (x ∷ l) = sym (ne_eqb (suc (length l)) 0 (λ q. omega (arith, q)))

-- ---- items

-- an item is unused where no path stands
pub unused_view : (x : I.Item) → unused (item_view x) ≡ free x
unused_view x = ap not (present_given x.has_path x.path)

seqs_view : (l : List I.Item) → map seq_of (map item_view l) ≡ map T.seq_of l
seqs_view [] = refl
seqs_view (x ∷ l) = ap (λ (r : List ℕ). x.seq ∷ r) (seqs_view l)

-- the sequences of those that pass
pub seqs_kept : (p : Item → Bool) (q : I.Item → Bool) → ((x : I.Item) → p (item_view x) ≡ q x) → (l : List I.Item) → map seq_of (keep p (map item_view l)) ≡ picked T.seq_of q l
seqs_kept p q h l = ap (map seq_of) (keep_view item_view p q h l) ∙ seqs_view (keep q l)

-- ---- no two items have the same sequence: what is done to all with a sequence is done to one

abbrev pub seqs_apart : I.Item → I.Item → Bool
seqs_apart x y = not (eqb x.seq y.seq)

apart_all : (x : I.Item) (l : List I.Item) → all (apart x) l ≡ true → all (seqs_apart x) l ≡ true
apart_all x [] e = refl
apart_all x (y ∷ l) e =
    let w = and_both (apart x y) (all (apart x) l) e in
    ap₂ ◌&&◌ (and_both (seqs_apart x y) _ w.0).0 (apart_all x l w.1)

pub apart_seqs : (l : List I.Item) → pairwise apart l ≡ true → pairwise seqs_apart l ≡ true
apart_seqs [] e = refl
apart_seqs (x ∷ l) e = let w = and_both (all (apart x) l) (pairwise apart l) e in ap₂ ◌&&◌ (apart_all x l w.0) (apart_seqs l w.1)

-- those after x are above it
above : (x : I.Item) (b n : ℕ) (l : List I.Item) → x.seq ≤ b → D.after b (map T.seq_of l ++ (n ∷ [])) ≡ true → all (seqs_apart x) l ≡ true
above x b n [] h e = refl
above x b n (y ∷ l) h e =
    let w = and_both (ltb b y.seq) _ e in
    let k = ltb-true b y.seq w.0 in
    ap₂ ◌&&◌ (ap not (ne_eqb x.seq y.seq (λ q. omega arith))) (above x y.seq n l (omega arith) w.1)

rise_apart : (b n : ℕ) (l : List I.Item) → D.after b (map T.seq_of l ++ (n ∷ [])) ≡ true → pairwise seqs_apart l ≡ true
rise_apart b n [] e = refl
rise_apart b n (x ∷ l) e = let w = and_both (ltb b x.seq) _ e in ap₂ ◌&&◌ (above x x.seq n l (omega arith) w.1) (rise_apart x.seq n l w.1)

pub rising_seqs : (n : ℕ) (l : List I.Item) → D.rising (map T.seq_of l ++ (n ∷ [])) ≡ true → pairwise seqs_apart l ≡ true
rising_seqs n [] e = refl
rising_seqs n (x ∷ l) e = ap₂ ◌&&◌ (above x x.seq n l (omega arith) e) (rise_apart x.seq n l e)

module _ (s : ℕ) where
  abbrev others : I.Item → Bool
  others x = not (T.has_seq s x)

  -- x has the sequence: those after it have not
  rest : (x : I.Item) (l : List I.Item) → T.has_seq s x ≡ true → all (seqs_apart x) l ≡ true → all others l ≡ true
  rest x [] t e = refl
  rest x (y ∷ l) t e =
      let w = and_both (seqs_apart x y) (all (seqs_apart x) l) e in
      let q : s ≡ x.seq = eqb-true s x.seq t in
      ap₂ ◌&&◌ (ap (λ (n : ℕ). not (eqb n y.seq)) q ∙ w.0) (rest x l t w.1)

  kept : (l : List I.Item) → all others l ≡ true → keep others l ≡ l
  kept [] e = refl
  kept (x ∷ l) e =
      let w = and_both (others x) (all others l) e in
      ap₂ (λ (b : Bool) (r : List I.Item). cond b (x ∷ r) r) w.0 (kept l w.1)

  untouched : (g : I.Item → I.Item) (l : List I.Item) → all others l ≡ true → map (λ (x : I.Item). cond (T.has_seq s x) (g x) x) l ≡ l
  untouched g [] e = refl
  untouched g (x ∷ l) e =
      let w = and_both (others x) (all others l) e in
      ap₂ (λ (b : Bool) (r : List I.Item). cond b (g x) x ∷ r) (not-true (T.has_seq s x) w.0) (untouched g l w.1)

  -- taking out all with the sequence takes out the one at the place
  pub out_one : (l : List I.Item) (i : ℕ) → first_with (T.has_seq s) l ≡ some i → pairwise seqs_apart l ≡ true → keep others l ≡ D.without i l
  out_one = place_holds (T.has_seq s) (λ l i. pairwise seqs_apart l ≡ true → keep others l ≡ D.without i l)
      (λ x xs t e. ap (λ (b : Bool). cond (not b) (x ∷ keep others xs) (keep others xs)) t ∙ kept xs (rest x xs t (and_both (all (seqs_apart x) xs) _ e).0))
      (λ x xs j t k e. ap (λ (b : Bool). cond (not b) (x ∷ keep others xs) (keep others xs)) t ∙ ap (λ (r : List I.Item). x ∷ r) (k (and_both (all (seqs_apart x) xs) _ e).1))

  -- changing all with the sequence changes the one at the place
  pub change_one : (g : I.Item → I.Item) (d : I.Item) (l : List I.Item) (i : ℕ) → first_with (T.has_seq s) l ≡ some i → pairwise seqs_apart l ≡ true
      → map (λ (x : I.Item). cond (T.has_seq s x) (g x) x) l ≡ set l i (g (get_or l i d))
  change_one g d = place_holds (T.has_seq s) (λ l i. pairwise seqs_apart l ≡ true → map (λ (x : I.Item). cond (T.has_seq s x) (g x) x) l ≡ set l i (g (get_or l i d)))
      (λ x xs t e. ap₂ (λ (b : Bool) (r : List I.Item). cond b (g x) x ∷ r) t (untouched g xs (rest x xs t (and_both (all (seqs_apart x) xs) _ e).0)))
      (λ x xs j t k e. ap₂ (λ (b : Bool) (r : List I.Item). cond b (g x) x ∷ r) t (k (and_both (all (seqs_apart x) xs) _ e).1))

-- ---- a table after one item was put on a path, or taken out

module _ (v : List Item) (l : List I.Item) (back : map item_of v ≡ l) (s i : ℕ) (place : first_with (T.has_seq s) l ≡ some i) (distinct : pairwise seqs_apart l ≡ true) where
  pub used_back : (p : ℕ) → map item_of (used s p v) ≡ set l i (T.on_path p (get_or l i zero_item))
  used_back p = each v ∙ ap (map (λ (x : I.Item). cond (T.has_seq s x) (T.on_path p x) x)) back ∙ change_one s (T.on_path p) zero_item l i place distinct
    where
      one : (x : Item) (b : Bool) → item_of (cond b (on_path p x) x) ≡ cond b (T.on_path p (item_of x)) (item_of x)
      one x true = refl
      one x false = refl

      each : (v : List Item) → map item_of (used s p v) ≡ map (λ (x : I.Item). cond (T.has_seq s x) (T.on_path p x) x) (map item_of v)
      each [] = refl
      each (x ∷ v) = ap₂ (λ (y : I.Item) (r : List I.Item). y ∷ r) (one x (has_seq s x)) (each v)

  pub without_back : map item_of (without s v) ≡ D.without i l
  without_back =
      sym (keep_view item_of (λ (x : I.Item). not (T.has_seq s x)) (λ (x : Item). not (has_seq s x)) (λ x. refl) v)
      ∙ ap (keep (λ (x : I.Item). not (T.has_seq s x))) back ∙ out_one s l i place distinct

pub all_at : {A : Type 0} (p : A → Bool) (d : A) (l : List A) (i : ℕ) → all p l ≡ true → i < length l → p (get_or l i d) ≡ true
all_at p d [] i e h = absurd (not-suc-le-zero h)
all_at p d (x ∷ l) zero e h = (and_both (p x) (all p l) e).0
all_at p d (x ∷ l) (suc i) e h = all_at p d l i (and_both (p x) (all p l) e).1 (le_of_suc-le-suc h)
