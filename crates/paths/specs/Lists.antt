-- Laws of lists that the tables of paths need: a store in a padded array, what stands at a place of it, a reading that changes every element, the first
-- that passes.
use Rattle.std.specs.Prelude.{Some, None, ℕ, zero, suc, ◌+◌, ◌-◌, ◌<◌, ◌≡◌, refl, List, [], ◌∷◌, ◌++◌, map, Bool, true, false, not, cond, length, ltb, set, get_or, replicate}
use Rattle.std.specs.List.{position, position_or_len}
use Rattle.std.proofs.Common.{sym, ap, ap₂, ◌∙◌, arith, lt-ltb, le-ltb, ltb-true, ltb-false, length-set}
use Rattle.std.proofs.Math.Option.{Option, none, some}
use Rattle.std.proofs.lemmas.List.{set-append_left}
use Rattle.lists.specs.Defs.{optional, later, first_with, padded}
use Rattle.lists.specs.Held.{length_padded, get_or_in}

pub set_padded : {A : Type 0} (n : ℕ) (z : A) (l : List A) (i : ℕ) (a : A) → i < length l → set (padded n z l) i a ≡ padded n z (set l i a)
set_padded n z l i a h = set-append_left l (replicate (n - length l) z) i a h ∙ ap (λ (m : ℕ). set l i a ++ replicate (n - m) z) (sym (length-set l i a))

pub padded_at : {A : Type 0} (n : ℕ) (z : A) (l : List A) (p : ℕ) → get_or (padded n z l) p z ≡ get_or l p z
padded_at {A} n z l p = go l p (n - length l)
  where
    zeros : (p k : ℕ) → get_or (replicate k z) p z ≡ z
    zeros p zero = refl
    zeros zero (suc k) = refl
    zeros (suc p) (suc k) = zeros p k

    go : (l : List A) (p k : ℕ) → get_or (l ++ replicate k z) p z ≡ get_or l p z
    go [] p k = zeros p k
    go (x ∷ l) zero k = refl
    go (x ∷ l) (suc p) k = go l p k

-- the place after the elements holds padding
pub free_place : {A : Type 0} (n : ℕ) (z d : A) (l : List A) → length l < n → get_or (padded n z l) (length l) d ≡ z
free_place {A} n z d l h = get_or_in (padded n z l) (length l) d z (omega (arith, length_padded n z l (omega (arith, h)), h)) ∙ padded_at n z l (length l) ∙ past l
  where
    past : (l : List A) → get_or l (length l) z ≡ z
    past [] = refl
    past (x ∷ l) = past l

-- padding that does not pass is never the first
pub first_padded : {A : Type 0} (p : A → Bool) (n : ℕ) (z : A) (l : List A) → p z ≡ false → first_with p (padded n z l) ≡ first_with p l
first_padded {A} p n z l e = go l (n - length l)
  where
    zeros : (k : ℕ) → first_with p (replicate k z) ≡ none
    zeros zero = refl
    zeros (suc k) = ap₂ (λ (b : Bool) (o : Option ℕ). cond b (some 0) (later o)) e (zeros k)

    go : (l : List A) (k : ℕ) → first_with p (l ++ replicate k z) ≡ first_with p l
    go [] k = zeros k
    go (x ∷ l) k = ap (λ (o : Option ℕ). cond (p x) (some 0) (later o)) (go l k)

pub first_map : {A B : Type 0} (f : A → B) (p : B → Bool) (l : List A) → first_with p (map f l) ≡ first_with (λ (x : A). p (f x)) l
first_map f p [] = refl
first_map f p (x ∷ xs) = ap (λ (o : Option ℕ). cond (p (f x)) (some 0) (later o)) (first_map f p xs)

-- the place that the library's search gives
ltb_more : (m n : ℕ) → ltb m n ≡ ltb (1 + m) (suc n)
ltb_more m n = go (ltb m n) refl
  where
    go : (t : Bool) → ltb m n ≡ t → ltb m n ≡ ltb (1 + m) (suc n)
    go true e = e ∙ sym (lt-ltb (1 + m) (suc n) (omega (arith, ltb-true m n e)))
    go false e = e ∙ sym (le-ltb (1 + m) (suc n) (omega (arith, ltb-false m n e)))

pub first_position : {A : Type 0} (p : A → Bool) (l : List A) → optional (first_with p l) ≡ position p l
first_position p [] = refl
first_position p (x ∷ xs) = go (p x) (first_position p xs)
  where
    n : ℕ
    n = position_or_len p xs

    go : (b : Bool) → optional (first_with p xs) ≡ position p xs
        → optional (cond b (some 0) (later (first_with p xs))) ≡ cond (ltb (cond (not b) (1 + n) 0) (suc (length xs))) (Some (cond (not b) (1 + n) 0)) None
    go true e = sym (ap (λ (t : Bool). cond t (Some 0) None) (lt-ltb 0 (suc (length xs)) (omega arith)))
    go false e = go2 (first_with p xs) (ltb n (length xs)) e ∙ ap (λ (t : Bool). cond t (Some (1 + n)) None) (ltb_more n (length xs))
      where
        go2 : (o : Option ℕ) (t : Bool) → optional o ≡ cond t (Some n) None → optional (later o) ≡ cond t (Some (1 + n)) None
        go2 none false e = refl
        go2 none true e = cc
        go2 (some i) false e = cc
        go2 (some i) true e = let q : i ≡ n = cc in ap Some (omega (arith, q))
