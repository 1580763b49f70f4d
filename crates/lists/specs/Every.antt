-- Conjunctions as lists of tests: what they say of each, when two agree, what a test of two parts says of a list, and which tests fail.
use Rattle.std.specs.Prelude.{ℕ, suc, ◌≡◌, refl, List, [], ◌∷◌, Bool, true, false, cond, ◌&&◌}
use Rattle.std.proofs.Common.{sym, ap, ap₂, ◌∙◌}
use Rattle.lists.specs.Defs.{every, all, pairwise}
use Rattle.lists.specs.Bools.{and_both, Each}

pub every_each : (bs : List Bool) → every bs ≡ true → Each bs
every_each [] e = 0
every_each (b ∷ bs) e = let w = and_both b (every bs) e in (w.0, every_each bs w.1)

-- two tests that pass together are equal
pub agree : (a b : Bool) → (a ≡ true → b ≡ true) → (b ≡ true → a ≡ true) → a ≡ b
agree true b f g = sym (f refl)
agree false true f g = g refl
agree false false f g = refl

pub middle : (a b c d : Bool) → ((a && b) && (c && d)) ≡ ((a && c) && (b && d))
middle false b c d = refl
middle true true c d = refl
middle true false true d = refl
middle true false false d = refl

module _ {A : Type 0} where
  pub all_and : (p q : A → Bool) (l : List A) → all (λ (x : A). p x && q x) l ≡ (all p l && all q l)
  all_and p q [] = refl
  all_and p q (x ∷ xs) = ap (λ (b : Bool). (p x && q x) && b) (all_and p q xs) ∙ middle (p x) (q x) (all p xs) (all q xs)

  pub all_same : (p q : A → Bool) → ((x : A) → p x ≡ q x) → (l : List A) → all p l ≡ all q l
  all_same p q h [] = refl
  all_same p q h (x ∷ xs) = ap₂ ◌&&◌ (h x) (all_same p q h xs)

  pub pairwise_and : (p q : A → A → Bool) (l : List A) → pairwise (λ (x y : A). p x y && q x y) l ≡ (pairwise p l && pairwise q l)
  pairwise_and p q [] = refl
  pairwise_and p q (x ∷ xs) = ap₂ ◌&&◌ (all_and (p x) (q x) xs) (pairwise_and p q xs) ∙ middle (all (p x) xs) (all (q x) xs) (pairwise p xs) (pairwise q xs)

-- the numbers of the tests that fail, from n on
abbrev pub failing : ℕ → List Bool → List ℕ
failing n [] = []
failing n (b ∷ bs) = cond b (failing (suc n) bs) (n ∷ failing (suc n) bs)
