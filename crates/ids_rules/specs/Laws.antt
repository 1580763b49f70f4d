-- Laws of tests and of the words on lists that the proofs below share.
use Rattle.std.specs.Prelude.{ℕ, ◌≡◌, refl, List, [], ◌∷◌, ◌++◌, map, Bool, true, false, cond, ◌&&◌, ◌||◌}
use Rattle.std.proofs.Common.{ap₂, arith}
use Rattle.std.proofs.Math.Option.{Option, none, some}
use Rattle.lists.specs.Defs.{maybe, every, first, keep, any, all}
use Rattle.lists.specs.Bools.{and_both}

-- ---- tests

-- a fact of both results of a test is a fact of the result
pub decided : {A : Type 0} (P : A → Type 0) {x y : A} (b : Bool) → (b ≡ true → P x) → (b ≡ false → P y) → P (cond b x y)
decided P true h k = h refl
decided P false h k = k refl

pub optioned : {A B : Type 0} (P : B → Type 0) {n : B} {s : A → B} (o : Option A) → (o ≡ none → P n) → ((a : A) → o ≡ some a → P (s a)) → P (maybe o n s)
optioned P none h k = h refl
optioned P (some a) h k = k a refl

pub never : {A : Type 0} → true ≡ false → A
never e = let z : ◌≡◌ {A = ℕ} 0 1 = cc in absurd (omega arith)

pub both_and : (a b : Bool) → a ≡ true → b ≡ true → (a && b) ≡ true
both_and a b p q = rw (p, q)

pub or_neither : (a b : Bool) → (a || b) ≡ false → (a ≡ false) × (b ≡ false)
or_neither true b e = never e
or_neither false b e = (refl, e)

abbrev pub Every : List Bool → Type 0
Every [] = Unit {0}
Every (b ∷ bs) = (b ≡ true) × Every bs

pub every_is : (bs : List Bool) → every bs ≡ true → Every bs
every_is [] e = tt
every_is (b ∷ bs) e = let w = and_both b (every bs) e in (w.0, every_is bs w.1)

pub is_every : (bs : List Bool) → Every bs → every bs ≡ true
is_every [] e = refl
is_every (b ∷ bs) e = both_and b (every bs) e.0 (is_every bs e.1)

-- ---- lists

module _ {A : Type 0} (p : A → Bool) where
  pub all_append : (l m : List A) → all p l ≡ true → all p m ≡ true → all p (l ++ m) ≡ true
  all_append [] m h k = k
  all_append (x ∷ l) m h k = let w = and_both (p x) (all p l) h in both_and (p x) (all p (l ++ m)) w.0 (all_append l m w.1 k)

  pub all_keep : (q : A → Bool) (l : List A) → all p l ≡ true → all p (keep q l) ≡ true
  all_keep q [] h = h
  all_keep q (x ∷ l) h =
      let w = and_both (p x) (all p l) h in
      let k = all_keep q l w.1 in
      decided (λ (m : List A). all p m ≡ true) (q x) (λ e. both_and (p x) (all p (keep q l)) w.0 k) (λ e. k)

  -- a test that f leaves as it is
  pub all_moved : (f : A → A) → ((x : A) → p (f x) ≡ p x) → (l : List A) → all p (map f l) ≡ all p l
  all_moved f e [] = refl
  all_moved f e (x ∷ l) = ap₂ ◌&&◌ (e x) (all_moved f e l)

  pub any_moved : (f : A → A) → ((x : A) → p (f x) ≡ p x) → (l : List A) → any p (map f l) ≡ any p l
  any_moved f e [] = refl
  any_moved f e (x ∷ l) = ap₂ ◌||◌ (e x) (any_moved f e l)

  pub none_keep : (q : A → Bool) (l : List A) → any p l ≡ false → any p (keep q l) ≡ false
  none_keep q [] h = h
  none_keep q (x ∷ l) h =
      let w = or_neither (p x) (any p l) h in
      let k = none_keep q l w.1 in
      decided (λ (m : List A). any p m ≡ false) (q x) (λ e. rw w.0 k) (λ e. k)

  pub none_append : (l m : List A) → any p l ≡ false → any p m ≡ false → any p (l ++ m) ≡ false
  none_append [] m h k = k
  none_append (x ∷ l) m h k = let w = or_neither (p x) (any p l) h in rw w.0 (none_append l m w.1 k)

  -- what is found, and what is not
  pub first_none : (l : List A) → first p l ≡ none → any p l ≡ false
  first_none [] e = refl
  first_none (x ∷ l) e = test (p x) (first_none l) e
    where
      test : (b : Bool) → (first p l ≡ none → any p l ≡ false) → cond b (some x) (first p l) ≡ none → (b || any p l) ≡ false
      test true i e = let z : ◌≡◌ {A = ℕ} 0 1 = cc in absurd (omega arith)
      test false i e = i e

  pub first_some : (l : List A) (y : A) → first p l ≡ some y → any p l ≡ true
  first_some [] y e = let z : ◌≡◌ {A = ℕ} 0 1 = cc in absurd (omega arith)
  first_some (x ∷ l) y e = test (p x) (first_some l y) e
    where
      test : (b : Bool) → (first p l ≡ some y → any p l ≡ true) → cond b (some x) (first p l) ≡ some y → (b || any p l) ≡ true
      test true i e = refl
      test false i e = i e

-- what is kept passes the test
pub all_kept : {A : Type 0} (p : A → Bool) (l : List A) → all p (keep p l) ≡ true
all_kept p [] = refl
all_kept p (x ∷ l) = test (p x) refl (all_kept p l)
  where
    test : (b : Bool) → p x ≡ b → all p (keep p l) ≡ true → all p (cond b (x ∷ keep p l) (keep p l)) ≡ true
    test true e i = rw e i
    test false e i = i
