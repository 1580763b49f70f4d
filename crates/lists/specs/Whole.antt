-- Loops over a whole array: what each turn keeps, and what it comes to at the end. They are stated over the length, so that a loop over 16
-- elements and one over 20 have one law.
use Rattle.std.specs.Prelude.{ℕ, zero, suc, ◌+◌, ◌≤◌, ◌<◌, ◌≡◌, refl, List, [], ◌∷◌, Bool, true, ◌&&◌, length, drop, set, get_or, replicate, eqb}
use Rattle.std.proofs.Common.{sym, ap, ap₂, ◌∙◌, arith, not-suc-le-zero, le_of_suc-le-suc, length-set}
use Rattle.std.proofs.Math.Bool.{and_assoc}
use Rattle.std.proofs.lemmas.List.{length-replicate}
use Rattle.std.specs.Int.Bits.{bit_or, bit_xor}
use Rattle.lists.specs.Defs.{all, past, nought, same}
use Rattle.lists.specs.Tests.{zero_or, zero_xor, all_more, all_done, past_all, swap, zeros_more, merge_more, same_more, same_done}

-- ---- the numbers from place k on are gathered by or: acc has those before i

module _ (k : ℕ) (l : List ℕ) where
  abbrev pub Gathered : (acc i : ℕ) → Type 0
  Gathered acc i = all nought (drop k l) ≡ (nought acc && all nought (drop i l))

  module _ (n : ℕ) (long : length l ≡ n) (acc i : ℕ) (h : Gathered acc i) where
    pub gathered_more : i < n → Gathered (bit_or acc (get_or l i 0)) (i + 1)
    gathered_more t = h ∙ zeros_more l i acc (omega arith)

    pub gathered_done : n ≤ i → nought acc ≡ past nought n k l
    gathered_done t = sym (past_all nought n k l long ∙ h ∙ all_done nought l i (nought acc) (omega arith))

-- ---- two arrays are compared: ok says whether they are the same before i

module _ (a b : List ℕ) where
  abbrev pub Compared : (ok : Bool) (i : ℕ) → Type 0
  Compared ok i = same a b ≡ (ok && same (drop i a) (drop i b))

  module _ (n : ℕ) (la : length a ≡ n) (lb : length b ≡ n) (ok : Bool) (i : ℕ) (h : Compared ok i) where
    pub compared_more : i < n → Compared (ok && eqb (get_or a i 0) (get_or b i 0)) (i + 1)
    compared_more t = h ∙ same_more a b i ok (omega arith) (omega arith)

    pub compared_done : n ≤ i → ok ≡ same a b
    compared_done t = sym (h ∙ same_done a b i ok (omega arith) (omega arith))

  -- where a number has the differences, ok is that it is zero: they are collected by exclusive or and or
  pub collected_more : (n : ℕ) → length a ≡ n → length b ≡ n → (d i : ℕ) → Compared (nought d) i → i < n → Compared (nought (bit_or d (bit_xor (get_or a i 0) (get_or b i 0)))) (i + 1)
  collected_more n la lb d i h t =
      let one = zero_or d _ ∙ ap (λ (z : Bool). nought d && z) (zero_xor (get_or a i 0) (get_or b i 0)) in
      compared_more n la lb (nought d) i h t ∙ ap (λ (ok : Bool). ok && same (drop (i + 1) a) (drop (i + 1) b)) (sym one)

-- ---- b is merged into a by or: r has both before i

module _ (a b : List ℕ) (n : ℕ) where
  abbrev pub Merged : (r : List ℕ) (i : ℕ) → Type 0
  Merged r i = (length r ≡ n) × ((all nought a && all nought b) ≡ (all nought r && all nought (drop i b)))

  module _ (la : length a ≡ n) (lb : length b ≡ n) (r : List ℕ) (i : ℕ) (h : Merged r i) where
    pub merged_more : i < n → Merged (set r i (bit_or (get_or r i 0) (get_or b i 0))) (i + 1)
    merged_more t = (simp length-set h.0, h.1 ∙ merge_more r b i (omega (arith, h.0)) (omega arith))

    pub merged_done : n ≤ i → past nought n 0 r ≡ (past nought n 0 a && past nought n 0 b)
    merged_done t =
        past_all nought n 0 r h.0
        ∙ sym (ap₂ ◌&&◌ (past_all nought n 0 a la) (past_all nought n 0 b lb) ∙ h.1 ∙ all_done nought b i (all nought r) (omega arith))

-- ---- what passes a test exactly where two do is gathered of both, place by place: r has both before i

module _ {A : Type 0} (p : A → Bool) where
  -- a store of what is gathered
  stored : (l : List A) (i : ℕ) (d x y : A) → i < length l → p y ≡ (p (get_or l i d) && p x) → all p (set l i y) ≡ (all p l && p x)
  stored [] i d x y h e = absurd (not-suc-le-zero h)
  stored (z ∷ zs) zero d x y h e = ap (λ (b : Bool). b && all p zs) e ∙ swap (p z) (p x) (all p zs)
  stored (z ∷ zs) (suc i) d x y h e = ap (λ (b : Bool). p z && b) (stored zs i d x y (le_of_suc-le-suc h) e) ∙ sym (and_assoc (p z) (all p zs) (p x))

  module _ (a b : List A) (n : ℕ) where
    abbrev pub Joined : (r : List A) (i : ℕ) → Type 0
    Joined r i = (length r ≡ n) × ((all p a && all p b) ≡ (all p r && all p (drop i b)))

    module _ (la : length a ≡ n) (lb : length b ≡ n) (r : List A) (i : ℕ) (h : Joined r i) where
      pub joined_more : (d e y : A) → i < n → p y ≡ (p (get_or r i d) && p (get_or b i e)) → Joined (set r i y) (i + 1)
      joined_more d e y t q = (
        simp length-set h.0,
        h.1 ∙ all_more p e b i (all p r) (omega arith)
            ∙ ap (λ (c : Bool). c && all p (drop (i + 1) b)) (sym (stored r i d (get_or b i e) y (omega (arith, h.0)) q)),
      )

      pub joined_done : n ≤ i → past p n 0 r ≡ (past p n 0 a && past p n 0 b)
      joined_done t =
          past_all p n 0 r h.0
          ∙ sym (ap₂ ◌&&◌ (past_all p n 0 a la) (past_all p n 0 b lb) ∙ h.1 ∙ all_done p b i (all p r) (omega (arith, lb)))

  pub past_replicate : (n : ℕ) (z : A) → p z ≡ true → past p n 0 (replicate n z) ≡ true
  past_replicate n z e = past_all p n 0 (replicate n z) (length-replicate n z) ∙ go n
    where
      go : (k : ℕ) → all p (replicate k z) ≡ true
      go zero = refl
      go (suc k) = ap₂ ◌&&◌ e (go k)
