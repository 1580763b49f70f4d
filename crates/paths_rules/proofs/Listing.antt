-- No two listed paths have the same pair, whatever the calls (docs/RULES.md, "Well-formed paths").
use Rattle.std.specs.Prelude.{ℕ, zero, suc, ◌≡◌, refl, List, [], ◌∷◌, ◌++◌, map, Bool, true, false, not, ◌&&◌, get_or, set}
use Rattle.std.proofs.Common.{sym, ap, ap₂, ◌∙◌}
use Rattle.lists.specs.Defs.{all, pairwise}
use Rattle.lists.specs.Bools.{and_both}
use Rattle.values.specs.declared.address.FourTuple.{FourTuple}
use Rattle.values.specs.Address.{same_pair}
use Rattle.values.specs.Laws.{same_pair_is, same_pair_of}
use Rattle.paths_rules.specs.State.{Path}
use Rattle.paths_rules.specs.Path.{new_path_of, unlist, listed_as}
use Rattle.paths_rules.specs.Well.{apart}

-- ---- y is listed only where x was, for the same pair

pub record Less (x y : Path) : Type 0 where
  pub listed : y.listed ≡ true → x.listed ≡ true
  pub pair : y.pair ≡ x.pair

and_left : (a b : Bool) → (a && b) ≡ true → a ≡ true
and_left a b e = (and_both a b e).0

pub less_same : (x : Path) → Less x x
less_same x = record { listed = λ e. e; pair = refl }

pub less_still : (x y z : Path) → z.listed ≡ y.listed → z.pair ≡ y.pair → Less x y → Less x z
less_still x y z l p h = record { listed = λ e. h.listed (sym l ∙ e); pair = p ∙ h.pair }

pub less_unlist : (a : FourTuple) (x : Path) → Less x (unlist a x)
less_unlist a x = record { listed = λ e. and_left x.listed (not (same_pair x.pair a)) e; pair = refl }

abbrev together : Path → Path → Bool
together x y = x.listed && y.listed && same_pair x.pair y.pair

apart_less : (x y u v : Path) → Less x u → Less y v → apart x y ≡ true → apart u v ≡ true
apart_less x y u v l m e = test (together u v) refl
  where
    test : (b : Bool) → together u v ≡ b → not b ≡ true
    test false q = refl
    test true q =
        let w = and_both (u.listed && v.listed) (same_pair u.pair v.pair) q in
        let k = and_both u.listed v.listed w.0 in
        let s : same_pair x.pair y.pair ≡ true = rw (l.pair, m.pair) at w.1 in
        let z : together x y ≡ true = ap₂ ◌&&◌ (ap₂ ◌&&◌ (l.listed k.0) (m.listed k.1)) s in
        sym (ap not z) ∙ e

-- ---- lists, path by path

pub data Shrinks : List Path → List Path → Type 0 where
  nil : Shrinks [] []
  cons : {x y : Path} {l m : List Path} → Less x y → Shrinks l m → Shrinks (x ∷ l) (y ∷ m)

pub shrinks_same : (l : List Path) → Shrinks l l
shrinks_same [] = nil
shrinks_same (x ∷ l) = cons (less_same x) (shrinks_same l)

pub shrinks_map : (f : Path → Path) → ((x : Path) → Less x (f x)) → (l : List Path) → Shrinks l (map f l)
shrinks_map f k [] = nil
shrinks_map f k (x ∷ l) = cons (k x) (shrinks_map f k l)

pub shrinks_set : (d : Path) (l : List Path) (i : ℕ) (y : Path) → Less (get_or l i d) y → Shrinks l (set l i y)
shrinks_set d [] i y h = nil
shrinks_set d (x ∷ l) zero y h = cons h (shrinks_same l)
shrinks_set d (x ∷ l) (suc i) y h = cons (less_same x) (shrinks_set d l i y h)

shrinks_all : (x u : Path) {l m : List Path} → Less x u → Shrinks l m → all (apart x) l ≡ true → all (apart u) m ≡ true
shrinks_all x u h nil e = refl
shrinks_all x u h (cons {x = y} {y = v} {l = l} k s) e =
    let w = and_both (apart x y) (all (apart x) l) e in
    ap₂ ◌&&◌ (apart_less x y u v h k w.0) (shrinks_all x u h s w.1)

pub shrinks_apart : {l m : List Path} → Shrinks l m → pairwise apart l ≡ true → pairwise apart m ≡ true
shrinks_apart nil e = refl
shrinks_apart (cons {x = x} {y = y} {l = l} k s) e =
    let w = and_both (all (apart x) l) (pairwise apart l) e in
    ap₂ ◌&&◌ (shrinks_all x y k s w.0) (shrinks_apart s w.1)

-- ---- an insertion: no other path is listed for its pair

abbrev off : FourTuple → Path → Bool
off a x = not (listed_as a x)

off_unlist : (a : FourTuple) (x : Path) → off a (unlist a x) ≡ true
off_unlist a x = test x.listed (same_pair x.pair a)
  where
    test : (l s : Bool) → not ((l && not s) && s) ≡ true
    test true true = refl
    test true false = refl
    test false true = refl
    test false false = refl

pub all_off : (a : FourTuple) (l : List Path) → all (off a) (map (unlist a) l) ≡ true
all_off a [] = refl
all_off a (x ∷ l) = ap₂ ◌&&◌ (off_unlist a x) (all_off a l)

same_swap : (a b : FourTuple) → same_pair a b ≡ true → same_pair b a ≡ true
same_swap a b e = same_pair_of b a (sym (same_pair_is a b e))

module _ (a : FourTuple) (m : ℕ) where
  apart_before : (x : Path) → off a x ≡ true → apart x (new_path_of a m) ≡ true
  apart_before x = test x.listed (same_pair x.pair a)
    where
      test : (l s : Bool) → not (l && s) ≡ true → not ((l && true) && s) ≡ true
      test true s e = e
      test false s e = refl

  apart_behind : (x : Path) → off a x ≡ true → apart (new_path_of a m) x ≡ true
  apart_behind x e = test x.listed (same_pair a x.pair) refl e
    where
      test : (l s : Bool) → same_pair a x.pair ≡ s → not (l && same_pair x.pair a) ≡ true → not (l && s) ≡ true
      test false s q e = refl
      test true false q e = refl
      test true true q e = sym (ap not (same_swap a x.pair q)) ∙ e

  all_before : (x : Path) (l : List Path) → all (apart x) l ≡ true → off a x ≡ true → all (apart x) (l ++ (new_path_of a m ∷ [])) ≡ true
  all_before x [] e h = ap (λ (b : Bool). b && true) (apart_before x h)
  all_before x (y ∷ l) e h =
      let w = and_both (apart x y) (all (apart x) l) e in
      ap₂ ◌&&◌ w.0 (all_before x l w.1 h)

  pub snoc_apart : (l : List Path) → pairwise apart l ≡ true → all (off a) l ≡ true → pairwise apart (l ++ (new_path_of a m ∷ [])) ≡ true
  snoc_apart [] e h = refl
  snoc_apart (x ∷ l) e h =
      let w = and_both (all (apart x) l) (pairwise apart l) e in
      let k = and_both (off a x) (all (off a) l) h in
      ap₂ ◌&&◌ (all_before x l w.0 k.0) (snoc_apart l w.1 k.1)

  all_behind : (l : List Path) → all (off a) l ≡ true → all (apart (new_path_of a m)) l ≡ true
  all_behind [] h = refl
  all_behind (x ∷ l) h =
      let k = and_both (off a x) (all (off a) l) h in
      ap₂ ◌&&◌ (apart_behind x k.0) (all_behind l k.1)

  all_put_new : (x : Path) (l : List Path) (i : ℕ) → all (apart x) l ≡ true → off a x ≡ true → all (apart x) (set l i (new_path_of a m)) ≡ true
  all_put_new x [] i e h = refl
  all_put_new x (y ∷ l) zero e h = ap₂ ◌&&◌ (apart_before x h) (and_both (apart x y) (all (apart x) l) e).1
  all_put_new x (y ∷ l) (suc i) e h =
      let w = and_both (apart x y) (all (apart x) l) e in
      ap₂ ◌&&◌ w.0 (all_put_new x l i w.1 h)

  pub put_apart : (l : List Path) (i : ℕ) → pairwise apart l ≡ true → all (off a) l ≡ true → pairwise apart (set l i (new_path_of a m)) ≡ true
  put_apart [] i e h = refl
  put_apart (x ∷ l) zero e h =
      ap₂ ◌&&◌ (all_behind l (and_both (off a x) (all (off a) l) h).1) (and_both (all (apart x) l) (pairwise apart l) e).1
  put_apart (x ∷ l) (suc i) e h =
      let w = and_both (all (apart x) l) (pairwise apart l) e in
      let k = and_both (off a x) (all (off a) l) h in
      ap₂ ◌&&◌ (all_put_new x l i w.0 k.0) (put_apart l i w.1 k.1)
