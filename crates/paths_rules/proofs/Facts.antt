-- What being well formed says, as facts: each group of tests turned into a record and back.
use Rattle.std.specs.Prelude.{ℕ, zero, suc, ◌≤◌, ◌<◌, ◌≡◌, refl, List, [], ◌∷◌, ◌++◌, map, Bool, true, false, cond, ◌&&◌, ◌||◌, length, get_or, set, ltb}
use Rattle.std.proofs.Common.{ap, ap₂, not-suc-le-zero, le_of_suc-le-suc, arith, leb-true, le-leb, ltb-true, lt-ltb}
use Rattle.lists.specs.Defs.{every, all, pairwise, empty, keep}
use Rattle.lists.specs.Bools.{Each, and_both}
use Rattle.values.specs.declared.address.FourTuple.{FourTuple}
use Rattle.values.specs.Address.{pair_formed_of}
use Rattle.values.specs.Limits.{max_paths_limit, max_path_chals_recv, max_path_chals_sent, max_lost}
use Rattle.paths_rules.specs.State.{Challenge}
use Rattle.paths_rules.specs.Table.{Table}
use Rattle.paths_rules.specs.Well.{bounds, in_time, parts, path_formed_of, apart, well}

-- ---- the groups

pub record Bounds (limit count : ℕ) : Type 0 where
  pub low : 1 ≤ limit
  pub high : limit ≤ max_paths_limit
  pub some : 1 ≤ count
  pub few : count ≤ limit

-- at 33 no sent challenge stands
pub record Parts (pair : FourTuple) (received : List ℕ) (sent : List Challenge) (lost : ℕ) : Type 0 where
  pub form : pair_formed_of pair ≡ true
  pub received8 : length received ≤ max_path_chals_recv
  pub sent16 : length sent ≤ max_path_chals_sent
  pub lost33 : lost ≤ max_lost
  pub spare : 0 < length sent → lost < max_lost
  pub moments : all in_time sent ≡ true

pub record Well (t : Table) : Type 0 where
  pub bounds : Bounds t.limit (length t.paths)
  pub paths : all path_formed_of t.paths ≡ true
  pub listing : pairwise apart t.paths ≡ true

-- ---- from tests to facts, and back

each : (bs : List Bool) → every bs ≡ true → Each bs
each [] e = 0
each (b ∷ bs) e = let w = and_both b (every bs) e in (w.0, each bs w.1)

each_of : (bs : List Bool) → Each bs → every bs ≡ true
each_of [] w = refl
each_of (b ∷ bs) w = ap₂ ◌&&◌ w.0 (each_of bs w.1)

spared : (lost : ℕ) (l : List Challenge) → (ltb lost max_lost || empty l) ≡ true → 0 < length l → lost < max_lost
spared lost [] e h = absurd (not-suc-le-zero h)
spared lost (c ∷ cs) e h = test (ltb lost max_lost) refl e
  where
    test : (b : Bool) → ltb lost max_lost ≡ b → (b || false) ≡ true → lost < max_lost
    test true q e = ltb-true lost max_lost q
    test false q e = let z : ◌≡◌ {A = ℕ} 0 1 = cc in absurd (omega arith)

spared_of : (lost : ℕ) (l : List Challenge) → (0 < length l → lost < max_lost) → (ltb lost max_lost || empty l) ≡ true
spared_of lost [] h = test (ltb lost max_lost)
  where
    test : (b : Bool) → (b || true) ≡ true
    test true = refl
    test false = refl
spared_of lost (c ∷ cs) h = ap (λ (b : Bool). b || false) (lt-ltb lost max_lost (h (omega arith)))

pub parts_are : (pair : FourTuple) (received : List ℕ) (sent : List Challenge) (lost : ℕ) → every (parts pair received sent lost) ≡ true → Parts pair received sent lost
parts_are pair received sent lost e =
    let w = each (parts pair received sent lost) e in
    record {
      form = w.0;
      received8 = leb-true (length received) max_path_chals_recv w.1.0;
      sent16 = leb-true (length sent) max_path_chals_sent w.1.1.0;
      lost33 = leb-true lost max_lost w.1.1.1.0;
      spare = spared lost sent w.1.1.1.1.0;
      moments = w.1.1.1.1.1.0;
    }

pub are_parts : (pair : FourTuple) (received : List ℕ) (sent : List Challenge) (lost : ℕ) → Parts pair received sent lost → every (parts pair received sent lost) ≡ true
are_parts pair received sent lost p =
    each_of (parts pair received sent lost) (
      p.form,
      (
        le-leb (length received) max_path_chals_recv p.received8,
        (
          le-leb (length sent) max_path_chals_sent p.sent16,
          (le-leb lost max_lost p.lost33, (spared_of lost sent p.spare, (p.moments, 0))),
        ),
      ),
    )

bounds_are : (limit count : ℕ) → every (bounds limit count) ≡ true → Bounds limit count
bounds_are limit count e =
    let w = each (bounds limit count) e in
    record {
      low = leb-true 1 limit w.0;
      high = leb-true limit max_paths_limit w.1.0;
      some = leb-true 1 count w.1.1.0;
      few = leb-true count limit w.1.1.1.0;
    }

are_bounds : (limit count : ℕ) → Bounds limit count → every (bounds limit count) ≡ true
are_bounds limit count b =
    each_of (bounds limit count) (le-leb 1 limit b.low, (le-leb limit max_paths_limit b.high, (le-leb 1 count b.some, (le-leb count limit b.few, 0))))

pub well_is : (t : Table) → well t ≡ true → Well t
well_is t e =
    let v = and_both (every (bounds t.limit (length t.paths)) && all path_formed_of t.paths) _ e in
    let w = and_both (every (bounds t.limit (length t.paths))) _ v.0 in
    record { bounds = bounds_are _ _ w.0; paths = w.1; listing = v.1 }

pub is_well : (t : Table) → Well t → well t ≡ true
is_well t w = ap₂ ◌&&◌ (ap₂ ◌&&◌ (are_bounds t.limit (length t.paths) w.bounds) w.paths) w.listing

-- ---- every element passes

module _ {A : Type 0} (p : A → Bool) where
  pub all_at : (d : A) (l : List A) (i : ℕ) → i < length l → all p l ≡ true → p (get_or l i d) ≡ true
  all_at d [] i h e = absurd (not-suc-le-zero h)
  all_at d (x ∷ xs) zero h e = (and_both (p x) (all p xs) e).0
  all_at d (x ∷ xs) (suc i) h e = all_at d xs i (le_of_suc-le-suc h) (and_both (p x) (all p xs) e).1

  pub all_put : (l : List A) (i : ℕ) (y : A) → (i < length l → p y ≡ true) → all p l ≡ true → all p (set l i y) ≡ true
  all_put [] i y k e = refl
  all_put (x ∷ xs) zero y k e = ap₂ ◌&&◌ (k (omega arith)) (and_both (p x) (all p xs) e).1
  all_put (x ∷ xs) (suc i) y k e =
      let w = and_both (p x) (all p xs) e in
      ap₂ ◌&&◌ w.0 (all_put xs i y (λ h. k (omega arith)) w.1)

  pub all_mapped : (f : A → A) → ((x : A) → p x ≡ true → p (f x) ≡ true) → (l : List A) → all p l ≡ true → all p (map f l) ≡ true
  all_mapped f k [] e = refl
  all_mapped f k (x ∷ xs) e =
      let w = and_both (p x) (all p xs) e in
      ap₂ ◌&&◌ (k x w.0) (all_mapped f k xs w.1)

  pub all_snoc : (l : List A) (y : A) → all p l ≡ true → p y ≡ true → all p (l ++ (y ∷ [])) ≡ true
  all_snoc [] y e h = ap (λ (b : Bool). b && true) h
  all_snoc (x ∷ xs) y e h =
      let w = and_both (p x) (all p xs) e in
      ap₂ ◌&&◌ w.0 (all_snoc xs y w.1 h)

  pub all_kept : (q : A → Bool) (l : List A) → all p l ≡ true → all p (keep q l) ≡ true
  all_kept q [] e = refl
  all_kept q (x ∷ xs) e = let w = and_both (p x) (all p xs) e in test (q x) w.0 (all_kept q xs w.1)
    where
      test : (b : Bool) → p x ≡ true → all p (keep q xs) ≡ true → all p (cond b (x ∷ keep q xs) (keep q xs)) ≡ true
      test true h r = ap₂ ◌&&◌ h r
      test false h r = r
