-- Reading and building are inverse: a well-formed state is the one that its view stands for, and every table is the view of its state.
use Rattle.std.specs.Prelude.{ℕ, ◌+◌, ◌≤◌, ◌<◌, ◌≡◌, refl, List, [], ◌∷◌, ◌++◌, map, true, length, take, set, get_or}
use Rattle.std.proofs.Common.{sym, ap, ap₂, ◌∙◌, subst, arith, length-append, length-set, get_or-take}
use Rattle.std.proofs.lemmas.List.{map-append, length-map}
use Rattle.std.proofs.Math.ListN.{get_or-map}
use Rattle.lists.specs.Defs.{all, padded}
use Rattle.lists.specs.Held.{take_padded, padded_push, Held, held_length, held_count, held_of, get_or_in}
use Rattle.lists.specs.Maps.{map_set, map_is}
use Rattle.values.specs.Limits.{max_paths_limit}
use Rattle.paths_rules.specs.State.{Path}
use Rattle.paths_rules.specs.Path.{zero_path}
use Rattle.paths_rules.specs.Table.{Table, path_at, with_paths}
use Rattle.paths_state.specs.Formed.{live, well_formed}
use Rattle.paths_state.specs.Laws.{PathsWell, all_at, facts}
use Rattle.paths_state.specs.declared.state.Paths.{Paths}
use Rattle.path.specs.Reading.{path_view, path_of}
use Rattle.path.specs.ReadingLaws.{path_of_lem, path_is}
use Rattle.paths.specs.Reading.{view, put_paths, paths_of}
use Rattle.paths.specs.Lists.{set_padded}
use Rattle.paths_state.specs.declared.state.Path as S
use Rattle.paths_state.specs.Formed as F

-- ---- the paths of a list

pub paths_of_lem : (l : List Path) → map path_view (map path_of l) ≡ l
paths_of_lem [] = refl
paths_of_lem (x ∷ l) = ap₂ (λ (y : Path) (r : List Path). y ∷ r) (path_of_lem x) (paths_of_lem l)

-- ---- the state

-- what the reading of a state keeps: its paths have their form, and past them stand zero paths
pub record Tidy (t : Paths) : Type 0 where
  pub held : PathsWell t
  pub each : all F.path_formed_of (live t) ≡ true

pub tidy : (t : Paths) → well_formed t ≡ true → Tidy t
tidy t w = let f = facts t w in record { held = f.held; each = f.each }

-- the paths of the one state of a table
pub live_of : (v : Table) → live (paths_of v) ≡ map path_of v.paths
live_of v = ap (λ (n : ℕ). take n (padded max_paths_limit F.zero_path (map path_of v.paths))) (sym (length-map v.paths path_of)) ∙ take_padded max_paths_limit F.zero_path (map path_of v.paths)

pub view_of : (v : Table) → view (paths_of v) ≡ v
view_of v = λ i. record { paths = (ap (map path_view) (live_of v) ∙ paths_of_lem v.paths) i; limit = v.limit; factor = v.factor; multipath = v.multipath; server = v.server }

-- a state with other paths, which stand for those of a table
pub put_is : (t : Paths) (l : List Path) (items : List S.Path) (n : ℕ) → items ≡ padded max_paths_limit F.zero_path (map path_of l) → n ≡ length l → put_paths items n t ≡ paths_of (with_paths l (view t))
put_is t l items n e q = λ i. record { items = e i; count = q i; max_paths = t.max_paths; anti_ampl_factor = t.anti_ampl_factor; is_multipath = t.is_multipath; is_server = t.is_server }

-- in the one state of a table a path is stored, or goes to the end
module _ (v : Table) (y : S.Path) (z : Path) (e : y ≡ path_of z) where
  abbrev p : List S.Path
  p = map path_of v.paths

  long : length p ≡ length v.paths
  long = length-map v.paths path_of

  pub stored_of : (i : ℕ) → i < length v.paths → put_paths (set (paths_of v).items i y) (length v.paths) (paths_of v) ≡ paths_of (with_paths (set v.paths i z) v)
  stored_of i h =
      put_is (paths_of v) (set v.paths i z) (set (paths_of v).items i y) (length v.paths)
      (ap (set (paths_of v).items i) e ∙ set_padded max_paths_limit F.zero_path p i (path_of z) (omega (arith, long)) ∙ ap (padded max_paths_limit F.zero_path) (sym (map_set path_of v.paths i z)))
      (sym (length-set v.paths i z))

  pub pushed_of : (n : ℕ) → n ≡ length v.paths → n < max_paths_limit → put_paths (set (paths_of v).items n y) (n + 1) (paths_of v) ≡ paths_of (with_paths (v.paths ++ (z ∷ [])) v)
  pushed_of n q h =
      put_is (paths_of v) (v.paths ++ (z ∷ [])) (set (paths_of v).items n y) (n + 1)
      (ap₂ (set (paths_of v).items) (q ∙ sym long) e ∙ padded_push max_paths_limit F.zero_path p (path_of z) (omega (arith, q, long)) ∙ ap (padded max_paths_limit F.zero_path) (sym (map-append path_of v.paths (z ∷ []))))
      (omega (arith, q, length-append v.paths (z ∷ [])))

module _ (t : Paths) (w : Tidy t) where
  pub live_long : length (live t) ≡ t.count
  live_long = held_count w.held

  pub items_long : length t.items ≡ max_paths_limit
  items_long = held_length w.held

  pub paths_long : length (view t).paths ≡ t.count
  paths_long = length-map (live t) path_view ∙ live_long

  pub paths_back : map path_of (view t).paths ≡ live t
  paths_back = map_is F.path_formed_of path_view path_of path_is (live t) w.each

  pub items_is : t.items ≡ padded max_paths_limit F.zero_path (map path_of (view t).paths)
  items_is = w.held.is ∙ ap (padded max_paths_limit F.zero_path) (sym paths_back)

  pub view_is : paths_of (view t) ≡ t
  view_is = sym (put_is t (view t).paths t.items t.count items_is (sym paths_long))

  -- ---- one path

  -- the path at i, as the code reads it
  pub formed_at : (d : S.Path) (i : ℕ) → i < t.count → F.path_formed_of (get_or t.items i d) ≡ true
  formed_at d i h = ap F.path_formed_of (sym (get_or-take t.count t.items i d h)) ∙ all_at F.path_formed_of d (live t) i w.each (omega (arith, live_long))

  pub live_formed : (d : S.Path) (i : ℕ) → i < length (live t) → F.path_formed_of (get_or (live t) i d) ≡ true
  live_formed d i h = all_at F.path_formed_of d (live t) i w.each h

  pub path_at_lem : (d : S.Path) (i : ℕ) → i < t.count → path_view (get_or t.items i d) ≡ path_at i (view t)
  path_at_lem d i h =
      ap path_view (sym (get_or-take t.count t.items i d h))
      ∙ sym (get_or-map path_view (live t) i d)
      ∙ get_or_in (view t).paths i (path_view d) zero_path (omega (arith, paths_long))

  pub path_at_is : (d : S.Path) (i : ℕ) → i < t.count → get_or t.items i d ≡ path_of (path_at i (view t))
  path_at_is d i h = sym (path_is (get_or t.items i d) (formed_at d i h)) ∙ ap path_of (path_at_lem d i h)

  -- a path is stored
  pub stored_is : (i : ℕ) (y : S.Path) (z : Path) → i < t.count → y ≡ path_of z → put_paths (set t.items i y) t.count t ≡ paths_of (with_paths (set (view t).paths i z) (view t))
  stored_is i y z h e = ap (λ (u : Paths). put_paths (set u.items i y) u.count u) (sym view_is) ∙ stored_of (view t) y z e i (omega (arith, paths_long))

-- ---- a state that is known by its table

pub tidy_of : (v : Table) → length v.paths ≤ max_paths_limit → all F.path_formed_of (map path_of v.paths) ≡ true → Tidy (paths_of v)
tidy_of v h e =
    let n : length (map path_of v.paths) ≡ length v.paths = length-map v.paths path_of in
    let k = held_of max_paths_limit F.zero_path (map path_of v.paths) (omega arith) in
    record { held = subst (λ (m : ℕ). Held max_paths_limit F.zero_path (padded max_paths_limit F.zero_path (map path_of v.paths)) m) n k; each = ap (all F.path_formed_of) (live_of v) ∙ e }
