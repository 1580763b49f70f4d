-- All paths of a table: a search, a change of each in a loop, the least deadline, insertion.
use Rattle.std.specs.Prelude.{Option as Optional, Some, None, ℕ, ◌+◌, ◌-◌, ◌<◌, min, ◌≡◌, refl, List, [], ◌∷◌, ◌++◌, map, Bool, true, false, not, cond, ◌&&◌, length, take, drop, set, get_or, replicate}
use Rattle.std.specs.List.{position}
use Rattle.std.proofs.Common.{sym, ap, ap₂, ◌∙◌, append-nil, arith, add-one, get_or-take, take-suc, take_all, drop_at}
use Rattle.std.proofs.lemmas.List.{map-append, length-map, set-get_or}
use Rattle.std.proofs.lemmas.Simd.{map-map}
use Rattle.std.proofs.Math.Option.{Option, none, some}
use Rattle.std.proofs.Math.ListN.{get_or-map}
use Rattle.lists.specs.Defs.{optional, first_with, somes, less, least, padded, over}
use Rattle.lists.specs.Search.{least_snoc}
use Rattle.lists.specs.Held.{over_more, get_or_over}
use Rattle.lists.specs.Maps.{somes_append}
use Rattle.values.specs.Limits.{max_paths_limit}
use Rattle.values.specs.Address.{same_pair}
use Rattle.values.specs.Time.{moved_of}
use Rattle.values.specs.declared.address.FourTuple.{FourTuple}
use Rattle.values.specs.declared.time.Moment.{Moment}
use Rattle.paths_rules.specs.State.{Path}
use Rattle.paths_rules.specs.Path.{new_path_of, unlist, in_use, due}
use Rattle.paths_rules.specs.With.{with_ping}
use Rattle.paths_rules.specs.Table.{path_at, with_paths, on_path, on_all, appended, replaced, ping_in_use_of, timer}
use Rattle.paths_state.specs.Formed.{live}
use Rattle.paths_state.specs.declared.state.Paths.{Paths}
use Rattle.path.specs.Reading.{path_view, path_of}
use Rattle.path.specs.ReadingLaws.{path_is}
use Rattle.path.specs.Puts.{put_listed}
use Rattle.path.specs.FieldLaws.{back, unlisted_is}
use Rattle.paths.specs.Reading.{view, put_paths, paths_of}
use Rattle.paths.specs.Lists.{first_map, first_position, free_place}
use Rattle.paths.specs.ReadingLaws.{Tidy, live_long, items_long, paths_long, put_is, formed_at, path_at_lem, stored_is, stored_of, pushed_of}
use Rattle.paths_state.specs.declared.state.Path as S
use Rattle.paths_state.specs.Formed as F

-- ---- the first path that passes a test

abbrev pub passes : (Path → Bool) → S.Path → Bool
passes p x = p (path_view x)

-- the place that the search for it gives
pub found_first : (t : Paths) (p : Path → Bool) (r : Optional ℕ) → r ≡ position (passes p) (live t) → r ≡ optional (first_with p (view t).paths)
found_first t p r e = e ∙ sym (ap optional (first_map path_view p (live t)) ∙ first_position (passes p) (live t))

-- ---- every path is changed

-- the paths as they are to be
abbrev pub made : (Path → Path) → Paths → List S.Path
made f t = map (λ (x : S.Path). path_of (f (path_view x))) (live t)

-- the state when the loop has come to i: up to there the paths are changed, and from there on they stand as they did
abbrev pub Turned : (Path → Path) → Paths → ℕ → Paths → Type 0
Turned f t i u = u ≡ put_paths (over (made f t) t.items i) t.count t

module _ (t : Paths) (w : Tidy t) (f : Path → Path) where
  made_long : length (made f t) ≡ t.count
  made_long = length-map (live t) (λ (x : S.Path). path_of (f (path_view x))) ∙ live_long t w

  module _ (d : S.Path) (i : ℕ) (u : Paths) (h : i < t.count) (q : Turned f t i u) where
    each_at : get_or u.items i d ≡ get_or t.items i d
    each_at = ap (λ (v : Paths). get_or v.items i d) q ∙ get_or_over d (made f t) t.items i i (omega arith) (omega (arith, made_long)) (omega (arith, items_long t w, w.held.few))

    pub each_formed : F.path_formed_of (get_or u.items i d) ≡ true
    each_formed = ap F.path_formed_of each_at ∙ formed_at t w d i h

    pub each_more : (y : S.Path) → y ≡ path_of (f (path_view (get_or u.items i d))) → Turned f t (i + 1) (put_paths (set u.items i y) u.count u)
    each_more y e =
        let g : S.Path → S.Path = λ x. path_of (f (path_view x)) in
        ap₂ (λ (v : Paths) (x : S.Path). put_paths (set v.items i x) v.count v) q (e ∙ ap g (each_at ∙ sym (get_or-take t.count t.items i d h)) ∙ sym (get_or-map g (live t) i d))
        ∙ ap (λ (l : List S.Path). put_paths l t.count t) (over_more (g d) (made f t) t.items i (omega (arith, made_long)) (omega (arith, items_long t w, w.held.few)))

    -- a path that the change leaves as it is need not be stored
    pub each_stays : path_of (f (path_view (get_or u.items i d))) ≡ get_or u.items i d → Turned f t (i + 1) u
    each_stays e = ap (λ (l : List S.Path). put_paths l u.count u) (sym (set-get_or u.items i d)) ∙ each_more (get_or u.items i d) (sym e)

  over_done : over (made f t) t.items t.count ≡ padded max_paths_limit F.zero_path (map path_of (map f (view t).paths))
  over_done =
      ap₂ (λ (a b : List S.Path). a ++ b) (take_all t.count (made f t) (omega (arith, made_long)))
      (ap (drop t.count) w.held.is ∙ drop_at (live t) (replicate (max_paths_limit - length (live t)) F.zero_path) t.count (live_long t w) ∙ ap (λ (n : ℕ). replicate (max_paths_limit - n) F.zero_path) (live_long t w ∙ sym made_long))
      ∙ ap (padded max_paths_limit F.zero_path) (sym (map-map path_of f (view t).paths ∙ map-map (λ (x : Path). path_of (f x)) path_view (live t)))

  pub each_done : (i : ℕ) (u : Paths) → i ≡ t.count → Turned f t i u → u ≡ paths_of (on_all f (view t))
  each_done i u e q =
      q ∙ ap (λ (n : ℕ). put_paths (over (made f t) t.items n) t.count t) e
      ∙ put_is t (map f (view t).paths) (over (made f t) t.items t.count) t.count over_done (sym (length-map (view t).paths f ∙ paths_long t w))

-- ---- pings

-- a ping is asked for
abbrev put_ping : S.Path → S.Path
put_ping x = record x { need_send_ping = true }

ping_is : (x : S.Path) → F.path_formed_of x ≡ true → put_ping x ≡ path_of (with_ping true (path_view x))
ping_is x w = sym (ap put_ping (path_is x w))

-- of a path in use
ping_used : (v : Path) (b : Bool) → in_use v ≡ b → path_of (cond b (with_ping true v) v) ≡ path_of (ping_in_use_of v)
ping_used v b e = sym (ap (λ (d : Bool). path_of (cond d (with_ping true v) v)) e)

module _ (t : Paths) (w : Tidy t) (d : S.Path) (i : ℕ) where
  pub pinged_at : i < t.count → put_paths (set t.items i (put_ping (get_or t.items i d))) t.count t ≡ paths_of (on_path i (with_ping true) (view t))
  pinged_at h =
      stored_is t w i (put_ping (get_or t.items i d)) (with_ping true (path_at i (view t))) h
      (ping_is (get_or t.items i d) (formed_at t w d i h) ∙ ap (λ (v : Path). path_of (with_ping true v)) (path_at_lem t w d i h))

  module _ (u : Paths) (h : i < t.count) (q : Turned ping_in_use_of t i u) where
    abbrev x : S.Path
    x = get_or u.items i d

    pub pinged_more : in_use (path_view x) ≡ true → Turned ping_in_use_of t (i + 1) (put_paths (set u.items i (put_ping x)) u.count u)
    pinged_more e = each_more t w ping_in_use_of d i u h q (put_ping x) (ping_is x (each_formed t w ping_in_use_of d i u h q) ∙ ping_used (path_view x) true e)

    pub pinged_stays : in_use (path_view x) ≡ false → Turned ping_in_use_of t (i + 1) u
    pinged_stays e = each_stays t w ping_in_use_of d i u h q (sym (ping_used (path_view x) false e) ∙ path_is x (each_formed t w ping_in_use_of d i u h q))

-- ---- the least deadline

abbrev pub join : Option ℕ → Option ℕ → Option ℕ
join o none = o
join o (some n) = less o n

-- the earlier of two moments, of which either may be missing
abbrev pub earlier_of : Optional Moment → Optional Moment → Optional Moment
earlier_of None b = b
earlier_of (Some a) None = Some a
earlier_of (Some a) (Some b) = Some (record { us = min a.us b.us })

earlier_is : (o p : Option ℕ) → earlier_of (moved_of o) (moved_of p) ≡ moved_of (join o p)
earlier_is none none = refl
earlier_is none (some n) = refl
earlier_is (some m) none = refl
earlier_is (some m) (some n) = refl

join_one : (l : List (Option ℕ)) (o : Option ℕ) → least (somes (l ++ (o ∷ []))) ≡ join (least (somes l)) o
join_one l none = ap least (somes_append l (none ∷ []) ∙ append-nil (somes l))
join_one l (some n) = ap least (somes_append l (some n ∷ [])) ∙ least_snoc (somes l) n

-- the least of the first i paths
abbrev pub timer_to : ℕ → List S.Path → Option ℕ
timer_to i l = timer (map path_view (take i l))

module _ (d : S.Path) (l : List S.Path) (i : ℕ) (h : i < length l) where
  pub timer_more : (best x : Optional Moment) → best ≡ moved_of (timer_to i l) → x ≡ moved_of (due (path_view (get_or l i d))) → earlier_of best x ≡ moved_of (timer_to (i + 1) l)
  timer_more best x e q =
      let y : S.Path = get_or l i d in
      let k : take (i + 1) l ≡ take i l ++ (y ∷ []) = ap (λ (n : ℕ). take n l) (add-one i) ∙ take-suc l i d h in
      ap₂ earlier_of e q ∙ earlier_is (timer_to i l) (due (path_view y))
      ∙ ap moved_of
      (sym
      (ap (λ (m : List S.Path). timer (map path_view m)) k
      ∙ ap timer (map-append path_view (take i l) (y ∷ []))
      ∙ ap (λ (m : List (Option ℕ)). least (somes m)) (map-append due (map path_view (take i l)) (path_view y ∷ []))
      ∙ join_one (map due (map path_view (take i l))) (due (path_view y))))

-- ---- insertion

twice : (l a b : Bool) → ((l && a) && (l && b)) ≡ ((l && a) && b)
twice true a b = refl
twice false a b = refl

-- both listings go
abbrev pub unlist_both : FourTuple → FourTuple → Path → Path
unlist_both a b x = unlist b (unlist a x)

-- one more path loses its listing, which is stored in place
module _ (t : Paths) (w : Tidy t) (d : S.Path) (i : ℕ) (u : Paths) (h : i < t.count) where
  abbrev at : S.Path
  at = get_or u.items i d

  pub unlisted_more : (a : FourTuple) → Turned (unlist a) t i u → (l : Bool) → l ≡ (unlist a (path_view at)).listed → Turned (unlist a) t (i + 1) (put_paths (set u.items i (put_listed l at)) u.count u)
  unlisted_more a q l e = each_more t w (unlist a) d i u h q (put_listed l at) (unlisted_is at (each_formed t w (unlist a) d i u h q) a l e)

  pub both_more : (a b : FourTuple) → Turned (unlist_both a b) t i u → (p r : Bool) → p ≡ (unlist a (path_view at)).listed → r ≡ (unlist b (path_view at)).listed
      → Turned (unlist_both a b) t (i + 1) (put_paths (set u.items i (put_listed (p && r) at)) u.count u)
  both_more a b q p r e f =
      each_more t w (unlist_both a b) d i u h q (put_listed (p && r) at)
      (ap₂ (λ (c g : Bool). put_listed (c && g) at) e f
      ∙ ap (λ (c : Bool). put_listed c at) (twice at.listed (not (same_pair at.pair a)) (not (same_pair at.pair b)))
      ∙ ap (put_listed (at.listed && not (same_pair at.pair a) && not (same_pair at.pair b))) (back at (each_formed t w (unlist_both a b) d i u h q)))

-- the place after the paths is free, whatever was done to each of them
pub free_at : (t : Paths) → Tidy t → (f : Path → Path) (u : Paths) → u ≡ paths_of (on_all f (view t)) → t.count < max_paths_limit → (d : S.Path) → get_or u.items t.count d ≡ F.zero_path
free_at t w f u e h d =
    let l = map path_of (map f (view t).paths) in
    let n : length l ≡ t.count = length-map (map f (view t).paths) path_of ∙ length-map (view t).paths f ∙ paths_long t w in
    ap (λ (v : Paths). get_or v.items t.count d) e ∙ ap (λ (k : ℕ). get_or (padded max_paths_limit F.zero_path l) k d) (sym n) ∙ free_place max_paths_limit F.zero_path d l (omega (arith, n, h))

module _ (t : Paths) (w : Tidy t) (u : Paths) (a : FourTuple) (m : ℕ) (x : S.Path) (q : x ≡ path_of (new_path_of a m)) where
  pub appended_is : t.count < max_paths_limit → u ≡ paths_of (on_all (unlist a) (view t)) → put_paths (set u.items t.count x) (t.count + 1) u ≡ paths_of (appended a m (view t))
  appended_is h e =
      ap (λ (v : Paths). put_paths (set v.items t.count x) (t.count + 1) v) e
      ∙ pushed_of (on_all (unlist a) (view t)) x (new_path_of a m) q t.count (sym (length-map (view t).paths (unlist a) ∙ paths_long t w)) h

  pub replaced_is : (i : ℕ) (b : FourTuple) → i < t.count → b ≡ (path_at i (view t)).pair → u ≡ paths_of (on_all (unlist_both b a) (view t)) → put_paths (set u.items i x) u.count u ≡ paths_of (replaced i a m (view t))
  replaced_is i b h eb e =
      ap (λ (v : Paths). put_paths (set v.items i x) v.count v) e
      ∙ stored_of (on_all (unlist_both b a) (view t)) x (new_path_of a m) q i (omega (arith, h, length-map (view t).paths (unlist_both b a), paths_long t w))
      ∙ ap (λ (l : List Path). paths_of (with_paths (set l i (new_path_of a m)) (view t))) (sym (map-map (unlist a) (unlist b) (view t).paths) ∙ ap (λ (p : FourTuple). map (unlist a) (map (unlist p) (view t).paths)) eb)
