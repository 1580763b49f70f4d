-- A state is well formed exactly if it is the one state of a table that the rules call well formed. So what the rules prove of every call, that it keeps a table
-- well formed, holds of the state that the call gives.
use Rattle.std.specs.Prelude.{ℕ, ◌≤◌, ◌≡◌, refl, List, [], ◌∷◌, map, Bool, true, false, cond, ◌&&◌, ◌||◌, ltb, length}
use Rattle.std.proofs.Common.{sym, ap, ap₂, ◌∙◌, arith, le-ltb, le-leb, leb-true, ltb-false}
use Rattle.std.proofs.Math.Option.{Option, none, some}
use Rattle.std.proofs.lemmas.List.{length-map}
use Rattle.lists.specs.Defs.{given, present, every, all, pairwise, empty}
use Rattle.lists.specs.Bools.{and_both, Each}
use Rattle.lists.specs.Held.{take_padded, held_of}
use Rattle.lists.specs.Maps.{all_map}
use Rattle.values.specs.Limits.{max_paths_limit, max_path_chals_recv, max_path_chals_sent, max_lost}
use Rattle.values.specs.declared.address.FourTuple.{FourTuple}
use Rattle.paths_rules.specs.State.{Challenge, Path}
use Rattle.paths_rules.specs.Table.{Table, refused}
use Rattle.paths_rules.specs.Calls.{Call, Ping, call_formed, step, apply}
use Rattle.challenges.specs.Challenges.{zero_challenge, waiting, standing}
use Rattle.challenges.specs.Laws.{waiting_long, standing_long}
use Rattle.paths_state.specs.Formed.{live, well_formed}
use Rattle.paths_state.specs.Laws as L
use Rattle.paths_state.specs.Laws.{path_facts, facts, well_of}
use Rattle.paths_state.specs.declared.state.Paths.{Paths}
use Rattle.path.specs.Reading.{chal_view, chal_of, path_view, seq_of, path_of}
use Rattle.paths.specs.Reading.{view, paths_of, optional_pair}
use Rattle.paths.specs.ReadingLaws.{tidy, live_of, paths_long, tidy_of}
use Rattle.paths_state.specs.declared.state.Path as S
use Rattle.paths_state.specs.Formed as F
use Rattle.paths_rules.specs.Well as W

-- ---- one path

every_each : (l : List Bool) → every l ≡ true → Each l
every_each [] e = 0
every_each (a ∷ l) e = let w = and_both a (every l) e in (w.0, every_each l w.1)

yes : true ≡ true
yes = refl

-- at the most no challenge stands
lost_stands : (lost : ℕ) (l : List Challenge) → (lost ≡ max_lost → length l ≡ 0) → lost ≤ max_lost → (ltb lost max_lost || empty l) ≡ true
lost_stands lost l f h = go (ltb lost max_lost) refl
  where
    none_there : (m : List Challenge) → length m ≡ 0 → empty m ≡ true
    none_there [] e = refl
    none_there (c ∷ m) e = absurd (omega (arith, e))

    go : (b : Bool) → ltb lost max_lost ≡ b → (ltb lost max_lost || empty l) ≡ true
    go true t = ap (λ (b : Bool). b || empty l) t
    go false t = ap₂ ◌||◌ t (none_there l (f (omega (arith, ltb-false lost max_lost t))))

stands_lost : (lost : ℕ) (l : List Challenge) → (ltb lost max_lost || empty l) ≡ true → lost ≡ max_lost → length l ≡ 0
stands_lost lost [] e q = refl
stands_lost lost (c ∷ l) e q = let z : ◌≡◌ {A = ℕ} 0 1 = let n : ltb lost max_lost ≡ false = le-ltb lost max_lost (omega arith) in let m : (false || false) ≡ true = sym (ap (λ (b : Bool). b || false) n) ∙ e in cc in absurd (omega arith)

pub path_well : (x : S.Path) → F.path_formed_of x ≡ true → W.path_formed_of (path_view x) ≡ true
path_well x e =
    let f = path_facts x e in
    let q = x.recv_chals in
    let s = x.sent_chals in
    let n : length (map chal_view (standing s)) ≡ s.count = length-map (standing s) chal_view ∙ standing_long s f.sent in
    ap₂ ◌&&◌ f.pair
    (ap₂ ◌&&◌ (le-leb (length (waiting q)) max_path_chals_recv (omega (arith, waiting_long q f.received, f.received.few)))
    (ap₂ ◌&&◌ (le-leb (length (map chal_view (standing s))) max_path_chals_sent (omega (arith, f.sent.few)))
    (ap₂ ◌&&◌ (le-leb x.lost_chal max_lost f.lost_most)
    (ap₂ ◌&&◌ (lost_stands x.lost_chal (map chal_view (standing s)) (λ k. n ∙ f.lost_none k) f.lost_most)
    (ap₂ ◌&&◌ (all_map W.in_time chal_view (standing s) ∙ f.moments) yes)))))

seq_formed_lem : (o : Option ℕ) → F.seq_formed (present o) (seq_of o) ≡ true
seq_formed_lem none = refl
seq_formed_lem (some n) = refl

pub path_formed_lem : (x : Path) → W.path_formed_of x ≡ true → F.path_formed_of (path_of x) ≡ true
path_formed_lem x e =
    let w = every_each (W.parts x.pair x.received x.sent x.lost) e in
    let n : length (map chal_of x.sent) ≡ length x.sent = length-map x.sent chal_of in
    L.path_of_lem (path_of x)
    (record {
      pair = w.0;
      scid = seq_formed_lem x.scid;
      dcid = seq_formed_lem x.dcid;
      received = held_of max_path_chals_recv 0 x.received (leb-true (length x.received) max_path_chals_recv w.1.0);
      sent = held_of max_path_chals_sent zero_challenge (map chal_of x.sent) (omega (arith, leb-true (length x.sent) max_path_chals_sent w.1.1.0));
      moments = ap (all F.timed) (take_padded max_path_chals_sent zero_challenge (map chal_of x.sent)) ∙ all_map F.timed chal_of x.sent ∙ w.1.1.1.1.1.0;
      lost_most = leb-true x.lost max_lost w.1.1.1.0;
      lost_none = λ k. n ∙ stands_lost x.lost x.sent w.1.1.1.1.0 k;
    })

-- ---- the paths

paths_well : (l : List S.Path) → all F.path_formed_of l ≡ true → all W.path_formed_of (map path_view l) ≡ true
paths_well [] e = refl
paths_well (x ∷ l) e =
    let v = and_both (F.path_formed_of x) (all F.path_formed_of l) e in
    ap₂ ◌&&◌ (path_well x v.0) (paths_well l v.1)

pub paths_formed : (l : List Path) → all W.path_formed_of l ≡ true → all F.path_formed_of (map path_of l) ≡ true
paths_formed [] e = refl
paths_formed (x ∷ l) e =
    let v = and_both (W.path_formed_of x) (all W.path_formed_of l) e in
    ap₂ ◌&&◌ (path_formed_lem x v.0) (paths_formed l v.1)

apart_view : (l : List S.Path) → pairwise W.apart (map path_view l) ≡ pairwise F.apart l
apart_view [] = refl
apart_view (x ∷ l) = ap₂ ◌&&◌ (all_map (W.apart (path_view x)) path_view l) (apart_view l)

apart_of : (l : List Path) → pairwise F.apart (map path_of l) ≡ pairwise W.apart l
apart_of [] = refl
apart_of (x ∷ l) = ap₂ ◌&&◌ (all_map (F.apart (path_of x)) path_of l) (apart_of l)

-- ---- the table

pub well_view : (t : Paths) → well_formed t ≡ true → W.well (view t) ≡ true
well_view t w =
    let f = facts t w in
    let b = f.bounds in
    let n : length (view t).paths ≡ t.count = paths_long t (tidy t w) in
    ap₂ ◌&&◌
    (ap₂ ◌&&◌
    (ap₂ ◌&&◌ (le-leb 1 t.max_paths b.limit_least)
    (ap₂ ◌&&◌ (le-leb t.max_paths max_paths_limit b.limit_most)
    (ap₂ ◌&&◌ (le-leb 1 (length (view t).paths) (omega (arith, b.some)))
    (ap₂ ◌&&◌ (le-leb (length (view t).paths) t.max_paths (omega (arith, b.few))) yes))))
    (paths_well (live t) f.each))
    (apart_view (live t) ∙ f.distinct)

pub well_of_table : (v : Table) → W.well v ≡ true → well_formed (paths_of v) ≡ true
well_of_table v e =
    let a = and_both _ (pairwise W.apart v.paths) e in
    let d = and_both (every (W.bounds v.limit (length v.paths))) (all W.path_formed_of v.paths) a.0 in
    let b = every_each (W.bounds v.limit (length v.paths)) d.0 in
    let most : v.limit ≤ max_paths_limit = leb-true v.limit max_paths_limit b.1.0 in
    let few : length v.paths ≤ v.limit = leb-true (length v.paths) v.limit b.1.1.1.0 in
    let k = tidy_of v (omega arith) (paths_formed v.paths d.1) in
    well_of (paths_of v)
    (record {
      bounds = record { limit_least = leb-true 1 v.limit b.0; limit_most = most; some = leb-true 1 (length v.paths) b.1.1.0; few = few };
      each = k.each;
      distinct = ap (pairwise F.apart) (live_of v) ∙ apart_of v.paths ∙ a.1;
      held = k.held;
    })

-- ---- what a call does is what the rules' `apply` does

pub applies : (t : Paths) → well_formed t ≡ true → (c : Call) → call_formed c ≡ true → step (view t) c ≡ apply (view t) c
applies t w c f = sym (ap₂ (λ (a b : Bool). cond (a && b) (step (view t) c) (refused 1 (view t))) (well_view t w) f)

pub ping_formed : (has : Bool) (p : FourTuple) → optional_pair has p ≡ true → call_formed (Ping (given has p)) ≡ true
ping_formed true p e = e
ping_formed false p e = refl
