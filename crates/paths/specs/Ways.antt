-- The ways through the definitions of insert_path, mark_ping and get_active, as the code makes them.
use Rattle.std.specs.Prelude.{Some, None, ◌<◌, ◌≤◌, ℕ, ◌≡◌, refl, Bool, cond, false, true, get_or, length}
use Rattle.std.proofs.Common.{◌∙◌, ap, ap₂, sym, arith, le-ltb, lt-ltb}
use Rattle.std.proofs.Math.Option.{Option, none, some}
use Rattle.lists.specs.Defs.{first_with, given, optional}
use Rattle.lists.specs.Search.{first_below}
use Rattle.values.specs.declared.address.FourTuple.{FourTuple}
use Rattle.paths_rules.specs.State.{Path}
use Rattle.paths_rules.specs.Path.{flagged, listed_as, unused}
use Rattle.paths_rules.specs.Table.{Inserted, Out, accepted, appended, evict, insert, ping, ping_at, ping_on, replaced}
use Rattle.paths_rules.specs.Calls.{active_out, step, Ask, GetActive}
use Rattle.paths_state.specs.Formed.{well_formed, zero_path}
use Rattle.paths_state.specs.declared.state.Paths.{Paths}
use Rattle.paths.specs.Reading.{done_at, done_of, found_of, inserted_at, inserted_of, paths_of, view}
use Rattle.paths.specs.ReadingLaws.{path_at_is, paths_long, tidy, view_is}
use Rattle.paths.specs.declared.answers.FoundAnswer.{FoundAnswer}
use Rattle.paths_state.specs.declared.state.Path as S

-- ---- what a search gave

some_is : (o : Option ℕ) (i : ℕ) → Some i ≡ optional o → o ≡ some i
some_is none i e = let z : ◌≡◌ {A = ℕ} 0 1 = cc in absurd (omega arith)
some_is (some j) i e = let q : j ≡ i = cc in ap some q

none_is : (o : Option ℕ) → None ≡ optional o → o ≡ none
none_is none e = refl
none_is (some j) e = let z : ◌≡◌ {A = ℕ} 0 1 = cc in absurd (omega arith)

-- what was tested chooses
pub tested : {A : Type 0} (x y : A) (ok v : Bool) → ok ≡ v → cond v x y ≡ cond ok x y
tested x y ok v e = sym (ap (λ (b : Bool). cond b x y) e)

abbrev found_answer : ℕ → S.Path → FoundAnswer
found_answer i x = record { refusal = 0; id = i; path = x }

module _ (t : Paths) (w : well_formed t ≡ true) where
  place_below : (p : Path → Bool) (i : ℕ) → Some i ≡ optional (first_with p (view t).paths) → i < t.count
  place_below p i e = omega (arith, first_below p (view t).paths i (some_is (first_with p (view t).paths) i e), paths_long t (tidy t w))

  -- ---- insertion

  module _ (a : FourTuple) (m : ℕ) where
    abbrev insert_at : Bool → Option ℕ → Out
    insert_at b o = cond b (accepted (Inserted (length (view t).paths)) (appended a m (view t))) (evict o a m (view t))

    pub insert_below : t.count < t.max_paths → (u : Paths) → u ≡ paths_of (appended a m (view t)) → inserted_at 0 t.count u ≡ inserted_of (insert a m (view t))
    insert_below h u e =
        ap₂ (inserted_at 0) (sym (paths_long t (tidy t w))) e
        ∙ sym (ap (λ (b : Bool). inserted_of (insert_at b (first_with unused (view t).paths))) (lt-ltb (length (view t).paths) t.max_paths (omega (arith, paths_long t (tidy t w)))))

    module _ (h : t.max_paths ≤ t.count) where
      at_limit_lem : insert a m (view t) ≡ evict (first_with unused (view t).paths) a m (view t)
      at_limit_lem = ap (λ (b : Bool). insert_at b (first_with unused (view t).paths)) (le-ltb (length (view t).paths) t.max_paths (omega (arith, paths_long t (tidy t w))))

      pub insert_evicts : (i : ℕ) → Some i ≡ optional (first_with unused (view t).paths) → (u : Paths) → u ≡ paths_of (replaced i a m (view t)) → inserted_at 0 i u ≡ inserted_of (insert a m (view t))
      insert_evicts i e u q =
          ap (inserted_at 0 i) q
          ∙ sym (ap inserted_of (at_limit_lem ∙ ap (λ (o : Option ℕ). evict o a m (view t)) (some_is (first_with unused (view t).paths) i e)))

      pub insert_none : None ≡ optional (first_with unused (view t).paths) → inserted_at 5 0 t ≡ inserted_of (insert a m (view t))
      insert_none e =
          ap (inserted_at 5 0) (sym (view_is t (tidy t w)))
          ∙ sym (ap inserted_of (at_limit_lem ∙ ap (λ (o : Option ℕ). evict o a m (view t)) (none_is (first_with unused (view t).paths) e)))

  -- ---- pings

  module _ (has : Bool) (a : FourTuple) where
    pub ping_none : t.is_multipath ≡ false → None ≡ optional (first_with flagged (view t).paths) → done_at 2 t ≡ done_of (ping (given has a) (view t))
    ping_none m e =
        ap (done_at 2) (sym (view_is t (tidy t w)))
        ∙ sym (ap₂ (λ (b : Bool) (o : Option ℕ). done_of (cond b (ping_on (given has a) (view t)) (ping_at 2 o (view t)))) m (none_is (first_with flagged (view t).paths) e))

    pub ping_unlisted : t.is_multipath ≡ true → has ≡ true → None ≡ optional (first_with (listed_as a) (view t).paths) → done_at 0 t ≡ done_of (ping (given has a) (view t))
    ping_unlisted m h e =
        ap (done_at 0) (sym (view_is t (tidy t w)))
        ∙ sym (ap (λ (o : Option ℕ). done_of (ping_at 0 o (view t))) (none_is (first_with (listed_as a) (view t).paths) e))
        ∙ sym (ap₂ (λ (b d : Bool). done_of (cond b (ping_on (given d a) (view t)) (ping_at 2 (first_with flagged (view t).paths) (view t)))) m h)

  -- ---- the path with the active flag

  pub active_0 : (i : ℕ) → Some i ≡ optional (first_with flagged (view t).paths) → (x : S.Path) → x ≡ get_or t.items i zero_path
      → found_answer i x ≡ found_of (step (view t) (Ask GetActive))
  active_0 i e x q =
      ap (λ (y : S.Path). found_answer i y) (q ∙ path_at_is t (tidy t w) zero_path i (place_below flagged i e))
      ∙ sym (ap (λ (o : Option ℕ). found_of (active_out o (view t))) (some_is (first_with flagged (view t).paths) i e))
