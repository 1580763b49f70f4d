-- Challenges are lost, one after the other.
use Rattle.std.specs.Prelude.{ℕ, ◌+◌, ◌≤◌, ◌<◌, ◌≡◌, refl, List, [], ◌∷◌, map, Bool, true, false, cond, ◌&&◌, leb, ltb, length, drop}
use Rattle.std.proofs.Common.{sym, ap, subst, ◌∙◌, arith, not-suc-le-zero, ltb-true}
use Rattle.std.proofs.lemmas.List.{length-map}
use Rattle.values.specs.Limits.{max_lost, max_path_chals_sent, max_probing_timeouts}
use Rattle.challenges.specs.Challenges.{SentWell, standing}
use Rattle.challenges.specs.Laws.{sent_at, standing_long}
use Rattle.paths_state.specs.Formed.{path_formed_of}
use Rattle.paths_state.specs.Laws.{path_facts}
use Rattle.paths_state.specs.declared.state.Path as S
use Rattle.paths_rules.specs.State.{Path, Challenge}
use Rattle.paths_rules.specs.With.{with_ask, with_lost, with_sent}
use Rattle.paths_rules.specs.Path.{expire, failed, probing, timeout}
use Rattle.path.specs.Reading.{chal_view, chal_of, path_view, path_of}
use Rattle.path.specs.ReadingLaws.{path_of_lem}
use Rattle.path.specs.FieldLaws.{back}

-- the front deadline is passed
abbrev pub late : ℕ → List Challenge → Bool
late now [] = false
late now (c ∷ cs) = leb c.deadline now

-- a timeout changes the path
abbrev pub expires : ℕ → Path → Bool
expires now v = probing v && late now v.sent

-- the front one goes: another is asked for, or the path fails
abbrev pub lose_front : Path → Path
lose_front v = cond (ltb (v.lost + 1) max_probing_timeouts) (with_ask true (with_lost (v.lost + 1) (with_sent (drop 1 v.sent) v))) (failed (with_lost (v.lost + 1) v))

-- a state that is the one of its path
pub record Known (x : S.Path) : Type 0 where
  pub is : x ≡ path_of (path_view x)
  pub well : SentWell x.sent_chals

pub known_of : (x : S.Path) → path_formed_of x ≡ true → Known x
known_of x w = record { is = back x w; well = (path_facts x w).sent }

-- ---- one after the other

-- what stands in the path itself does not matter
expire_sent : (now : ℕ) (l m : List Challenge) (v : Path) → expire now l (with_sent m v) ≡ expire now l v
expire_sent now [] m v = refl
expire_sent now (c ∷ l) m v = go (leb c.deadline now) (ltb (v.lost + 1) max_probing_timeouts) (expire_sent now l m (with_ask true (with_lost (v.lost + 1) v)))
  where
    go : (a b : Bool) → expire now l (with_sent m (with_ask true (with_lost (v.lost + 1) v))) ≡ expire now l (with_ask true (with_lost (v.lost + 1) v))
        → cond a (cond b (expire now l (with_ask true (with_lost (v.lost + 1) (with_sent m v)))) (failed (with_lost (v.lost + 1) (with_sent m v)))) (with_sent (c ∷ l) (with_sent m v))
        ≡ cond a (cond b (expire now l (with_ask true (with_lost (v.lost + 1) v))) (failed (with_lost (v.lost + 1) v))) (with_sent (c ∷ l) v)
    go true true e = e
    go true false e = refl
    go false b e = refl

module _ (now : ℕ) (v : Path) where
  abbrev gone : Bool → List Challenge → Path
  gone b l = cond b (with_ask true (with_lost (v.lost + 1) (with_sent (drop 1 l) v))) (failed (with_lost (v.lost + 1) v))

  -- the front one goes, and the rest is as before
  pub expire_front : late now v.sent ≡ true → expire now (lose_front v).sent (lose_front v) ≡ expire now v.sent v
  expire_front t = go v.sent t
    where
      two : (c : Challenge) (l : List Challenge) (a b : Bool) → a ≡ true
          → expire now (gone b (c ∷ l)).sent (gone b (c ∷ l))
          ≡ cond a (cond b (expire now l (with_ask true (with_lost (v.lost + 1) v))) (failed (with_lost (v.lost + 1) v))) (with_sent (c ∷ l) v)
      two c l true true e = expire_sent now l l (with_ask true (with_lost (v.lost + 1) v))
      two c l true false e = refl
      two c l false b e = let z : ◌≡◌ {A = ℕ} 0 1 = cc in absurd (omega arith)

      go : (l : List Challenge) → late now l ≡ true → expire now (gone (ltb (v.lost + 1) max_probing_timeouts) l).sent (gone (ltb (v.lost + 1) max_probing_timeouts) l) ≡ expire now l v
      go [] e = let z : ◌≡◌ {A = ℕ} 0 1 = cc in absurd (omega arith)
      go (c ∷ l) e = two c l (leb c.deadline now) (ltb (v.lost + 1) max_probing_timeouts) e

  -- none is late: done
  pub expire_done : late now v.sent ≡ false → expire now v.sent v ≡ v
  expire_done t = go v.sent refl t
    where
      go : (l : List Challenge) → v.sent ≡ l → late now l ≡ false → expire now l v ≡ v
      go [] e f = ap (λ (m : List Challenge). with_sent m v) (sym e)
      go (c ∷ l) e f =
          ap (λ (b : Bool). cond b (cond (ltb (v.lost + 1) max_probing_timeouts) (expire now l (with_ask true (with_lost (v.lost + 1) v))) (failed (with_lost (v.lost + 1) v))) (with_sent (c ∷ l) v)) f
          ∙ ap (λ (m : List Challenge). with_sent m v) (sym e)

  pub fewer : late now v.sent ≡ true → length (lose_front v).sent < length v.sent
  fewer t = go v.sent (ltb (v.lost + 1) max_probing_timeouts) t
    where
      go : (l : List Challenge) (b : Bool) → late now l ≡ true → length (gone b l).sent < length l
      go [] b e = let z : ◌≡◌ {A = ℕ} 0 1 = cc in absurd (omega arith)
      go (c ∷ l) true e = omega arith
      go (c ∷ l) false e = omega arith

  pub few_lost : 0 < length (lose_front v).sent → (lose_front v).lost ≤ max_lost
  few_lost h = go (ltb (v.lost + 1) max_probing_timeouts) refl h
    where
      go : (b : Bool) → ltb (v.lost + 1) max_probing_timeouts ≡ b → 0 < length (gone b v.sent).sent → (gone b v.sent).lost ≤ max_lost
      go true e k = omega (arith, ltb-true (v.lost + 1) max_probing_timeouts e)
      go false e k = absurd (not-suc-le-zero k)

  pub late_some : late now v.sent ≡ true → 0 < length v.sent
  late_some t = omega (arith, fewer t)

  -- p says whether the path is probing
  pub expire_stays : (p : Bool) → (p && late now v.sent) ≡ false → cond p (expire now v.sent v) v ≡ v
  expire_stays true t = expire_done t
  expire_stays false t = refl

-- ---- the loop

-- x as it was at first, and u as it is: what is left to expire is the same
pub record Going (now : ℕ) (x u : S.Path) : Type 0 where
  pub known : Known u
  pub few : length (path_view u).sent ≤ max_path_chals_sent
  pub low : 0 < length (path_view u).sent → u.lost_chal ≤ max_lost
  pub same : expire now (path_view u).sent (path_view u) ≡ expire now (path_view x).sent (path_view x)

module _ (now : ℕ) (x : S.Path) where
  pub going_first : path_formed_of x ≡ true → Going now x x
  going_first w =
      let f = path_facts x w in
      let n = length-map (standing x.sent_chals) chal_view ∙ standing_long x.sent_chals f.sent in
      record { known = known_of x w; few = omega (arith, n, f.sent.few); low = λ h. f.lost_most; same = refl }

  module _ (u : S.Path) (g : Going now x u) where
    pub going_lost : late now (path_view u).sent ≡ true → u.lost_chal ≤ max_lost
    going_lost t = g.low (late_some now (path_view u) t)

    module _ (t : late now (path_view u).sent ≡ true) (y : S.Path) (e : y ≡ path_of (lose_front (path_view u))) where
      view_next : path_view y ≡ lose_front (path_view u)
      view_next = ap path_view e ∙ path_of_lem (lose_front (path_view u))

      next_few : length (lose_front (path_view u)).sent ≤ max_path_chals_sent
      next_few = omega (arith, fewer now (path_view u) t, g.few)

      next_well : SentWell y.sent_chals
      next_well =
          sent_at (map chal_of (lose_front (path_view u)).sent) y.sent_chals (ap (λ (z : S.Path). z.sent_chals) e)
          (omega (arith, length-map (lose_front (path_view u)).sent chal_of, next_few))

      pub going_less : length (path_view y).sent < length (path_view u).sent
      going_less = subst (λ (v : Path). length v.sent < length (path_view u).sent) (sym view_next) (fewer now (path_view u) t)

      pub going_next : Going now x y
      going_next =
          record {
            known = record { is = e ∙ ap path_of (sym view_next); well = next_well };
            few = subst (λ (v : Path). length v.sent ≤ max_path_chals_sent) (sym view_next) next_few;
            low = subst (λ (v : Path). 0 < length v.sent → v.lost ≤ max_lost) (sym view_next) (few_lost now (path_view u));
            same = ap (λ (v : Path). expire now v.sent v) view_next ∙ expire_front now (path_view u) t ∙ g.same;
          }

    pub going_done : probing (path_view x) ≡ true → late now (path_view u).sent ≡ false → u ≡ path_of (timeout now (path_view x))
    going_done p t =
        g.known.is
        ∙ ap path_of (sym (expire_done now (path_view u) t) ∙ g.same ∙ sym (ap (λ (b : Bool). cond b (expire now (path_view x).sent (path_view x)) (path_view x)) p))

  -- a path that is not overdue stays as it is
  pub timeout_stays : path_formed_of x ≡ true → expires now (path_view x) ≡ false → path_of (timeout now (path_view x)) ≡ x
  timeout_stays w t = ap path_of (expire_stays now (path_view x) (probing (path_view x)) t) ∙ sym (back x w)
