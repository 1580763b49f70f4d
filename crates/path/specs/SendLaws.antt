-- A challenge is sent: when it is refused, and what it makes of the state.
use Rattle.std.specs.Prelude.{ℕ, ◌≤◌, ◌<◌, max, ◌≡◌, refl, List, [], ◌∷◌, ◌++◌, map, Bool, true, false, cond, ◌||◌, leb, ltb, length}
use Rattle.std.proofs.Common.{sym, ap, ap₂, ◌∙◌, arith, lt-ltb, le-ltb, le-leb, ltb-false, leb-false}
use Rattle.std.proofs.lemmas.List.{length-map}
use Rattle.std.proofs.lemmas.Bool.{lt-leb}
use Rattle.values.specs.Limits.{max_shift, max_moment, max_path_chals_sent}
use Rattle.values.specs.declared.time.Moment.{Moment}
use Rattle.challenges.specs.Challenges.{standing, sent_of}
use Rattle.challenges.specs.Laws.{standing_long}
use Rattle.challenges.specs.declared.sent.Sent.{Sent}
use Rattle.challenges.specs.declared.sent.Challenge as CS
use Rattle.paths_state.specs.Formed.{path_formed_of}
use Rattle.paths_state.specs.Laws.{path_facts}
use Rattle.paths_state.specs.declared.state.Path as S
use Rattle.paths_rules.specs.State.{Path, Challenge}
use Rattle.paths_rules.specs.Path.{rank_validating, loss_time, challenge, send}
use Rattle.path.specs.Reading.{chal_view, chal_of, path_view, path_of}
use Rattle.path.specs.FieldLaws.{back}
use Rattle.path.specs.Puts.{put_sent}

abbrev refusal_at : Bool → Bool → Bool → ℕ
refusal_at a b c = cond (a || b) 8 (cond c 6 0)

-- 8: the lost count above 32, or the deadline past 2^63-1; 6: sixteen challenges stand
abbrev pub refusal : ℕ → Path → ℕ
refusal now v = cond (ltb max_shift v.lost || ltb max_moment (loss_time now v.lost)) 8 (cond (leb max_path_chals_sent (length v.sent)) 6 0)

none_at : (a b c : Bool) → refusal_at a b c ≡ 0 → (a ≡ false) × (b ≡ false) × (c ≡ false)
none_at false false false e = (refl, refl, refl)
none_at false false true e = absurd (omega (arith, e))
none_at false true c e = absurd (omega (arith, e))
none_at true b c e = absurd (omega (arith, e))

abbrev pub stamped : ℕ → ℕ → ℕ → Moment → CS.Challenge
stamped d size now due = record { «data» = d; size = size; sent = record { us = now }; deadline = due }

snoc_back : (c : Challenge) (l : List CS.Challenge) → map chal_of (map chal_view l ++ (c ∷ [])) ≡ l ++ (chal_of c ∷ [])
snoc_back c [] = refl
snoc_back c (y ∷ l) = ap (λ (r : List CS.Challenge). y ∷ r) (snoc_back c l)

module _ (x : S.Path) (w : path_formed_of x ≡ true) where
  sent_count : length (path_view x).sent ≡ x.sent_chals.count
  sent_count = length-map (standing x.sent_chals) chal_view ∙ standing_long x.sent_chals (path_facts x w).sent

  module _ (now : ℕ) where
    abbrev lost_test : Bool
    lost_test = ltb max_shift x.lost_chal

    abbrev time_test : Bool
    time_test = ltb max_moment (loss_time now x.lost_chal)

    abbrev full_test : Bool
    full_test = leb max_path_chals_sent (length (path_view x).sent)

    pub refuse_lost : max_shift < x.lost_chal → 8 ≡ refusal now (path_view x)
    refuse_lost h = sym (ap (λ (a : Bool). refusal_at a time_test full_test) (lt-ltb max_shift x.lost_chal h))

    module _ (h : x.lost_chal ≤ max_shift) where
      pub refuse_time : max_moment < loss_time now x.lost_chal → 8 ≡ refusal now (path_view x)
      refuse_time k = sym (ap₂ (λ (a b : Bool). refusal_at a b full_test) (le-ltb max_shift x.lost_chal h) (lt-ltb max_moment (loss_time now x.lost_chal) k))

      module _ (k : loss_time now x.lost_chal ≤ max_moment) where
        in_time_lem : refusal now (path_view x) ≡ refusal_at false false full_test
        in_time_lem = ap₂ (λ (a b : Bool). refusal_at a b full_test) (le-ltb max_shift x.lost_chal h) (le-ltb max_moment (loss_time now x.lost_chal) k)

        pub refuse_none : x.sent_chals.count < max_path_chals_sent → 0 ≡ refusal now (path_view x)
        refuse_none f = sym (in_time_lem ∙ ap (refusal_at false false) (lt-leb max_path_chals_sent (length (path_view x).sent) (omega (arith, sent_count))))

    -- there is a deadline, and no place
    pub refuse_full : x.lost_chal ≤ max_shift → loss_time now x.lost_chal ≤ max_moment → max_path_chals_sent ≤ x.sent_chals.count → refusal now (path_view x) ≡ 6
    refuse_full h k f =
        ap₂ (λ (a b : Bool). refusal_at a b full_test) (le-ltb max_shift x.lost_chal h) (le-ltb max_moment (loss_time now x.lost_chal) k)
        ∙ ap (refusal_at false false) (le-leb max_path_chals_sent (length (path_view x).sent) (omega (arith, sent_count)))

    -- what a challenge that is not refused has: a deadline, and a place
    module _ (e : refusal now (path_view x) ≡ 0) where
      pub send_lost : x.lost_chal ≤ max_shift
      send_lost = ltb-false max_shift x.lost_chal (none_at lost_test time_test full_test e).0

      pub send_time : loss_time now x.lost_chal ≤ max_moment
      send_time = ltb-false max_moment (loss_time now x.lost_chal) (none_at lost_test time_test full_test e).1

      pub send_room : x.sent_chals.count < max_path_chals_sent
      send_room = omega (arith, sent_count, leb-false max_path_chals_sent (length (path_view x).sent) (none_at lost_test time_test full_test e).2)

    -- it goes to the end; `due` is its deadline
    pub send_is : (d size r : ℕ) (due : Moment) (s : Sent) → due ≡ record { us = loss_time now x.lost_chal } → s ≡ sent_of (standing x.sent_chals ++ (stamped d size now due ∷ [])) → r ≡ max x.state rank_validating
        → put_sent s r x ≡ path_of (send d size now (path_view x))
    send_is d size r due s g e f =
        let y = challenge d size now x.lost_chal in
        let l = standing x.sent_chals in
        λ i. put_sent ((e ∙ ap (λ (m : Moment). sent_of (l ++ (stamped d size now m ∷ []))) g ∙ sym (ap sent_of (snoc_back y l))) i) (f i) (back x w i)
