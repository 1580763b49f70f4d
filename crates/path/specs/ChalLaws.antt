-- The challenges of a path: received, due, and what a response matches.
use Rattle.std.specs.Prelude.{ℕ, ◌-◌, max, ◌≡◌, refl, List, [], ◌∷◌, ◌++◌, map, Bool, true, false, cond, not, ◌&&◌, ◌||◌, eqb, leb, length, drop}
use Rattle.std.proofs.Common.{sym, ap, ap₂, ◌∙◌, arith, eq-eqb, ne_eqb}
use Rattle.std.proofs.lemmas.Bool.{not-true, not-false}
use Rattle.lists.specs.Defs.{any, keep}
use Rattle.values.specs.Limits.{min_client_initial_len}
use Rattle.challenges.specs.Challenges.{ReceivedWell, SentWell, waiting, standing, received_of, sent_of, spans_of}
use Rattle.challenges.specs.Challenges as C
use Rattle.challenges.specs.Laws.{keep_view, picked_view}
use Rattle.challenges.specs.declared.received.Received.{Received}
use Rattle.challenges.specs.declared.sent.Sent.{Sent}
use Rattle.challenges.specs.declared.matches.Matches.{Matches}
use Rattle.challenges.specs.declared.matches.Spans.{Spans}
use Rattle.challenges.specs.declared.sent.Challenge as CS
use Rattle.paths_state.specs.Formed.{path_formed_of}
use Rattle.paths_state.specs.Laws.{path_facts}
use Rattle.paths_state.specs.declared.state.Path as S
use Rattle.paths_rules.specs.State.{Challenge}
use Rattle.paths_rules.specs.With.{with_ask, with_sent, with_active_of}
use Rattle.paths_rules.specs.Path.{pop, receive, last_size, matching, unmatched, carries, matches, heeds, spans, largest_after, validated, validates, matched, respond, reached, promote, rank_validated, rank_validating_mtu}
use Rattle.paths_rules.proofs.Steps.{heeds_is, deaf}
use Rattle.path.specs.Reading.{chal_view, chal_of, path_view, path_of}
use Rattle.path.specs.ReadingLaws.{chals_is}
use Rattle.path.specs.FieldLaws.{back}
use Rattle.path.specs.Puts.{put_received, put_heard, put_reached, put_probed}

last_view : (z : ℕ) (l : List CS.Challenge) → last_size z (map chal_view l) ≡ C.last_size z l
last_view z [] = refl
last_view z (c ∷ l) = last_view c.size l

match_view : (d : ℕ) (l : List CS.Challenge) → matching d (map chal_view l) ≡ map chal_view (C.matching d l)
match_view d l = keep_view chal_view (carries d) (C.carries d) (λ x. refl) l

-- one matches, in the state and in the rules
pub any_view : (d : ℕ) (l : List CS.Challenge) → any (carries d) (map chal_view l) ≡ any (C.carries d) l
any_view d [] = refl
any_view d (c ∷ l) = ap (λ (b : Bool). C.carries d c || b) (any_view d l)

-- the state of those that are left
left_back : (d : ℕ) (l : List CS.Challenge) → map chal_of (unmatched d (map chal_view l)) ≡ C.unmatched d l
left_back d l = ap (map chal_of) (keep_view chal_view (λ (c : Challenge). not (carries d c)) (C.differs d) (λ x. refl) l) ∙ chals_is (C.unmatched d l)

module _ (x : S.Path) (w : path_formed_of x ≡ true) where
  pub received_held : ReceivedWell x.recv_chals
  received_held = (path_facts x w).received

  pub sent_held : SentWell x.sent_chals
  sent_held = (path_facts x w).sent

  pub pop_is : (q : Received) → q ≡ received_of (drop 1 (waiting x.recv_chals)) → put_received q x ≡ path_of (pop (path_view x))
  pop_is q e = ap₂ put_received e (back x w)

  pub receive_is : (d : ℕ) (q : Received) → q ≡ received_of (C.roomed (waiting x.recv_chals) ++ (d ∷ [])) → put_heard q x ≡ path_of (receive d (path_view x))
  receive_is d q e = ap₂ put_heard e (back x w)

  -- ---- a response

  module _ (d : ℕ) (multi : Bool) where
    abbrev respond_at : Bool → Bool → S.Path
    respond_at a b =
        path_of
        (cond a (cond b (with_sent [] (with_active_of multi (promote rank_validated (reached d (path_view x))))) (with_ask true (reached d (path_view x))))
        (path_view x))

    pub respond_none : heeds d (path_view x) ≡ false → x ≡ path_of (respond d multi (path_view x))
    respond_none t = back x w ∙ sym (ap (λ (a : Bool). respond_at a (leb min_client_initial_len (largest_after d (path_view x)))) t)

    module _ (t : heeds d (path_view x) ≡ true) (n r : ℕ) (e : n ≡ largest_after d (path_view x)) (f : r ≡ max x.state rank_validating_mtu) where
      pub respond_big : (s : Sent) (k : ℕ) → s ≡ sent_of [] → k ≡ max r 4 → leb min_client_initial_len n ≡ true → put_reached s n multi k x ≡ path_of (respond d multi (path_view x))
      respond_big s k g h b =
          (λ i. put_reached (g i) (e i) multi ((h ∙ ap (λ (m : ℕ). max m 4) f) i) (back x w i))
          ∙ sym (ap₂ respond_at t (ap (leb min_client_initial_len) (sym e) ∙ b))

      pub respond_small : (s : Sent) → s ≡ sent_of (C.unmatched d (standing x.sent_chals)) → leb min_client_initial_len n ≡ false → put_probed s n r x ≡ path_of (respond d multi (path_view x))
      respond_small s g b =
          (λ i. put_probed ((g ∙ sym (ap sent_of (left_back d (standing x.sent_chals)))) i) (e i) (f i) (back x w i))
          ∙ sym (ap₂ respond_at t (ap (leb min_client_initial_len) (sym e) ∙ b))

-- none passes exactly if none is kept
kept_any : {A B : Type 0} (p : A → Bool) (f : A → B) (l : List A) → eqb (length (map f (keep p l))) 0 ≡ not (any p l)
kept_any p f [] = refl
kept_any p f (x ∷ l) = test (p x) (kept_any p f l)
  where
    test : (b : Bool) → eqb (length (map f (keep p l))) 0 ≡ not (any p l) → eqb (length (map f (cond b (x ∷ keep p l) (keep p l)))) 0 ≡ not (b || any p l)
    test true e = ne_eqb (length (map f (x ∷ keep p l))) 0 (λ z. omega arith)
    test false e = e

module _ (x : S.Path) (d : ℕ) where
  pub validated_deaf : validated (path_view x) ≡ true → heeds d (path_view x) ≡ false
  validated_deaf t = ap (λ (b : Bool). not b && matches d (path_view x)) t

  abbrev validates_at : Bool → Bool
  validates_at b = b && leb min_client_initial_len (largest_after d (path_view x))

  pub validates_none : heeds d (path_view x) ≡ false → false ≡ validates d (path_view x)
  validates_none t = sym (ap validates_at t)

  pub validates_is : heeds d (path_view x) ≡ true → (n : ℕ) → n ≡ largest_after d (path_view x) → leb min_client_initial_len n ≡ validates d (path_view x)
  validates_is t n e = ap (leb min_client_initial_len) e ∙ sym (ap validates_at t)

  module _ (now : ℕ) where
    abbrev matched_at : Bool → Spans
    matched_at b = spans_of (cond b (spans d now (path_view x)) [])

    pub matched_none : heeds d (path_view x) ≡ false → spans_of [] ≡ spans_of (matched d now (path_view x))
    matched_none t = sym (ap matched_at t)

    -- what is found among the challenges that stand
    module _ (r : Matches) (e : r ≡ record { spans = spans_of (C.spans d now (standing x.sent_chals)); size = C.last_size 0 (C.matching d (standing x.sent_chals)) }) where
      -- whether one is
      found : eqb r.spans.count 0 ≡ not (matches d (path_view x))
      found =
          ap (λ (m : Matches). eqb m.spans.count 0) e ∙ kept_any (C.carries d) (C.span_to now) (standing x.sent_chals)
          ∙ sym (ap not (any_view d (standing x.sent_chals)))

      pub found_heeded : validated (path_view x) ≡ false → (r.spans.count ≡ 0 → ⊥) → heeds d (path_view x) ≡ true
      found_heeded t k = heeds_is d (path_view x) t ∙ not-false (matches d (path_view x)) (sym found ∙ ne_eqb r.spans.count 0 k)

      module _ (k : r.spans.count ≡ 0) where
        pub found_deaf : heeds d (path_view x) ≡ false
        found_deaf = deaf d (path_view x) (not-true (matches d (path_view x)) (sym found ∙ eq-eqb r.spans.count 0 k))

        pub found_none : r.spans ≡ spans_of []
        found_none = ap (λ (m : Matches). m.spans) e ∙ ap spans_of (none (C.spans d now (standing x.sent_chals)) (sym (ap (λ (m : Matches). m.spans.count) e) ∙ k))
          where
            none : (l : List ℕ) → length l ≡ 0 → l ≡ []
            none [] k = refl
            none (y ∷ l) k = absurd (omega arith)

      pub largest_is : max x.max_challenge_size r.size ≡ largest_after d (path_view x)
      largest_is =
          ap (λ (m : Matches). max x.max_challenge_size m.size) e
          ∙ ap (max x.max_challenge_size) (sym (last_view 0 (C.matching d (standing x.sent_chals))) ∙ sym (ap (last_size 0) (match_view d (standing x.sent_chals))))

      pub matched_is : heeds d (path_view x) ≡ true → r.spans ≡ spans_of (matched d now (path_view x))
      matched_is t =
          ap (λ (m : Matches). m.spans) e
          ∙ ap spans_of (sym (picked_view chal_view (carries d) (C.carries d) (λ c. refl) (λ (c : Challenge). now - c.sent) (C.span_to now) (λ c. refl) (standing x.sent_chals)))
          ∙ sym (ap matched_at t)
