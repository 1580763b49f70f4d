-- How the calls on one path follow from the path that was found, and from the change of it.
use Rattle.std.specs.Prelude.{Option as Optional, Result, Ok, Err, MatchResult, ℕ, ◌<◌, ◌≡◌, refl, List, [], Bool, true, false, not, cond, eqb, set, get_or}
use Rattle.std.specs.Bool.{then_some}
use Rattle.std.proofs.Common.{sym, ap, ap₂, ◌∙◌, arith}
use Rattle.std.proofs.Math.Option.{Option, none, some}
use Rattle.std.proofs.lemmas.List.{set-get_or}
use Rattle.lists.specs.Defs.{front, given, optional}
use Rattle.challenges.specs.Challenges.{spans_of}
use Rattle.values.specs.Answers.{numbered_at}
use Rattle.values.specs.Results.{numbered_of}
use Rattle.values.specs.declared.answers.Numbered.{Numbered}
use Rattle.values.specs.declared.refusals.Refusal.{Refusal}
use Rattle.values.specs.declared.refusals.Refusal.TheVariants.{Malformed, InternalError, ConnectionIdLimitError, ProtocolViolation, Done as RefusalDone, NoSlot, Spent, FarDeadline}
use Rattle.values.specs.Limits.{max_paths_limit}
use Rattle.values.specs.Refusals.{number}
use Rattle.paths_rules.specs.Calls.{refusal, Act, effect, unless_known, Pop, Send, Respond, On}
use Rattle.paths_rules.specs.Path.{pop, send, respond, validates, matched}
use Rattle.paths_rules.specs.State.{Path}
use Rattle.paths_rules.specs.Table.{path_at, Responded}
use Rattle.paths_state.specs.Formed.{zero_path}
use Rattle.paths_state.specs.declared.state.Paths.{Paths}
use Rattle.path.specs.Reading.{option_view, path_view, path_of}
use Rattle.paths.specs.Reading.{view, put_paths, done_at, done_call, popped_call, responded_call}
use Rattle.paths.specs.ReadingLaws.{tidy}
use Rattle.paths.specs.Found.{Here, Missed, Unsent, missed, barred}
use Rattle.paths.specs.CallLaws.{excused_of, here_known, here_view, act_refused, acted, missed_is, excused_is, done_x, popped_x, responded_x}
use Rattle.paths.specs.Acts.{Stored, Puts}
use Rattle.paths.specs.Results.{responded_result}
use Rattle.challenges.specs.declared.matches.Spans.{Spans}
use Rattle.paths.specs.declared.answers.DoneOut.{DoneOut}
use Rattle.paths.specs.declared.answers.PathParts.{PathParts}
use Rattle.paths.specs.declared.answers.PoppedOut.{PoppedOut}
use Rattle.paths.specs.declared.answers.RespondedAnswer.{RespondedAnswer}
use Rattle.paths.specs.declared.answers.RespondedOut.{RespondedOut}
use Rattle.paths_state.specs.declared.state.Path as S
use Rattle.path.specs.SendLaws as N

-- a sequence that is given, or none
pub given_is : (b : Bool) (n : ℕ) → option_view (then_some b n) ≡ given b n
given_is true n = refl
given_is false n = refl

-- what a call leaves that changes nothing: the first path, as it stands
abbrev pub stands : Paths → ℕ → PathParts
stands t n = record { path = get_or t.items 0 zero_path; place = 0; answer = record { refusal = n } }

first_stands : (t : Paths) (d : S.Path) → put_paths (set t.items 0 (get_or t.items 0 d)) t.count t ≡ t
first_stands t d = ap (λ (l : List S.Path). put_paths l t.count t) (set-get_or t.items 0 d)

module _ (t : Paths) (f : Bool) (id : ℕ) (q : Act) (p : PathParts) where
  leaves : (n : ℕ) → p.place < max_paths_limit → p.answer ≡ record { refusal = n } → done_at n (put_paths (set t.items p.place p.path) t.count t) ≡ done_call t f (On id q)
      → Puts t p.path p.place p.answer (done_call t f (On id q))
  leaves n h a e = record { within = h; state = ap (λ (d : DoneOut). d.paths) e; answer = a ∙ ap (λ (d : DoneOut). d.answer) e }

  -- the path is changed, at its place
  puts_changed : {x : S.Path} → Here t f id x → refusal (view t) id q ≡ 0 → p.path ≡ path_of (effect (view t) q (path_view x)) → p.place ≡ id → p.answer ≡ record { refusal = 0 }
      → Puts t p.path p.place p.answer (done_call t f (On id q))
  puts_changed h r e i a =
      leaves 0 (omega (arith, i, h.below, (tidy t h.well).held.few)) a
      (ap (λ (k : ℕ). done_at 0 (put_paths (set t.items k p.path) t.count t)) i ∙ acted done_x t f id q h r p.path e)

  -- nothing changes
  puts_stands : (n : ℕ) → p ≡ stands t n → done_at n t ≡ done_call t f (On id q) → Puts t p.path p.place p.answer (done_call t f (On id q))
  puts_stands n e d =
      leaves n (let k = ap (λ (r : PathParts). r.place) e in omega (arith, k)) (ap (λ (r : PathParts). r.answer) e)
      (ap (λ (r : PathParts). done_at n (put_paths (set t.items r.place r.path) t.count t)) e ∙ ap (done_at n) (first_stands t zero_path) ∙ d)

  -- found: the path, or why it was not found; P: what is known of its change
  module _ {A : Type 0} (at : A → S.Path) (P : A → Type 0) (found : Result A Refusal) (c : (x : A) → P x → p.path ≡ path_of (effect (view t) q (path_view (at x)))) where
    abbrev Left : (ℕ → ℕ) → Result A Refusal → Type 0
    Left n r = MatchResult r (λ x. P x × (p.place ≡ id) × (p.answer ≡ record { refusal = 0 })) (λ e. p ≡ stands t (n (number e)))

    -- an unknown id is refused
    pub puts : MatchResult found (λ x. Here t f id (at x)) (Missed t f id) → Left (λ n. n) found → refusal (view t) id q ≡ unless_known id (view t)
        → Puts t p.path p.place p.answer (done_call t f (On id q))
    puts h l r = go found h l
      where
        go : (g : Result A Refusal) → MatchResult g (λ x. Here t f id (at x)) (Missed t f id) → Left (λ n. n) g → Puts t p.path p.place p.answer (done_call t f (On id q))
        go (Ok x) h l = puts_changed h (r ∙ ap (λ (b : Bool). cond b 0 2) (here_known h)) (c x l.0) l.1 l.2
        go (Err e) h l = puts_stands (number e) l (missed_is done_x t f id q e h (λ k. r ∙ ap (λ (b : Bool). cond b 0 2) k))

    -- an unknown id is accepted
    pub puts_excused : MatchResult found (λ x. Here t f id (at x)) (Missed t f id) → Left (λ n. cond (eqb n 2) 0 n) found → refusal (view t) id q ≡ 0
        → Puts t p.path p.place p.answer (done_call t f (On id q))
    puts_excused h l r = go found h l
      where
        go : (g : Result A Refusal) → MatchResult g (λ x. Here t f id (at x)) (Missed t f id) → Left (λ n. cond (eqb n 2) 0 n) g → Puts t p.path p.place p.answer (done_call t f (On id q))
        go (Ok x) h l = puts_changed h r (c x l.0) l.1 l.2
        go (Err e) h l = puts_stands (cond (eqb (number e) 2) 0 (number e)) l (excused_is done_x t f id q e h r (λ k. refl))

-- a challenge is sent
module _ (t : Paths) (f : Bool) (id d size now : ℕ) (p : PathParts) where
  abbrev q : Act
  q = Send d size now

  refused_by : {x : S.Path} → Here t f id x → refusal (view t) id q ≡ N.refusal now (path_view x)
  refused_by {x} h = ap₂ (λ (b : Bool) (v : Path). cond (not b) 2 (N.refusal now v)) (here_known h) (sym (here_view h))

  never_0 : (e : Refusal) → number e ≡ 0 → ⊥
  never_0 Malformed z = omega (arith, z)
  never_0 InternalError z = omega (arith, z)
  never_0 ConnectionIdLimitError z = omega (arith, z)
  never_0 ProtocolViolation z = omega (arith, z)
  never_0 RefusalDone z = omega (arith, z)
  never_0 NoSlot z = omega (arith, z)
  never_0 Spent z = omega (arith, z)
  never_0 FarDeadline z = omega (arith, z)

  module _ {A : Type 0} (at : A → S.Path) (L P : A → Type 0) (found : Result A Refusal) (c : (x : A) → P x → p.path ≡ path_of (send d size now (path_view (at x)))) where
    abbrev Sendable : Result A Refusal → Type 0
    Sendable r = MatchResult r (λ x. Here t f id (at x) × (N.refusal now (path_view (at x)) ≡ 0) × L x) (Unsent t f id now)

    abbrev LeftSent : Result A Refusal → Type 0
    LeftSent r = MatchResult r (λ x. P x × (p.place ≡ id) × (p.answer ≡ record { refusal = 0 })) (λ e. p ≡ stands t (number e))

    pub puts_sent : Sendable found → LeftSent found
        → Puts t p.path p.place p.answer (done_call t f (On id q))
    puts_sent h l = go found h l
      where
        unsent : (e : Refusal) → Unsent t f id now e → done_at (number e) t ≡ done_call t f (On id q)
        unsent e (missed m) = missed_is done_x t f id q e m (λ k. ap (λ (b : Bool). cond (not b) 2 (N.refusal now (path_at id (view t)))) k)
        unsent e (barred x h n) = act_refused done_x t f id q h.well h.args (number e) (refused_by h ∙ n) (never_0 e)

        go : (g : Result A Refusal) → Sendable g → LeftSent g → Puts t p.path p.place p.answer (done_call t f (On id q))
        go (Ok x) h l = puts_changed t f id q p h.0 (refused_by h.0 ∙ h.1) (c x l.0) l.1 l.2
        go (Err e) h l = puts_stands t f id q p (number e) l (unsent e h)

-- ---- the oldest challenge received is taken out

numbered_is : (o : Option ℕ) → numbered_of (Ok (optional o)) ≡ numbered_at 0 o
numbered_is none = refl
numbered_is (some n) = refl

module _ (t : Paths) (id : ℕ) (a : Numbered) where
  abbrev popped : PoppedOut
  popped = popped_call t true (On id Pop)

  pub puts_popped : {x : S.Path} → Here t true id x → (y : S.Path) → y ≡ path_of (pop (path_view x)) → (o : Optional ℕ) → o ≡ optional (front (path_view x).received) → a ≡ numbered_of (Ok o)
      → Stored t y id a popped.paths popped.answer
  puts_popped {x} h y ey o eo ea =
      let e = acted popped_x t true id Pop h (ap (λ (b : Bool). cond b 0 2) (here_known h)) y ey in
      record {
        within = omega (arith, h.below, (tidy t h.well).held.few);
        state = ap (λ (d : PoppedOut). d.paths) e;
        answer = ea ∙ ap (λ (r : Optional ℕ). numbered_of (Ok r)) eo ∙ numbered_is (front (path_view x).received) ∙ ap (λ (v : Path). numbered_at 0 (front v.received)) (here_view h) ∙ ap (λ (d : PoppedOut). d.answer) e;
      }

  pub puts_unpopped : (e : Refusal) → Missed t true id e → a ≡ numbered_of (Err e) → (z : S.Path) → Stored t (get_or t.items 0 z) 0 a popped.paths popped.answer
  puts_unpopped e m ea z =
      let k = missed_is popped_x t true id Pop e m (λ k. ap (λ (b : Bool). cond b 0 2) k) in
      record { within = omega arith; state = first_stands t z ∙ ap (λ (d : PoppedOut). d.paths) k; answer = ea ∙ ap (λ (d : PoppedOut). d.answer) k }

-- ---- a response came

module _ (t : Paths) (f : Bool) (id d now : ℕ) (a : RespondedAnswer) where
  abbrev responded : RespondedOut
  responded = responded_call t f (On id (Respond d now))

  pub puts_responded : {x : S.Path} → Here t f id x → (y : S.Path) → y ≡ path_of (respond d t.is_multipath (path_view x)) → a ≡ record { refusal = 0; yes = validates d (path_view x); spans = spans_of (matched d now (path_view x)) }
      → Stored t y id a responded.paths responded.answer
  puts_responded {x} h y ey ea =
      let e = acted responded_x t f id (Respond d now) h refl y ey in
      let at : Bool → Path → RespondedAnswer =
      λ k v. (responded_x 0 (cond k (Responded (validates d v) (matched d now v)) (Responded false [])) t).answer in
      record {
        within = omega (arith, h.below, (tidy t h.well).held.few);
        state = ap (λ (o : RespondedOut). o.paths) e;
        answer = ea ∙ ap (at true) (here_view h) ∙ sym (ap (λ (k : Bool). at k (path_at id (view t))) (here_known h)) ∙ ap (λ (o : RespondedOut). o.answer) e;
      }

  -- what an unknown id is answered
  unknown_of : (e : Refusal) → responded_result (excused_of e (false, spans_of [])) ≡ record { refusal = cond (eqb (number e) 2) 0 (number e); yes = false; spans = spans_of [] }
  unknown_of e = go (eqb (number e) 2)
    where
      go : (b : Bool) → responded_result (cond b (Ok (false, spans_of [])) (Err e)) ≡ record { refusal = cond b 0 (number e); yes = false; spans = spans_of [] }
      go true = refl
      go false = refl

  pub puts_unresponded : (e : Refusal) → Missed t f id e → (l : Spans) → l ≡ spans_of [] → a ≡ responded_result (excused_of e (false, l))
      → (z : S.Path) → Stored t (get_or t.items 0 z) 0 a responded.paths responded.answer
  puts_unresponded e m l el ea z =
      let k = excused_is responded_x t f id (Respond d now) e m refl (λ k. ap (λ (c : Bool). responded_x 0 (cond c (Responded (validates d (path_at id (view t))) (matched d now (path_at id (view t)))) (Responded false [])) t) k) in
      record {
        within = omega arith;
        state = first_stands t z ∙ ap (λ (o : RespondedOut). o.paths) k;
        answer = ea ∙ ap (λ (s : Spans). responded_result (excused_of e (false, s))) el ∙ unknown_of e ∙ ap (λ (o : RespondedOut). o.answer) k;
      }
