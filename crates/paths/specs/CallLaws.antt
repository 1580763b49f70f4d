-- The published calls: what was tested chooses between the step and refusal 1; and the calls on one path, which begin with the search for it.
use Rattle.std.specs.Prelude.{Result, Ok, Err, MatchResult, ℕ, ◌≤◌, ◌<◌, ◌≡◌, List, Bool, true, false, cond, ◌&&◌, eqb, length, set}
use Rattle.std.specs.Result.{IsOkAnd}
use Rattle.std.proofs.Common.{sym, ap, ap₂, ◌∙◌, arith, ne_eqb, lt-ltb, le-ltb, ltb-false}
use Rattle.std.proofs.Math.Bool.{and-false}
use Rattle.std.proofs.Math.Seq.{set_out}
use Rattle.values.specs.declared.refusals.Refusal.{Refusal}
use Rattle.values.specs.declared.refusals.Refusal.TheVariants.{Malformed, InternalError}
use Rattle.values.specs.Refusals.{number}
use Rattle.paths_rules.specs.Calls.{refusal, Read, Act, Call, effect, seen, answer, step, Get, Look, On}
use Rattle.paths_rules.specs.Path.{zero_path as zero}
use Rattle.paths_rules.specs.State.{Path}
use Rattle.paths_rules.specs.Table.{Table, Answer, Out, refused, accepted, path_at, known, with_paths, on_path, Nothing}
use Rattle.paths_state.specs.Formed.{well_formed, zero_path}
use Rattle.paths_state.specs.declared.state.Paths.{Paths}
use Rattle.path.specs.Reading.{path_view, path_of}
use Rattle.paths.specs.Reading.{view, put_paths, paths_of, parts_of, done_at, popped_at, responded_at, path_answer_at, path_answer_of, checked, path_call}
use Rattle.paths.specs.ReadingLaws.{tidy, paths_long, view_is, path_at_lem, path_at_is, stored_is}
use Rattle.paths.specs.Found.{Here, Missed, unformed, unknown}
use Rattle.paths.specs.declared.answers.DoneOut.{DoneOut}
use Rattle.paths.specs.declared.answers.PathAnswer.{PathAnswer}
use Rattle.paths.specs.declared.answers.PoppedOut.{PoppedOut}
use Rattle.paths.specs.declared.answers.RespondedOut.{RespondedOut}
use Rattle.paths_state.specs.declared.state.Path as S

-- ---- the tests

-- all have their form: the step
pub by_step : {A : Type 0} (t : Paths) (f : Bool) (x y : A) → well_formed t ≡ true → f ≡ true → x ≡ checked t f x y
by_step t f x y w e = sym (ap₂ (λ (b d : Bool). cond (b && d) x y) w e)

-- an argument has not
pub by_form : {A : Type 0} (t : Paths) (f : Bool) (x y : A) → f ≡ false → y ≡ checked t f x y
by_form t f x y e = sym (ap (λ (b : Bool). cond b x y) (ap (λ (b : Bool). well_formed t && b) e ∙ and-false (well_formed t)))

abbrev path_answer : S.Path → PathAnswer
path_answer x = record { refusal = 0; path = x }

-- the answer a, where the call accepts an unknown id
abbrev pub excused_of : {A : Type 0} → Refusal → A → Result A Refusal
excused_of e a = cond (eqb (number e) 2) (Ok a) (Err e)

-- ---- the id

module _ (t : Paths) (w : well_formed t ≡ true) (id : ℕ) where
  known_yes : id < t.count → known id (view t) ≡ true
  known_yes h = lt-ltb id (length (view t).paths) (omega (arith, paths_long t (tidy t w)))

  known_no : t.count ≤ id → known id (view t) ≡ false
  known_no h = le-ltb id (length (view t).paths) (omega (arith, paths_long t (tidy t w)))

module _ {t : Paths} {f : Bool} {id : ℕ} {x : S.Path} (h : Here t f id x) where
  pub here_known : known id (view t) ≡ true
  here_known = known_yes t h.well id h.below

  pub here_view : path_view x ≡ path_at id (view t)
  here_view = ap path_view h.is ∙ path_at_lem t (tidy t h.well) zero_path id h.below

-- ---- a call that reads one path

-- an act that is refused on an unknown id, by the test of the id
abbrev pub known_act : Table → ℕ → Act → Bool → Out
known_act v q a k = cond (eqb (cond k 0 2) 0) (accepted (answer v q a) (on_path q (effect v a) v)) (refused (cond k 0 2) v)

-- Y: the answer as a result; g: what is seen of the path
module _ (t : Paths) (id : ℕ) {V B : Type 0} (Y : Result V Refusal → B) (X : Out → B) (r : Read) (g : Path → V) (s : step (view t) (On id (Look r)) ≡ known_act (view t) id (Look r) (known id (view t))) where
  pub read_map : Y (Err InternalError) ≡ X (refused 2 (view t)) → Y (Ok (g (path_at id (view t)))) ≡ X (accepted (seen (view t) id r) (on_path id (λ x. x) (view t)))
      → {A : Type 0} (at : A → S.Path) (P : A → V → Type 0) (found : Result A Refusal) (shown : Result V Refusal) (a : B) → MatchResult found (λ x. Here t true id (at x)) (Missed t true id)
      → MatchResult found (λ x. IsOkAnd shown (P x)) (λ e. shown ≡ Err e) → a ≡ Y shown → ((x : A) (v : V) → P x v → v ≡ g (path_view (at x)))
      → a ≡ checked t true (X (step (view t) (On id (Look r)))) (Y (Err Malformed))
  read_map n2 n0 {A} at P found shown a h m e p = e ∙ go found shown h m
    where
      Z : B
      Z = checked t true (X (step (view t) (On id (Look r)))) (Y (Err Malformed))

      by : (b k : Bool) → well_formed t ≡ b → known id (view t) ≡ k → cond (b && true) (X (known_act (view t) id (Look r) k)) (Y (Err Malformed)) ≡ Z
      by b k w q =
          sym (ap (λ (o : Out). cond (well_formed t && true) (X o) (Y (Err Malformed))) s ∙ ap₂ (λ (c d : Bool). cond (c && true) (X (known_act (view t) id (Look r) d)) (Y (Err Malformed))) w q)

      no : (e : Refusal) → Missed t true id e → Y (Err e) ≡ Z
      no e (unformed q w) = ap (λ (e : Refusal). Y (Err e)) q ∙ sym (ap (λ (c : Bool). cond c (X (step (view t) (On id (Look r)))) (Y (Err Malformed))) w)
      no e (unknown q w f k) = ap (λ (e : Refusal). Y (Err e)) q ∙ n2 ∙ by true false w (known_no t w id k)

      go : (found : Result A Refusal) (shown : Result V Refusal) → MatchResult found (λ x. Here t true id (at x)) (Missed t true id) → MatchResult found (λ x. IsOkAnd shown (P x)) (λ e. shown ≡ Err e) → Y shown ≡ Z
      go (Ok x) (Ok v) h m = ap (λ (u : V). Y (Ok u)) (p x v m ∙ ap g (here_view h)) ∙ n0 ∙ by true true h.well (here_known h)
      go (Ok x) (Err u) h m = absurd m
      go (Err e) shown h m = ap Y m ∙ no e h

-- the path itself
pub got : (t : Paths) (id : ℕ) {A : Type 0} (at : A → S.Path) (found : Result A Refusal) (a : PathAnswer) → MatchResult found (λ x. Here t true id (at x)) (Missed t true id)
    → MatchResult found (λ x. a ≡ record { refusal = 0; path = at x }) (λ e. a ≡ path_answer_at (number e) zero) → a ≡ path_call t true (On id (Look Get))
got t id {A} at found a h m = go found h m
  where
    by : (b k : Bool) → well_formed t ≡ b → known id (view t) ≡ k → cond (b && true) (path_answer_of (known_act (view t) id (Look Get) k)) (path_answer_at 1 zero) ≡ path_call t true (On id (Look Get))
    by b k w q = sym (ap₂ (λ (c d : Bool). cond (c && true) (path_answer_of (known_act (view t) id (Look Get) d)) (path_answer_at 1 zero)) w q)

    no : (e : Refusal) → Missed t true id e → path_answer_at (number e) zero ≡ path_call t true (On id (Look Get))
    no e (unformed q w) = ap (λ (e : Refusal). path_answer_at (number e) zero) q ∙ sym (ap (λ (c : Bool). cond c (path_answer_of (step (view t) (On id (Look Get)))) (path_answer_at 1 zero)) w)
    no e (unknown q w f k) = ap (λ (e : Refusal). path_answer_at (number e) zero) q ∙ by true false w (known_no t w id k)

    go : (found : Result A Refusal) → MatchResult found (λ x. Here t true id (at x)) (Missed t true id) → MatchResult found (λ x. a ≡ record { refusal = 0; path = at x }) (λ e. a ≡ path_answer_at (number e) zero)
        → a ≡ path_call t true (On id (Look Get))
    go (Ok x) h m = m ∙ ap path_answer (h.is ∙ path_at_is t (tidy t h.well) zero_path id h.below) ∙ by true true h.well (here_known h)
    go (Err e) h m = m ∙ no e h

-- ---- a call that changes one path. X builds the result of a refusal, an answer and a state

abbrev pub called : {B : Type 0} → (ℕ → Answer → Paths → B) → Paths → Bool → Call → B
called X t f c = checked t f (X (step (view t) c).refusal (step (view t) c).answer (paths_of (step (view t) c).table)) (X 1 Nothing t)

abbrev pub out_of : {B : Type 0} → (ℕ → Answer → Paths → B) → Out → B
out_of X o = X o.refusal o.answer (paths_of o.table)

module _ {B : Type 0} (X : ℕ → Answer → Paths → B) (t : Paths) (f : Bool) where
  -- the state or an argument has not its form
  pub malformed : (c : Call) → (well_formed t && f) ≡ false → X 1 Nothing t ≡ called X t f c
  malformed c e = sym (ap (λ (b : Bool). cond b (out_of X (step (view t) c)) (X 1 Nothing t)) e)

  -- all have their form: the step
  stepped : (c : Call) → well_formed t ≡ true → f ≡ true → out_of X (step (view t) c) ≡ called X t f c
  stepped c = by_step t f (out_of X (step (view t) c)) (X 1 Nothing t)

  module _ (id : ℕ) (q : Act) where
    abbrev refused_by : ℕ → Out
    refused_by n = cond (eqb n 0) (accepted (answer (view t) id q) (on_path id (effect (view t) q) (view t))) (refused n (view t))

    -- the act is refused
    pub act_refused : well_formed t ≡ true → f ≡ true → (n : ℕ) → refusal (view t) id q ≡ n → (n ≡ 0 → ⊥) → X n Nothing t ≡ called X t f (On id q)
    act_refused w ef n r k =
        ap (X n Nothing) (sym (view_is t (tidy t w)))
        ∙ sym (ap (out_of X) (ap refused_by r ∙ ap (λ (b : Bool). cond b (accepted (answer (view t) id q) (on_path id (effect (view t) q) (view t))) (refused n (view t))) (ne_eqb n 0 k)))
        ∙ stepped (On id q) w ef

    -- the path is changed
    pub acted : {x : S.Path} → Here t f id x → refusal (view t) id q ≡ 0 → (y : S.Path) → y ≡ path_of (effect (view t) q (path_view x))
        → X 0 (answer (view t) id q) (put_paths (set t.items id y) t.count t) ≡ called X t f (On id q)
    acted h r y ey =
        ap (X 0 (answer (view t) id q)) (stored_is t (tidy t h.well) id y (effect (view t) q (path_at id (view t))) h.below (ey ∙ ap (λ (x : Path). path_of (effect (view t) q x)) (here_view h)))
        ∙ sym (ap (λ (n : ℕ). out_of X (refused_by n)) r)
        ∙ stepped (On id q) h.well h.args

    -- an unknown id is refused
    pub missed_is : (e : Refusal) → Missed t f id e → (known id (view t) ≡ false → refusal (view t) id q ≡ 2) → X (number e) Nothing t ≡ called X t f (On id q)
    missed_is e (unformed p k) r = ap (λ (e : Refusal). X (number e) Nothing t) p ∙ malformed (On id q) k
    missed_is e (unknown p w ef k) r = ap (λ (e : Refusal). X (number e) Nothing t) p ∙ act_refused w ef 2 (r (known_no t w id k)) (λ z. omega (arith, z))

    -- an unknown id is accepted, and nothing changes
    pub excused_is : (e : Refusal) → Missed t f id e → refusal (view t) id q ≡ 0 → (known id (view t) ≡ false → X 0 (answer (view t) id q) t ≡ X 0 Nothing t)
        → X (cond (eqb (number e) 2) 0 (number e)) Nothing t ≡ called X t f (On id q)
    excused_is e (unformed p k) r s = ap (λ (e : Refusal). X (cond (eqb (number e) 2) 0 (number e)) Nothing t) p ∙ malformed (On id q) k
    excused_is e (unknown p w ef k) r s =
        let n = known_no t w id k in
        ap (λ (e : Refusal). X (cond (eqb (number e) 2) 0 (number e)) Nothing t) p
        ∙ sym (s n)
        ∙ ap (X 0 (answer (view t) id q)) (sym (view_is t (tidy t w)) ∙ ap (λ (l : List Path). paths_of (with_paths l (view t))) (sym (set_out (view t).paths id (effect (view t) q (path_at id (view t))) (ltb-false id (length (view t).paths) n))))
        ∙ sym (ap (λ (j : ℕ). out_of X (refused_by j)) r)
        ∙ stepped (On id q) w ef

-- ---- what builds each result

abbrev pub done_x : ℕ → Answer → Paths → DoneOut
done_x n a t = done_at n t

abbrev pub popped_x : ℕ → Answer → Paths → PoppedOut
popped_x n a t = popped_at n (parts_of a).perhaps t

abbrev pub responded_x : ℕ → Answer → Paths → RespondedOut
responded_x n a t = responded_at n (parts_of a).flag (parts_of a).spans t
