-- A call on one path, as what it leaves: a path at a place, and an answer.
use Rattle.std.specs.Prelude.{ℕ, ◌<◌, ◌≡◌, set}
use Rattle.values.specs.Limits.{max_paths_limit}
use Rattle.values.specs.declared.answers.Done.{Done}
use Rattle.values.specs.declared.answers.Numbered.{Numbered}
use Rattle.paths_state.specs.declared.state.Path.{Path}
use Rattle.paths_state.specs.declared.state.Paths.{Paths}
use Rattle.paths.specs.declared.answers.DoneOut.{DoneOut}
use Rattle.paths.specs.declared.answers.PoppedOut.{PoppedOut}
use Rattle.paths.specs.declared.answers.RespondedAnswer.{RespondedAnswer}
use Rattle.paths.specs.declared.answers.RespondedOut.{RespondedOut}
use Rattle.paths.specs.Reading.{put_paths}

-- t with the path x at the place i is the state s, and the answer a is b
pub record Stored {A : Type 0} (t : Paths) (x : Path) (i : ℕ) (a : A) (s : Paths) (b : A) : Type 0 where
  pub within : i < max_paths_limit
  pub state : put_paths (set t.items i x) t.count t ≡ s
  pub answer : a ≡ b

-- both are what a call gives
abbrev pub Puts : Paths → Path → ℕ → Done → DoneOut → Type 0
Puts t x i a r = Stored t x i a r.paths r.answer

abbrev pub PutsPopped : Paths → Path → ℕ → Numbered → PoppedOut → Type 0
PutsPopped t x i a r = Stored t x i a r.paths r.answer

abbrev pub PutsResponded : Paths → Path → ℕ → RespondedAnswer → RespondedOut → Type 0
PutsResponded t x i a r = Stored t x i a r.paths r.answer
