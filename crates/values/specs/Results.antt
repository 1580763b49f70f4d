-- The answers as results: a value, or a refusal, and beside that nothing.
use Rattle.std.specs.Prelude.{ℕ, Bool, false, Option as Optional, Some, None, Result, Ok, Err}
use Rattle.std.proofs.Math.Option.{none, some}
use Rattle.values.specs.Answers.{counted_at, flagged_at, numbered_at, timed_at}
use Rattle.values.specs.Refusals.{number}
use Rattle.values.specs.declared.answers.Counted.{Counted}
use Rattle.values.specs.declared.answers.Done.{Done}
use Rattle.values.specs.declared.answers.Flagged.{Flagged}
use Rattle.values.specs.declared.answers.Numbered.{Numbered}
use Rattle.values.specs.declared.answers.Timed.{Timed}
use Rattle.values.specs.declared.refusals.Refusal.{Refusal}
use Rattle.values.specs.declared.time.Moment.{Moment}

-- the number at the head of the answer: 0 where the call was accepted
abbrev pub refusal_of : {A : Type 0} → Result A Refusal → ℕ
refusal_of (Ok a) = 0
refusal_of (Err e) = number e

abbrev pub done_of : {A : Type 0} → Result A Refusal → Done
done_of r = record { refusal = refusal_of r }

abbrev pub flagged_of : Result Bool Refusal → Flagged
flagged_of (Ok b) = flagged_at 0 b
flagged_of (Err e) = flagged_at (number e) false

abbrev pub counted_of : Result ℕ Refusal → Counted
counted_of (Ok n) = counted_at 0 n
counted_of (Err e) = counted_at (number e) 0

abbrev pub numbered_of : Result (Optional ℕ) Refusal → Numbered
numbered_of (Ok None) = numbered_at 0 none
numbered_of (Ok (Some n)) = numbered_at 0 (some n)
numbered_of (Err e) = numbered_at (number e) none

abbrev pub timed_of : Result (Optional Moment) Refusal → Timed
timed_of (Ok None) = timed_at 0 none
timed_of (Ok (Some m)) = timed_at 0 (some m.us)
timed_of (Err e) = timed_at (number e) none
