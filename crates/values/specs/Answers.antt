-- The answers that hold one plain value, by refusal and value; beside a refusal it is nothing.
use Rattle.std.specs.Prelude.{ℕ, Bool}
use Rattle.std.proofs.Math.Option.{Option}
use Rattle.lists.specs.Defs.{present, maybe}
use Rattle.values.specs.Time.{deadline_of}
use Rattle.values.specs.declared.answers.Counted.{Counted}
use Rattle.values.specs.declared.answers.Flagged.{Flagged}
use Rattle.values.specs.declared.answers.Numbered.{Numbered}
use Rattle.values.specs.declared.answers.Timed.{Timed}

abbrev pub counted_at : ℕ → ℕ → Counted
counted_at refusal n = record { refusal = refusal; number = n }

abbrev pub flagged_at : ℕ → Bool → Flagged
flagged_at refusal b = record { refusal = refusal; flag = b }

abbrev pub numbered_at : ℕ → Option ℕ → Numbered
numbered_at refusal o = record { refusal = refusal; present = present o; number = maybe o 0 (λ n. n) }

abbrev pub timed_at : ℕ → Option ℕ → Timed
timed_at refusal o = record { refusal = refusal; deadline = deadline_of o }
