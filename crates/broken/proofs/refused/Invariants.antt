-- No more are counted than were told.
use Rattle.std.proofs.Common.{◌≤◌}
use Rattle.broken.proofs.refused.Given as goal

abbrev pub invariant-loop-k : goal.invariant-loop-k
invariant-loop-k g l = l.refused ≤ l.k
