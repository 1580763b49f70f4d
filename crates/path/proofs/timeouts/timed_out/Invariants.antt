-- What is left to expire of the path is what was to expire at first. The measure is how many challenges stand.
use Rattle.std.specs.Prelude.{length}
use Rattle.path.specs.Reading.{path_view}
use Rattle.path.specs.TimeoutLaws.{Going}
use Rattle.path.proofs.timeouts.timed_out.Given as goal

abbrev pub invariant-loop-now : goal.invariant-loop-now
invariant-loop-now l = Going l.now.us l.initial.u l.u

abbrev pub decreases-loop-now : goal.decreases-loop-now
decreases-loop-now l = length (path_view l.u).sent
