-- The loop's invariant: the least deadline of the paths passed.
use Rattle.std.proofs.Common.{◌≡◌}
use Rattle.paths.specs.TableLaws.{timer_to}
use Rattle.paths_state.specs.Formed.{live}
use Rattle.values.specs.Time.{moved_of}
use Rattle.paths.proofs.search.first_due.Given as goal

abbrev pub invariant-loop-x : goal.invariant-loop-x
invariant-loop-x l = (l.x-items ≡ live l.t.paths.now) × (l.best ≡ moved_of (timer_to l.x-index l.x-items))
