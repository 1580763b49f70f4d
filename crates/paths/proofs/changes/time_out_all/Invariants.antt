-- The loop's invariant: up to place i the paths are changed, and from there on they stand as they did.
use Rattle.paths.specs.TableLaws.{Turned}
use Rattle.paths_rules.specs.Path.{timeout}
use Rattle.paths.proofs.changes.time_out_all.Given as goal

abbrev pub invariant-loop-i : goal.invariant-loop-i
invariant-loop-i l = Turned (timeout l.now.us) l.initial.t l.i l.t
