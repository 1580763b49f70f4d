-- The loop's invariant: up to place i the paths are changed, and from there on they stand as they did.
use Rattle.paths.specs.TableLaws.{Turned}
use Rattle.paths_rules.specs.Path.{unlist}
use Rattle.paths.proofs.changes.append.Given as goal

abbrev pub invariant-loop-i : goal.invariant-loop-i
invariant-loop-i l = Turned (unlist l.pair) l.initial.t l.i l.t
