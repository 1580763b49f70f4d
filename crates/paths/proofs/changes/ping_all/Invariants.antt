-- The loop's invariant: up to place i the paths are changed, and from there on they stand as they did.
use Rattle.paths.specs.TableLaws.{Turned}
use Rattle.paths_rules.specs.Table.{ping_in_use_of}
use Rattle.paths.proofs.changes.ping_all.Given as goal

abbrev pub invariant-loop-i : goal.invariant-loop-i
invariant-loop-i l = Turned ping_in_use_of l.initial.t l.i l.t
