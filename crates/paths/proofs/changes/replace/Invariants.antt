-- The loop's invariant: up to place i the paths are changed, and from there on they stand as they did.
use Rattle.paths.specs.TableLaws.{Turned, unlist_both}
use Rattle.paths.proofs.changes.replace.Given as goal

abbrev pub invariant-loop-i : goal.invariant-loop-i
invariant-loop-i l = Turned (unlist_both l.gone l.pair) l.initial.t l.i l.t
