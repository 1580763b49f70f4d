-- Before the place both have been gathered; from there on the array is as it was.
use Rattle.lists.specs.Whole.{Joined}
use Rattle.values.proofs.gather.ArrayGather.gather.Given as goal

abbrev pub invariant-loop-i : goal.invariant-loop-i
invariant-loop-i g l = Joined g.T.Gather.is_nothing l.initial.both l.other g.row.N l.both l.i
