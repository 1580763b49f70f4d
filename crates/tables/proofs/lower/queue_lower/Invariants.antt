-- The loop's invariant: the queue so far holds what it held and the sequences of those of the first items that are below the bound.
use Rattle.std.specs.Prelude.{◌≡◌, ◌++◌, take}
use Rattle.lists.specs.Defs.{picked}
use Rattle.tables.specs.Table.{entries, queue_of, seq_of, below}
use Rattle.tables.proofs.lower.queue_lower.Given as goal

abbrev pub invariant-loop-x : goal.invariant-loop-x
invariant-loop-x l = l.out ≡ queue_of (entries l.initial.out ++ picked seq_of (below l.bound) (take l.x-index l.items))
