-- The loop's invariant: the queue so far holds those of the first entries that differ from x.
use Rattle.std.specs.Prelude.{◌≡◌, take}
use Rattle.lists.specs.Defs.{keep}
use Rattle.tables.specs.Table.{queue_of, differs}
use Rattle.tables.proofs.sequences.queue_drop.Given as goal

abbrev pub invariant-loop-v : goal.invariant-loop-v
invariant-loop-v l = l.out ≡ queue_of (keep (differs l.x) (take l.v-index l.v-items))
