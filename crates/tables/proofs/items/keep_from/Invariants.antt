-- The loop's invariant: the table so far holds those of the first items that are at or above the bound.
use Rattle.std.specs.Prelude.{◌≡◌, take}
use Rattle.lists.specs.Defs.{keep}
use Rattle.tables.specs.Table.{table_of, at_least}
use Rattle.tables.proofs.items.keep_from.Given as goal

abbrev pub invariant-loop-x : goal.invariant-loop-x
invariant-loop-x l = l.out ≡ table_of (keep (at_least l.bound) (take l.x-index l.x-items))
