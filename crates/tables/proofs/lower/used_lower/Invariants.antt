-- The loop's invariant: the list so far has the pair of each of the first items that is below the bound and on a path.
use Rattle.std.specs.Prelude.{◌≤◌, ◌≡◌, take}
use Rattle.lists.specs.Defs.{picked}
use Rattle.tables.specs.Table.{used_of, low_on_path, pair_of}
use Rattle.tables.proofs.lower.used_lower.Given as goal

abbrev pub invariant-loop-x : goal.invariant-loop-x
invariant-loop-x l = (l.out ≡ used_of (picked pair_of (low_on_path l.bound) (take l.x-index l.items))) × (l.out.count ≤ l.x-index)
