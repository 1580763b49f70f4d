-- What is gathered of the first ones is nothing, and the others are, exactly where all are.
use Rattle.std.proofs.Common.{◌≡◌, ◌&&◌, ◌≤◌, length, drop}
use Rattle.lists.specs.Defs.{all}
use Rattle.values.proofs.gather.all_nothing.Given as goal

abbrev pub invariant-loop-x : goal.invariant-loop-x
invariant-loop-x g l = let p = g.T.Gather.is_nothing in (l.x-index ≤ length l.items) × (all p l.items ≡ (p l.sum && all p (drop l.x-index l.items)))
