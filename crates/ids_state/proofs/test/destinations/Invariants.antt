-- The outer loop tests each item and, by the inner loop, holds it against those after it.
use Rattle.std.specs.Prelude.{◌+◌, ◌≤◌, ◌≡◌, ◌&&◌, length, drop}
use Rattle.lists.specs.Defs.{all, pairwise}
use Rattle.tables.specs.Table.{live}
use Rattle.ids_state.specs.Formed.{item_formed_of, apart}
use Rattle.ids_state.proofs.test.destinations.Given as goal

abbrev pub invariant-loop-y : goal.invariant-loop-y
invariant-loop-y l = (l.y-index ≤ length l.y-items) × (pairwise apart (live l.t) ≡ (l.far && (all (apart l.x) (drop l.y-index l.y-items) && pairwise apart (drop (l.i + 1) l.live))))

abbrev pub invariant-loop-i : goal.invariant-loop-i
invariant-loop-i l = (l.i ≤ length l.live) × (all item_formed_of (live l.t) ≡ (l.ok && all item_formed_of (drop l.i l.live))) × (pairwise apart (live l.t) ≡ (l.far && pairwise apart (drop l.i l.live)))
