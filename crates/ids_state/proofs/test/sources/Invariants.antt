-- What stands before has been tested: each item has its form, and the sequences rise up to the last.
use Rattle.std.specs.Prelude.{◌≤◌, ◌≡◌, ◌&&◌, [], ◌∷◌, ◌++◌, map, length, drop}
use Rattle.lists.specs.Defs.{all, after}
use Rattle.tables.specs.Table.{live, seq_of}
use Rattle.ids_state.specs.Formed.{item_formed_of, rising_below}
use Rattle.ids_state.proofs.test.sources.Given as goal

abbrev pub invariant-loop-x : goal.invariant-loop-x
invariant-loop-x l = (l.x-index ≤ length l.x-items) × (all item_formed_of (live l.t) ≡ (l.ok && all item_formed_of (drop l.x-index l.x-items))) × (rising_below l.t l.next ≡ (l.up && after l.last (map seq_of (drop l.x-index l.x-items) ++ (l.next ∷ []))))
