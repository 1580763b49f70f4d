-- Those passed differ from all others: so any two of all differ exactly if any two of those left do.
use Rattle.std.specs.Prelude.{◌≡◌, drop}
use Rattle.lists.specs.Defs.{pairwise}
use Rattle.paths_state.specs.Formed.{apart}
use Rattle.paths_state.proofs.test.all_differ.Given as goal

abbrev pub invariant-loop-i : goal.invariant-loop-i
invariant-loop-i l = pairwise apart l.paths ≡ pairwise apart (drop l.i l.paths)
