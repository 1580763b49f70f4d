-- Before i the differences are zero where the tokens are the same (`Compared`); the flags differ where their numbers do.

use Rattle.lists.specs.Defs.{nought}
use Rattle.lists.specs.Whole.{Compared}
use Rattle.values.proofs.calls.token_matches.Given as goal

abbrev pub invariant-loop-i : goal.invariant-loop-i
invariant-loop-i l = Compared l.a.bytes l.b.bytes (nought l.differences) l.i
