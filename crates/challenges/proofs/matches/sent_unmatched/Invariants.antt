-- The list so far holds those of the first challenges that have other data.
use Rattle.std.specs.Prelude.{◌≤◌, ◌≡◌, length, take}
use Rattle.challenges.specs.Challenges.{sent_of, unmatched}
use Rattle.challenges.proofs.matches.sent_unmatched.Given as goal

abbrev pub invariant-loop-x : goal.invariant-loop-x
invariant-loop-x l = record {
  in_range : l.x-index ≤ length l.x-items;
  few : l.out.count ≤ l.x-index;
  listed : l.out ≡ sent_of (unmatched l.data (take l.x-index l.x-items));
}
