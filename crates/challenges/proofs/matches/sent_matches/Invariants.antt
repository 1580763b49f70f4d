-- The list so far has the span of each match among the first challenges, and the size is that of the last of them.
use Rattle.std.specs.Prelude.{◌≤◌, ◌≡◌, length, take}
use Rattle.challenges.specs.Challenges.{last_size, matching, spans, spans_of}
use Rattle.challenges.proofs.matches.sent_matches.Given as goal

abbrev pub invariant-loop-x : goal.invariant-loop-x
invariant-loop-x l = record {
  in_range : l.x-index ≤ length l.x-items;
  few : l.spans.count ≤ l.x-index;
  listed : l.spans ≡ spans_of (spans l.data l.now.us (take l.x-index l.x-items));
  last : l.size ≡ last_size 0 (matching l.data (take l.x-index l.x-items));
}
