-- The definitions at work, by computation.
use Rattle.std.specs.Prelude.{ℕ, ◌≡◌, refl, List, [], ◌∷◌, ◌++◌, drop}
use Rattle.std.proofs.Math.Option.{none, some}
use Rattle.challenges.specs.declared.sent.Challenge.{Challenge}
use Rattle.challenges.specs.Challenges.{due, last_size, matching, received_of, roomed, spans, unmatched, waiting}

abbrev sent : ℕ → ℕ → ℕ → ℕ → Challenge
sent d size at until = record { «data» = d; size = size; sent = record { us = at }; deadline = record { us = until } }

-- the ninth received: the first is gone, eight stand
ninth : roomed (1 ∷ 2 ∷ 3 ∷ 4 ∷ 5 ∷ 6 ∷ 7 ∷ 8 ∷ []) ++ (9 ∷ []) ≡ 2 ∷ 3 ∷ 4 ∷ 5 ∷ 6 ∷ 7 ∷ 8 ∷ 9 ∷ []
ninth = refl

-- taken out: the places that are free hold zeros
popped : received_of (drop 1 (waiting (received_of (5 ∷ 6 ∷ [])))) ≡ record { items = 6 ∷ 0 ∷ 0 ∷ 0 ∷ 0 ∷ 0 ∷ 0 ∷ 0 ∷ []; count = 1 }
popped = refl

abbrev four : List Challenge
four = sent 7 1300 10 90 ∷ sent 8 1400 20 40 ∷ sent 7 1100 60 95 ∷ sent 9 1500 70 99 ∷ []

-- two match: the others stay in order, the size is the last one's and not the largest, and a span is 0 where now is earlier
others : unmatched 7 four ≡ sent 8 1400 20 40 ∷ sent 9 1500 70 99 ∷ []
others = refl

size : last_size 0 (matching 7 four) ≡ 1100
size = refl

no_size : last_size 0 (matching 6 four) ≡ 0
no_size = refl

times : spans 7 50 four ≡ 40 ∷ 0 ∷ []
times = refl

-- the deadline of the first, not the least
first : due four ≡ some 90
first = refl

nothing : due [] ≡ none
nothing = refl
