-- docs/RULES.md, "Challenges": the lists of challenges received and sent, what an array is read as, and the one that is built of a list.
use Rattle.std.specs.Prelude.{ℕ, List, [], ◌∷◌, map, Bool, not, cond, ◌&&◌, eqb, leb, length, take, drop}
use Rattle.std.proofs.Math.Option.{Option, none, some}
use Rattle.lists.specs.Defs.{front, keep, maybe, nought, padded}
use Rattle.lists.specs.Held.{Held}
use Rattle.values.specs.Limits.{max_path_chals_recv, max_path_chals_sent}
use Rattle.values.specs.Time.{minus}
use Rattle.values.specs.declared.time.Span.{Span}
use Rattle.challenges.specs.declared.received.Received.{Received}
use Rattle.challenges.specs.declared.sent.Challenge.{Challenge}
use Rattle.challenges.specs.declared.sent.Sent.{Sent}
use Rattle.challenges.specs.declared.matches.Spans.{Spans}

-- ---- reading and building

abbrev pub zero_challenge : Challenge
zero_challenge = record { «data» = 0; size = 0; sent = record { us = 0 }; deadline = record { us = 0 } }

-- the challenge is the zero challenge
abbrev pub is_zero : Challenge → Bool
is_zero c = nought c.«data» && nought c.size && nought c.sent.us && nought c.deadline.us

abbrev pub span_of : ℕ → Span
span_of n = record { us = n }

-- the challenges received that wait, and the challenges sent that stand
abbrev pub waiting : Received → List ℕ
waiting q = take q.count q.items

abbrev pub standing : Sent → List Challenge
standing s = take s.count s.items

abbrev pub received_of : List ℕ → Received
received_of l = record { items = padded max_path_chals_recv 0 l; count = length l }

abbrev pub sent_of : List Challenge → Sent
sent_of l = record { items = padded max_path_chals_sent zero_challenge l; count = length l }

-- a list of microseconds
abbrev pub spans_of : List ℕ → Spans
spans_of l = record { items = padded max_path_chals_sent (span_of 0) (map span_of l); count = length l }

abbrev pub ReceivedWell : Received → Type 0
ReceivedWell q = Held max_path_chals_recv 0 q.items q.count

abbrev pub SentWell : Sent → Type 0
SentWell s = Held max_path_chals_sent zero_challenge s.items s.count

-- ---- what happens to the lists

-- room for one more: where 8 wait, the oldest goes
abbrev pub roomed : List ℕ → List ℕ
roomed l = cond (leb max_path_chals_recv (length l)) (drop 1 l) l

-- the deadline of the first
abbrev pub due : List Challenge → Option ℕ
due l = maybe (front l) none (λ c. some c.deadline.us)

-- ---- a response

-- a challenge with this data
abbrev pub carries : ℕ → Challenge → Bool
carries d c = eqb c.«data» d

abbrev pub differs : ℕ → Challenge → Bool
differs d c = not (carries d c)

-- the challenges that a response matches, and the others, in order
abbrev pub matching : ℕ → List Challenge → List Challenge
matching d l = keep (carries d) l

abbrev pub unmatched : ℕ → List Challenge → List Challenge
unmatched d l = keep (differs d) l

-- the size of the last one; z where there is none
abbrev pub last_size : ℕ → List Challenge → ℕ
last_size z [] = z
last_size z (c ∷ cs) = last_size c.size cs

-- now - sent, 0 where now is earlier
abbrev pub span_to : ℕ → Challenge → ℕ
span_to now c = minus now c.sent.us

-- the span of each match
abbrev pub spans : ℕ → ℕ → List Challenge → List ℕ
spans d now l = map (span_to now) (matching d l)
