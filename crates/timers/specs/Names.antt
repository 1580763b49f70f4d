-- The nine timers, by their numbers.
use Rattle.std.specs.Prelude.{ℕ, eqb, List, [], ◌∷◌, Result, Ok, Err}
use Rattle.lists.specs.Defs.{first, maybe}
use Rattle.values.specs.declared.refusals.Refusal.{Refusal}
use Rattle.values.specs.declared.refusals.Refusal.TheVariants.{Malformed}
use Rattle.timers.specs.declared.table.Timer.{Timer}
use Rattle.timers.specs.declared.table.Timer.TheVariants.{LossDetection, Ack, Pacer, Idle, Handshake, Draining, KeyDiscard, KeepAlive, PathChallenge}

abbrev pub number_of : Timer → ℕ
number_of LossDetection = 0
number_of Ack = 1
number_of Pacer = 2
number_of Idle = 3
number_of Handshake = 4
number_of Draining = 5
number_of KeyDiscard = 6
number_of KeepAlive = 7
number_of PathChallenge = 8

abbrev pub timers : List Timer
timers = LossDetection ∷ Ack ∷ Pacer ∷ Idle ∷ Handshake ∷ Draining ∷ KeyDiscard ∷ KeepAlive ∷ PathChallenge ∷ []

-- the timer with the number; where none has it, the call is refused
abbrev pub timer_named : ℕ → Result Timer Refusal
timer_named n = maybe (first (λ (t : Timer). eqb (number_of t) n) timers) (Err Malformed) Ok
