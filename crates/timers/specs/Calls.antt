-- The published calls of the timers: refusal 1 where the table is not well formed, the timer is none of the nine, or the moment is too late; then nothing changed.
use Rattle.std.specs.Prelude.{Result, Ok, Err, ℕ, Bool, false, cond, ◌&&◌, ltb}
use Rattle.std.proofs.Math.Option.{none}
use Rattle.values.specs.Limits.{timer_count}
use Rattle.values.specs.declared.time.Moment.{Moment}
use Rattle.values.specs.declared.answers.Flagged.{Flagged}
use Rattle.values.specs.declared.answers.Timed.{Timed}
use Rattle.values.specs.Time.{moment_formed_of}
use Rattle.values.specs.Answers.{flagged_at, timed_at}
use Rattle.values.specs.Refusals.{number}
use Rattle.values.specs.declared.refusals.Refusal.{Refusal}
use Rattle.timers.specs.declared.table.TimerTable.{TimerTable}
use Rattle.timers.specs.declared.table.TimersOut.{TimersOut}
use Rattle.timers.specs.Timers.{well_formed, view, timers_of, fresh_timers, set_timer, stop_timer, get_timer, next_timeout, expired}

abbrev pub is_timer : ℕ → Bool
is_timer timer = ltb timer timer_count

-- ---- the results, by refusal and value

abbrev pub out_at : ℕ → TimerTable → TimersOut
out_at refusal t = record { timers = t; answer = record { refusal = refusal } }

-- the table that a call leaves: refused, the one that it found
abbrev pub out_of : TimerTable → Result TimerTable Refusal → TimersOut
out_of t (Ok u) = out_at 0 u
out_of t (Err e) = out_at (number e) t

-- ---- the calls

abbrev pub fresh_call : TimerTable
fresh_call = timers_of fresh_timers

abbrev pub set_call : TimerTable → ℕ → Moment → TimersOut
set_call t timer at = cond (well_formed t && is_timer timer && moment_formed_of at.us) (out_at 0 (timers_of (set_timer timer at.us (view t)))) (out_at 1 t)

abbrev pub get_call : TimerTable → ℕ → Timed
get_call t timer = cond (well_formed t && is_timer timer) (timed_at 0 (get_timer timer (view t))) (timed_at 1 none)

abbrev pub stop_call : TimerTable → ℕ → TimersOut
stop_call t timer = cond (well_formed t && is_timer timer) (out_at 0 (timers_of (stop_timer timer (view t)))) (out_at 1 t)

abbrev pub next_timeout_call : TimerTable → Timed
next_timeout_call t = cond (well_formed t) (timed_at 0 (next_timeout (view t))) (timed_at 1 none)

abbrev pub is_expired_call : TimerTable → ℕ → Moment → Flagged
is_expired_call t timer now = cond (well_formed t && is_timer timer && moment_formed_of now.us) (flagged_at 0 (expired timer now.us (view t))) (flagged_at 1 false)

-- no timer is set any more
abbrev pub clear_call : TimerTable → TimersOut
clear_call t = cond (well_formed t) (out_at 0 (timers_of fresh_timers)) (out_at 1 t)
