-- docs/RULES.md, "Timers": nine timers, numbered from 0, each with a deadline or none. A table is read as the list of its deadlines.
use Rattle.std.specs.Prelude.{ℕ, List, map, Bool, false, not, cond, ◌&&◌, ◌||◌, leb, ltb, get_or, set, replicate}
use Rattle.std.proofs.Math.Option.{Option, none, some}
use Rattle.lists.specs.Defs.{past, maybe, least, somes}
use Rattle.values.specs.Limits.{timer_count}
use Rattle.values.specs.declared.time.Deadline.{Deadline}
use Rattle.values.specs.Time.{deadline_formed_of, deadline_view, deadline_of}
use Rattle.timers.specs.declared.table.TimerTable.{TimerTable}

abbrev pub Timers : Type 0
Timers = List (Option ℕ)

-- a deadline that is absent is 0, one that is set is a moment
abbrev pub well_formed : TimerTable → Bool
well_formed t = past deadline_formed_of timer_count 0 t.expires

abbrev pub view : TimerTable → Timers
view t = map deadline_view t.expires

abbrev pub timers_of : Timers → TimerTable
timers_of v = record { expires = map deadline_of v }

-- ---- what each call does

abbrev pub fresh_timers : Timers
fresh_timers = replicate timer_count none

abbrev pub set_timer : ℕ → ℕ → Timers → Timers
set_timer timer at v = set v timer (some at)

abbrev pub stop_timer : ℕ → Timers → Timers
stop_timer timer v = set v timer none

abbrev pub get_timer : ℕ → Timers → Option ℕ
get_timer timer v = get_or v timer none

-- the least one set, or none
abbrev pub next_timeout : Timers → Option ℕ
next_timeout v = least (somes v)

-- set, and deadline <= now
abbrev pub expired : ℕ → ℕ → Timers → Bool
expired timer now v = maybe (get_timer timer v) false (λ at. leb at now)

-- ---- of two deadlines the one that is set, and of two such the lesser, the first where they are equal
abbrev pub sooner_of : Deadline → Deadline → Deadline
sooner_of best d = cond (d.set && (not best.set || ltb d.at.us best.at.us)) d best
