-- What is promised of the timers' code: of every published call, on any table and over any run of calls. This file is the statement, to be read alone; that
-- all of it holds is `held` in proofs/RunsProof.antt.
--
-- A CodeCall is a published call with its arguments, of their form or not. `result t c` is what the call c returns on the table t: the contracts of the crates
-- by_value and vignorasc say so of the code. `made t c` is the table that is in it, or t where the call only reads, and `refusal t c` its number. `calls t cs`
-- is the table after the calls cs, one after the other, refused ones too.
use Rattle.std.specs.Prelude.{ℕ, ◌≡◌, List, [], ◌∷◌, Bool, true, false, not, ◌&&◌, eqb}
use Rattle.std.proofs.Math.Option.{none}
use Rattle.lists.specs.Defs.{keep}
use Rattle.values.specs.declared.time.Moment.{Moment}
use Rattle.values.specs.declared.answers.Flagged.{Flagged}
use Rattle.values.specs.declared.answers.Timed.{Timed}
use Rattle.values.specs.Time.{moment_formed_of}
use Rattle.values.specs.Answers.{flagged_at, timed_at}
use Rattle.timers.specs.declared.table.TimerTable.{TimerTable}
use Rattle.timers.specs.declared.table.TimersOut.{TimersOut}
use Rattle.timers.specs.Timers.{Timers, well_formed, view, fresh_timers, set_timer, stop_timer}
use Rattle.timers.specs.Calls.{is_timer, out_at, fresh_call, set_call, get_call, stop_call, next_timeout_call, is_expired_call, clear_call}

-- ---- the published calls, in the order of src/calls.rt: three that change the table, three that read it, and fresh, which takes nothing and gives `fresh_call`

pub data CodeCall : Type 0 where
  Set : (timer : ℕ) (at : Moment) → CodeCall
  Get : (timer : ℕ) → CodeCall
  Stop : (timer : ℕ) → CodeCall
  NextTimeout : CodeCall
  IsExpired : (timer : ℕ) (now : Moment) → CodeCall
  Clear : CodeCall

-- the arguments have their form
abbrev pub args_formed : CodeCall → Bool
args_formed (Set timer at) = is_timer timer && moment_formed_of at.us
args_formed (Get timer) = is_timer timer
args_formed (Stop timer) = is_timer timer
args_formed NextTimeout = true
args_formed (IsExpired timer now) = is_timer timer && moment_formed_of now.us
args_formed Clear = true

-- ---- what each returns

pub data Result : Type 0 where
  Done : TimersOut → Result
  ATime : Timed → Result
  AFlag : Flagged → Result

abbrev pub result : TimerTable → CodeCall → Result
result t (Set timer at) = Done (set_call t timer at)
result t (Get timer) = ATime (get_call t timer)
result t (Stop timer) = Done (stop_call t timer)
result t NextTimeout = ATime (next_timeout_call t)
result t (IsExpired timer now) = AFlag (is_expired_call t timer now)
result t Clear = Done (clear_call t)

-- the table that a result has, if it has one; the number of its refusal
abbrev pub state_in : TimerTable → Result → TimerTable
state_in t (Done r) = r.timers
state_in t (ATime r) = t
state_in t (AFlag r) = t

abbrev pub refusal_in : Result → ℕ
refusal_in (Done r) = r.answer.refusal
refusal_in (ATime r) = r.refusal
refusal_in (AFlag r) = r.refusal

abbrev pub made : TimerTable → CodeCall → TimerTable
made t c = state_in t (result t c)

abbrev pub refusal : TimerTable → CodeCall → ℕ
refusal t c = refusal_in (result t c)

abbrev pub calls : TimerTable → List CodeCall → TimerTable
calls t [] = t
calls t (c ∷ cs) = calls (made t c) cs

-- a refusal with the number n: the table as it was, and every other field of the answer zero
abbrev pub refused_at : CodeCall → ℕ → TimerTable → Result
refused_at (Set timer at) n t = Done (out_at n t)
refused_at (Get timer) n t = ATime (timed_at n none)
refused_at (Stop timer) n t = Done (out_at n t)
refused_at NextTimeout n t = ATime (timed_at n none)
refused_at (IsExpired timer now) n t = AFlag (flagged_at n false)
refused_at Clear n t = Done (out_at n t)

-- ---- one call

-- a table or an argument not of its form is refused with 1 and leaves the table; nothing else is refused
abbrev pub Malformed : Type 0
Malformed = (t : TimerTable) (c : CodeCall) → (well_formed t && args_formed c) ≡ false → result t c ≡ refused_at c 1 t

abbrev pub Accepted : Type 0
Accepted = (t : TimerTable) (c : CodeCall) → (well_formed t && args_formed c) ≡ true → refusal t c ≡ 0

-- every call keeps every well-formed table well formed, whatever its arguments are
abbrev pub KeepsWell : Type 0
KeepsWell = (t : TimerTable) (c : CodeCall) → well_formed t ≡ true → well_formed (made t c) ≡ true

abbrev pub FreshWell : Type 0
FreshWell = well_formed fresh_call ≡ true

-- ---- runs

abbrev pub RunsWell : Type 0
RunsWell = (t : TimerTable) (cs : List CodeCall) → well_formed t ≡ true → well_formed (calls t cs) ≡ true

-- after any calls from a fresh table, a call is refused with 1 exactly if an argument of it has not its form
abbrev pub NeverOne : Type 0
NeverOne = (cs : List CodeCall) (c : CodeCall) → eqb (refusal (calls fresh_call cs) c) 1 ≡ not (args_formed c)

-- what a call of its form does to the list of deadlines
abbrev pub step : Timers → CodeCall → Timers
step v (Set timer at) = set_timer timer at.us v
step v (Get timer) = v
step v (Stop timer) = stop_timer timer v
step v NextTimeout = v
step v (IsExpired timer now) = v
step v Clear = fresh_timers

abbrev pub run : Timers → List CodeCall → Timers
run v [] = v
run v (c ∷ cs) = run (step v c) cs

-- a run of the code is a run of the list of deadlines; a call whose arguments have not their form changes nothing, and is left out
abbrev pub IsRun : Type 0
IsRun = (t : TimerTable) (cs : List CodeCall) → well_formed t ≡ true → view (calls t cs) ≡ run (view t) (keep args_formed cs)

-- ---- all of it

pub record Promises : Type 0 where
  pub malformed : Malformed
  pub accepted : Accepted
  pub keeps_well : KeepsWell
  pub fresh_well : FreshWell
  pub runs_well : RunsWell
  pub never_one : NeverOne
  pub is_run : IsRun
