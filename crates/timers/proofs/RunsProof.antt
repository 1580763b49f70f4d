-- Every promise of Runs.antt holds; and a run that reaches every call and every answer, computed.
use Rattle.std.specs.Prelude.{ℕ, ◌^◌, ◌≡◌, List, [], ◌∷◌, Bool, true, false, cond, not, ◌&&◌, eqb}
use Rattle.std.proofs.Math.Path.{refl}
use Rattle.std.proofs.Common.{sym, ap, ap₂, ◌∙◌}
use Rattle.std.proofs.Math.Bool.{and_assoc}
use Rattle.std.proofs.Math.Option.{none, some}
use Rattle.lists.specs.Bools.{and_both}
use Rattle.lists.specs.Defs.{keep}
use Rattle.values.specs.declared.time.Moment.{Moment}
use Rattle.values.specs.Time.{moment_formed_of}
use Rattle.values.specs.Answers.{flagged_at, timed_at}
use Rattle.timers.specs.declared.table.TimerTable.{TimerTable}
use Rattle.timers.specs.Timers.{Timers, well_formed, view, timers_of, fresh_timers, set_timer, stop_timer, get_timer, next_timeout, expired}
use Rattle.timers.specs.Calls.{is_timer, out_at, fresh_call}
use Rattle.timers.proofs.Laws.{view_of, fresh_formed_lem, set_formed, stop_formed}
use Rattle.timers.specs.Runs.{CodeCall, Set, Get, Stop, NextTimeout, IsExpired, Clear, args_formed, Result, Done, ATime, AFlag, result, state_in, refusal_in, made, refusal, calls, refused_at}
use Rattle.timers.specs.Runs.{Malformed, Accepted, KeepsWell, RunsWell, NeverOne, step, run, IsRun, Promises}

-- ---- one call, by whether the test passes

-- what a call does where the table and its arguments have their forms
done : TimerTable → CodeCall → Result
done t (Set timer at) = Done (out_at 0 (timers_of (set_timer timer at.us (view t))))
done t (Get timer) = ATime (timed_at 0 (get_timer timer (view t)))
done t (Stop timer) = Done (out_at 0 (timers_of (stop_timer timer (view t))))
done t NextTimeout = ATime (timed_at 0 (next_timeout (view t)))
done t (IsExpired timer now) = AFlag (flagged_at 0 (expired timer now.us (view t)))
done t Clear = Done (out_at 0 (timers_of fresh_timers))

-- a test that passes or does not gives the one result or the other
chosen : {A : Type 0} {b c : Bool} (f : A → Result) (x y : A) → b ≡ c → f (cond b x y) ≡ cond c (f x) (f y)
chosen {A} {b} {c} f x y e = ap (λ (d : Bool). f (cond d x y)) e ∙ go c
  where
    go : (d : Bool) → f (cond d x y) ≡ cond d (f x) (f y)
    go true = refl
    go false = refl

one : (b : Bool) → b ≡ (b && true)
one true = refl
one false = refl

decides : (t : TimerTable) (c : CodeCall) → result t c ≡ cond (well_formed t && args_formed c) (done t c) (refused_at c 1 t)
unfolding done
decides t (Set timer at) = chosen Done (out_at 0 (timers_of (set_timer timer at.us (view t)))) (out_at 1 t) (and_assoc (well_formed t) (is_timer timer) (moment_formed_of at.us))
decides t (Get timer) = chosen {b = well_formed t && is_timer timer} ATime (timed_at 0 (get_timer timer (view t))) (timed_at 1 none) refl
decides t (Stop timer) = chosen {b = well_formed t && is_timer timer} Done (out_at 0 (timers_of (stop_timer timer (view t)))) (out_at 1 t) refl
decides t NextTimeout = chosen ATime (timed_at 0 (next_timeout (view t))) (timed_at 1 none) (one (well_formed t))
decides t (IsExpired timer now) = chosen AFlag (flagged_at 0 (expired timer now.us (view t))) (flagged_at 1 false) (and_assoc (well_formed t) (is_timer timer) (moment_formed_of now.us))
decides t Clear = chosen Done (out_at 0 (timers_of fresh_timers)) (out_at 1 t) (one (well_formed t))

pub malformed : Malformed
malformed t c e = decides t c ∙ ap (λ (b : Bool). cond b (done t c) (refused_at c 1 t)) e

-- with a table and arguments of their forms
formed : (t : TimerTable) (c : CodeCall) → (well_formed t && args_formed c) ≡ true → result t c ≡ done t c
formed t c e = decides t c ∙ ap (λ (b : Bool). cond b (done t c) (refused_at c 1 t)) e

done_accepts : (t : TimerTable) (c : CodeCall) → refusal_in (done t c) ≡ 0
unfolding done
done_accepts t (Set timer at) = refl
done_accepts t (Get timer) = refl
done_accepts t (Stop timer) = refl
done_accepts t NextTimeout = refl
done_accepts t (IsExpired timer now) = refl
done_accepts t Clear = refl

pub accepted : Accepted
accepted t c e = ap refusal_in (formed t c e) ∙ done_accepts t c

refused_one : (t : TimerTable) (c : CodeCall) → refusal_in (refused_at c 1 t) ≡ 1
refused_one t (Set timer at) = refl
refused_one t (Get timer) = refl
refused_one t (Stop timer) = refl
refused_one t NextTimeout = refl
refused_one t (IsExpired timer now) = refl
refused_one t Clear = refl

refused_leaves : (t : TimerTable) (c : CodeCall) → state_in t (refused_at c 1 t) ≡ t
refused_leaves t (Set timer at) = refl
refused_leaves t (Get timer) = refl
refused_leaves t (Stop timer) = refl
refused_leaves t NextTimeout = refl
refused_leaves t (IsExpired timer now) = refl
refused_leaves t Clear = refl

-- the table after a call that is not of its form; after one that is
not_made : (t : TimerTable) (c : CodeCall) → (well_formed t && args_formed c) ≡ false → made t c ≡ t
not_made t c e = ap (state_in t) (malformed t c e) ∙ refused_leaves t c

module _ (t : TimerTable) (w : well_formed t ≡ true) where
  args_yes : (c : CodeCall) → args_formed c ≡ true → (well_formed t && args_formed c) ≡ true
  args_yes c e = ap₂ ◌&&◌ w e

  args_no : (c : CodeCall) → args_formed c ≡ false → (well_formed t && args_formed c) ≡ false
  args_no c e = ap₂ ◌&&◌ w e

  done_keeps : (c : CodeCall) → args_formed c ≡ true → well_formed (state_in t (done t c)) ≡ true
  unfolding done
  done_keeps (Set timer at) e = set_formed t w timer at.us (and_both (is_timer timer) (moment_formed_of at.us) e).1
  done_keeps (Get timer) e = w
  done_keeps (Stop timer) e = stop_formed t w timer
  done_keeps NextTimeout e = w
  done_keeps (IsExpired timer now) e = w
  done_keeps Clear e = fresh_formed_lem

  done_steps : (c : CodeCall) → view (state_in t (done t c)) ≡ step (view t) c
  unfolding done
  done_steps (Set timer at) = view_of (set_timer timer at.us (view t))
  done_steps (Get timer) = refl
  done_steps (Stop timer) = view_of (stop_timer timer (view t))
  done_steps NextTimeout = refl
  done_steps (IsExpired timer now) = refl
  done_steps Clear = refl

-- a test passes or does not
tested : {P : Type 0} (b : Bool) → (b ≡ true → P) → (b ≡ false → P) → P
tested true h k = h refl
tested false h k = k refl

pub keeps_well_lem : KeepsWell
keeps_well_lem t c w =
    tested (args_formed c)
    (λ e. ap (λ (r : Result). well_formed (state_in t r)) (formed t c (args_yes t w c e)) ∙ done_keeps t w c e)
    (λ e. ap well_formed (not_made t c (args_no t w c e)) ∙ w)

-- ---- runs

pub runs_well_lem : RunsWell
runs_well_lem t [] w = w
runs_well_lem t (c ∷ cs) w = runs_well_lem (made t c) cs (keeps_well_lem t c w)

pub never_one_lem : NeverOne
never_one_lem cs c =
    let t = calls fresh_call cs in
    let w = runs_well_lem fresh_call cs fresh_formed_lem in
    tested (args_formed c)
    (λ e. ap (λ (n : ℕ). eqb n 1) (accepted t c (args_yes t w c e)) ∙ sym (ap not e))
    (λ e. ap (λ (r : Result). eqb (refusal_in r) 1) (malformed t c (args_no t w c e)) ∙ ap (λ (n : ℕ). eqb n 1) (refused_one t c) ∙ sym (ap not e))

pub is_run_lem : IsRun
is_run_lem t [] w = refl
is_run_lem t (c ∷ cs) w = is_run_lem (made t c) cs (keeps_well_lem t c w) ∙ test (args_formed c) refl
  where
    test : (b : Bool) → args_formed c ≡ b → run (view (made t c)) (keep args_formed cs) ≡ run (view t) (cond b (c ∷ keep args_formed cs) (keep args_formed cs))
    test true e = ap (λ (v : Timers). run v (keep args_formed cs)) (ap (λ (r : Result). view (state_in t r)) (formed t c (args_yes t w c e)) ∙ done_steps t w c)
    test false e = ap (λ (u : TimerTable). run (view u) (keep args_formed cs)) (not_made t c (args_no t w c e))

-- ---- all of it

pub held : Promises
held = record {
  malformed = malformed;
  accepted = accepted;
  keeps_well = keeps_well_lem;
  fresh_well = fresh_formed_lem;
  runs_well = runs_well_lem;
  never_one = never_one_lem;
  is_run = is_run_lem;
}

-- ---- a run with every call, those of no form too, computed

abbrev moment : ℕ → Moment
moment n = record { us = n }

abbrev later : ℕ
later = 2 ^ 63

abbrev told : List CodeCall
told = Set 0 (moment 30) ∷ Set 8 (moment 20) ∷ Set 9 (moment 1) ∷ Set 0 (moment later) ∷ NextTimeout ∷ IsExpired 8 (moment 20) ∷ IsExpired 8 (moment later) ∷ Stop 8 ∷ Stop 9 ∷ Get 8 ∷ Get 9 ∷ []

abbrev refusals : TimerTable → List CodeCall → List ℕ
refusals t [] = []
refusals t (c ∷ cs) = refusal t c ∷ refusals (made t c) cs

pub answered : refusals fresh_call told ≡ 0 ∷ 0 ∷ 1 ∷ 1 ∷ 0 ∷ 0 ∷ 1 ∷ 0 ∷ 1 ∷ 0 ∷ 1 ∷ []
answered = refl

-- what stands after it, and the next deadline before and after; and cleared
pub left : (next_timeout (view (calls fresh_call (Set 0 (moment 30) ∷ Set 8 (moment 20) ∷ []))) ≡ some 20)
    × (view (calls fresh_call told) ≡ set_timer 0 30 fresh_timers) × (view (made (calls fresh_call told) Clear) ≡ fresh_timers)
left = (refl, refl, refl)
