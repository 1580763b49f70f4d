-- Laws of the timer table: reading and building are inverse, every call keeps the table well formed, what finds the least deadline, and which numbers the timers have.
use Rattle.std.specs.Prelude.{Some, Ok, MatchResult, ℕ, ◌+◌, ◌<◌, min, ◌≡◌, refl, List, [], ◌∷◌, ◌++◌, map, Bool, true, false, cond, ◌&&◌, eqb, leb, ltb, length, take, get_or, set}
use Rattle.std.proofs.Common.{rules, Ordering, Less, Equal, Greater, sym, ap, ap₂, ◌∙◌, append-nil, arith, add-one, length-set, take-suc, eqb-true, eq-eqb, ltb-true, ltb-false}
use Rattle.std.proofs.Math.Option.{Option, none, some}
use Rattle.std.proofs.lemmas.List.{length-map}
use Rattle.std.proofs.Math.ListN.{get_or-map}
use Rattle.std.proofs.Math.Bool.{and-true, and_assoc}
use Rattle.std.proofs.lemmas.Cmp.{ranked}
use Rattle.std.specs.List.{filter_map, cons_option, fold, reduce}
use Rattle.std.specs.Ordering.{MatchOrdering, nat_cmp, min_by_ordering}
use Rattle.lists.specs.Defs.{all, least, less, somes, maybe, given}
use Rattle.lists.specs.Bools.{and_both}
use Rattle.lists.specs.Search.{least_snoc}
use Rattle.lists.specs.Tests.{past_all}
use Rattle.lists.specs.Maps.{map_set, map_is, somes_append, all_set}
use Rattle.lists.specs.Held.{get_or_in}
use Rattle.values.specs.Limits.{timer_count}
use Rattle.values.specs.declared.time.Deadline.{Deadline}
use Rattle.values.specs.declared.time.Moment.{Moment}
use Rattle.values.specs.Time.{moment_formed_of, deadline_formed_of, deadline_view, deadline_of, moved_of}
use Rattle.values.specs.Laws.{deadline_is, deadline_of_lem}
use Rattle.values.specs.declared.refusals.Refusal.TheVariants.{Malformed}
use Rattle.timers.specs.declared.table.Timer.{Timer}
use Rattle.timers.specs.declared.table.Timer.TheVariants.{LossDetection, Ack, Pacer, Idle, Handshake, Draining, KeyDiscard, KeepAlive, PathChallenge}
use Rattle.timers.specs.declared.table.TimerTable.{TimerTable}
use Rattle.timers.specs.Names.{number_of, timer_named}
use Rattle.timers.specs.Calls.{is_timer}
use Rattle.timers.specs.Timers.{Timers, well_formed, view, timers_of, fresh_timers, set_timer, stop_timer, get_timer, next_timeout, sooner_of}

-- ---- reading and building

module _ (t : TimerTable) (w : well_formed t ≡ true) where
  parts : (length t.expires ≡ timer_count) × (all deadline_formed_of t.expires ≡ true)
  parts =
      let p = and_both (eqb (length t.expires) timer_count) (all deadline_formed_of t.expires) w in
      (eqb-true (length t.expires) timer_count p.0, p.1)

  pub nine : length t.expires ≡ timer_count
  nine = parts.0

  pub expires_is : map deadline_of (view t) ≡ t.expires
  expires_is = map_is deadline_formed_of deadline_view deadline_of deadline_is t.expires parts.1

  pub view_is : timers_of (view t) ≡ t
  view_is = λ i. record { expires = expires_is i }

  -- a store in the table is one in its list
  pub store : (timer : ℕ) (o : Option ℕ) → set t.expires timer (deadline_of o) ≡ map deadline_of (set (view t) timer o)
  store timer o = sym (map_set deadline_of (view t) timer o ∙ ap (λ (l : List Deadline). set l timer (deadline_of o)) expires_is)

  -- a read of the table is one of its list
  pub read : (timer : ℕ) (d : Deadline) → timer < timer_count → get_or t.expires timer d ≡ deadline_of (get_timer timer (view t))
  read timer d h =
      get_or_in t.expires timer d (deadline_of none) (omega (arith, nine))
      ∙ ap (λ (l : List Deadline). get_or l timer (deadline_of none)) (sym expires_is)
      ∙ get_or-map deadline_of (view t) timer none

pub view_of : (v : Timers) → view (timers_of v) ≡ v
view_of [] = refl
view_of (o ∷ os) = ap₂ (λ (p : Option ℕ) (ps : Timers). p ∷ ps) (deadline_of_lem o) (view_of os)

-- ---- the least

soon : Option ℕ → Option ℕ → Option ℕ
soon o none = o
soon o (some n) = less o n

sooner_is : (o : Option ℕ) (d : Deadline) → sooner_of (deadline_of o) d ≡ deadline_of (soon o (deadline_view d))
unfolding soon
sooner_is o d = go o d.at.us d.set
  where
    go : (o : Option ℕ) (us : ℕ) (s : Bool) → sooner_of (deadline_of o) (record { at = record { us = us }; set = s }) ≡ deadline_of (soon o (given s us))
    go none us false = refl
    go (some b) us false = refl
    go none us true = refl
    go (some b) us true = lesser (ltb us b) refl
      where
        lesser : (x : Bool) → ltb us b ≡ x → cond x (deadline_of (some us)) (deadline_of (some b)) ≡ deadline_of (some (min b us))
        lesser true e = ap (λ (n : ℕ). deadline_of (some n)) (omega (arith, ltb-true us b e))
        lesser false e = ap (λ (n : ℕ). deadline_of (some n)) (omega (arith, ltb-false us b e))

least_one : (v : Timers) (o : Option ℕ) → least (somes (v ++ (o ∷ []))) ≡ soon (least (somes v)) o
unfolding soon
least_one v none = ap least (somes_append v (none ∷ []) ∙ append-nil (somes v))
least_one v (some n) = ap least (somes_append v (some n ∷ [])) ∙ least_snoc (somes v) n

-- one timer more is looked at, where a loop looks at one after the other
module _ (t : TimerTable) (w : well_formed t ≡ true) (i : ℕ) (h : i < timer_count) (d best : Deadline) (e : best ≡ deadline_of (next_timeout (take i (view t)))) where
  pub next_more : (r : Deadline) → r ≡ sooner_of best (get_or t.expires i d) → r ≡ deadline_of (next_timeout (take (i + 1) (view t)))
  next_more r q =
      q
      ∙ ap₂ sooner_of e (read t w i d h)
      ∙ sooner_is (next_timeout (take i (view t))) (deadline_of (get_timer i (view t)))
      ∙ ap deadline_of
      (ap (soon (next_timeout (take i (view t)))) (deadline_of_lem (get_timer i (view t)))
      ∙ sym (least_one (take i (view t)) (get_timer i (view t)))
      ∙ ap (λ (v : Timers). next_timeout v) (sym (ap (λ (n : ℕ). take n (view t)) (add-one i) ∙ take-suc (view t) i none (omega (arith, nine t w, length-map t.expires deadline_view)))))

-- ---- the least, as a chain over the table finds it

-- the moments that are set are those of the deadlines that are
moments : (l : List Deadline) → map (λ (m : Moment). m.us) (filter_map (λ (d : Deadline). moved_of (deadline_view d)) l) ≡ somes (map deadline_view l)
moments [] = refl
moments (d ∷ ds) = go (deadline_view d) (moments ds)
  where
    go : (o : Option ℕ) → map (λ (m : Moment). m.us) (filter_map (λ (e : Deadline). moved_of (deadline_view e)) ds) ≡ somes (map deadline_view ds)
        → map (λ (m : Moment). m.us) (cons_option (moved_of o) (filter_map (λ (e : Deadline). moved_of (deadline_view e)) ds)) ≡ somes (o ∷ map deadline_view ds)
    go none e = e
    go (some n) e = ap (λ (ns : List ℕ). n ∷ ns) e

less_min : (o : Option ℕ) (x y : ℕ) → less o (min x y) ≡ less (less o y) x
less_min none x y = ap some (omega arith)
less_min (some m) x y = ap some (omega arith)

-- the first of two moments that are equal, else the one that is less
earlier : Moment → Moment → Moment
earlier a b = min_by_ordering (nat_cmp a.us b.us) a b

earlier_us : (a b : Moment) → (earlier a b).us ≡ min a.us b.us
unfolding earlier
earlier_us a b = go (nat_cmp a.us b.us) (ranked a.us b.us (nat_cmp a.us b.us) refl)
  where
    go : (o : Ordering) → MatchOrdering o (a.us < b.us) (a.us ≡ b.us) (b.us < a.us) → (min_by_ordering o a b).us ≡ min a.us b.us
    go Less h = omega (arith, h)
    go Equal h = omega (arith, h)
    go Greater h = omega (arith, h)

earliest : (a : Moment) (l : List Moment) → Some (fold earlier a l) ≡ moved_of (less (least (map (λ (m : Moment). m.us) l)) a.us)
earliest a [] = refl
earliest a (b ∷ l) =
    let o = least (map (λ (m : Moment). m.us) l) in
    earliest (earlier a b) l ∙ ap moved_of (ap (less o) (earlier_us a b) ∙ less_min o a.us b.us)

pub next_of : (l : List Deadline) → reduce (λ (a b : Moment). min_by_ordering (nat_cmp a.us b.us) a b) (filter_map (λ (d : Deadline). moved_of (deadline_view d)) l) ≡ moved_of (least (somes (map deadline_view l)))
unfolding earlier
next_of l = go (filter_map (λ (d : Deadline). moved_of (deadline_view d)) l) ∙ ap (λ (ns : List ℕ). moved_of (least ns)) (moments l)
  where
    go : (ms : List Moment) → reduce earlier ms ≡ moved_of (least (map (λ (m : Moment). m.us) ms))
    go [] = refl
    go (a ∷ ms) = earliest a ms

-- ---- the names

-- a number below nine names the timer that has it; any other is refused
pub named : (n : ℕ) → MatchResult (timer_named n) (λ t. (is_timer n ≡ true) × (number_of t ≡ n)) (λ e. (is_timer n ≡ false) × (e ≡ Malformed))
named n = search rules

-- no timer is left out
pub names_all : (t : Timer) → timer_named (number_of t) ≡ Ok t
names_all LossDetection = refl
names_all Ack = refl
names_all Pacer = refl
names_all Idle = refl
names_all Handshake = refl
names_all Draining = refl
names_all KeyDiscard = refl
names_all KeepAlive = refl
names_all PathChallenge = refl

-- ---- formed, as a chain over the table tests it

fold_all : {A : Type 0} (p : A → Bool) (ok : Bool) (l : List A) → fold (λ (b : Bool) (a : A). b && p a) ok l ≡ (ok && all p l)
fold_all p ok [] = sym (and-true ok)
fold_all p ok (x ∷ xs) = fold_all p (ok && p x) xs ∙ and_assoc ok (p x) (all p xs)

pub formed_by : (t : TimerTable) → length t.expires ≡ timer_count → fold (λ (b : Bool) (d : Deadline). b && deadline_formed_of d) true t.expires ≡ well_formed t
formed_by t n = fold_all deadline_formed_of true t.expires ∙ sym (past_all deadline_formed_of timer_count 0 t.expires n)

-- ---- expired

pub expired_is : (o : Option ℕ) (d : Deadline) (now : ℕ) → d ≡ deadline_of o → (d.set && leb d.at.us now) ≡ maybe o false (λ (at : ℕ). leb at now)
expired_is none d now e = ap (λ (x : Deadline). x.set && leb x.at.us now) e
expired_is (some m) d now e = ap (λ (x : Deadline). x.set && leb x.at.us now) e

-- ---- kept well formed

formed_of : (o : Option ℕ) → maybe o true moment_formed_of ≡ true → deadline_formed_of (deadline_of o) ≡ true
formed_of none e = refl
formed_of (some m) e = e

pub fresh_formed_lem : well_formed (timers_of fresh_timers) ≡ true
fresh_formed_lem = refl

module _ (t : TimerTable) (w : well_formed t ≡ true) (timer : ℕ) where
  kept : (o : Option ℕ) → maybe o true moment_formed_of ≡ true → well_formed (record { expires = set t.expires timer (deadline_of o) }) ≡ true
  kept o f =
      ap₂ ◌&&◌
      (eq-eqb (length (set t.expires timer (deadline_of o))) timer_count (length-set t.expires timer (deadline_of o) ∙ nine t w))
      (all_set deadline_formed_of t.expires timer (deadline_of o) (parts t w).1 (formed_of o f))

  pub set_formed : (at : ℕ) → moment_formed_of at ≡ true → well_formed (timers_of (set_timer timer at (view t))) ≡ true
  set_formed at f = ap (λ (l : List Deadline). well_formed (record { expires = l })) (sym (store t w timer (some at))) ∙ kept (some at) f

  pub stop_formed : well_formed (timers_of (stop_timer timer (view t))) ≡ true
  stop_formed = ap (λ (l : List Deadline). well_formed (record { expires = l })) (sym (store t w timer none)) ∙ kept none refl
