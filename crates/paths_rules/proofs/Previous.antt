-- 8.2.3 over runs of calls: a response to a challenge that was sent before, and only to one that was.
use Rattle.std.specs.Prelude.{ℕ, zero, suc, ◌+◌, ◌^◌, ◌≡◌, refl, List, [], ◌∷◌, ◌++◌, Bool, true, false, cond, not, ◌&&◌, ◌||◌, length, get_or, eqb, leb, ltb}
use Rattle.std.proofs.Common.{sym, ap, ◌∙◌, subst, arith, eqb-true, eq-eqb, lt-ltb, ltb-true}
use Rattle.std.proofs.Math.Bool.{or-true, or-false}
use Rattle.lists.specs.Defs.{any}
use Rattle.lists.specs.Bools.{and_both}
use Rattle.values.specs.Limits.{max_probing_timeouts, min_client_initial_len}
use Rattle.values.specs.declared.address.FourTuple.{FourTuple}
use Rattle.paths_rules.specs.State.{Path, Challenge}
use Rattle.paths_rules.specs.With.{with_ask, with_lost}
use Rattle.paths_rules.specs.Path.{new_path_of, zero_path, carries, matches, unmatched, heeds, validated, largest_after, expire, probing, timeout, challenge}
use Rattle.paths_rules.specs.Table.{Table, Out, Nothing, Inserted, refused, accepted, path_at, known, fresh, fresh_formed, zero_table}
use Rattle.paths_rules.specs.Calls.{Act, Send, Respond, Credit, Call, On, Insert, Timeout}
use Rattle.paths_rules.specs.Calls.{call_formed, step, apply, after, run, effect, refusal}
use Rattle.paths_rules.proofs.Steps.{both, decided, never, or_neither, heeds_is, act_keeps, apply_is, act_is, path_is, act_holds, call_holds}
use Rattle.paths_rules.proofs.Frame.{timeout_holds}
use Rattle.paths_rules.proofs.Kept.{run_well, keeps_well_lem}
use Rattle.paths_rules.proofs.Promised.{after_new}
use Rattle.paths_rules.specs.Well.{well}
use Rattle.paths_rules.specs.Promise.{Starts, starts}
use Rattle.paths_rules.specs.Words.{two}
use Rattle.paths_rules.specs.Rfc.{Response, Sent, response, sent, Remains, is_timeout, timed_out, already, Previous, Asked, asked, later, OnlyPrevious}

-- ---- what stands

-- a path that is not all zeros is known
pub is_known : (q : Path → Bool) → q zero_path ≡ false → (l : List Path) (p : ℕ) → q (get_or l p zero_path) ≡ true → ltb p (length l) ≡ true
is_known q z [] p e = never (sym e ∙ z)
is_known q z (x ∷ l) zero e = lt-ltb 0 (length (x ∷ l)) (omega arith)
is_known q z (x ∷ l) (suc p) e = lt-ltb (suc p) (length (x ∷ l)) (omega (arith, ltb-true p (length l) (is_known q z l p e)))

-- a challenge that was sent, and was not refused
pub sent_accepted : (t : Table) (s : Sent) → (step t (sent s)).refusal ≡ 0
    → (refusal t s.path (Send s.«data» s.size s.now) ≡ 0) × (known s.path t ≡ true)
sent_accepted t s r = let z = accepted_is (refusal t s.path (Send s.«data» s.size s.now)) _ t r in (z, known_is (known s.path t) _ z)
  where
    accepted_is : (n : ℕ) (o : Out) (w : Table) → (cond (eqb n 0) o (refused n w)).refusal ≡ 0 → n ≡ 0
    accepted_is n o w = test (eqb n 0) refl
      where
        test : (b : Bool) → eqb n 0 ≡ b → (cond b o (refused n w)).refusal ≡ 0 → n ≡ 0
        test true q e = eqb-true n 0 q
        test false q e = e

    known_is : (b : Bool) (n : ℕ) → cond (not b) 2 n ≡ 0 → b ≡ true
    known_is true n e = refl
    known_is false n e = absurd (omega arith)

module _ (p d : ℕ) where
  abbrev stands : List Challenge → Bool
  stands l = any (carries d) l

  -- one more at the end
  more : (l : List Challenge) (c : Challenge) → stands l ≡ true → stands (l ++ (c ∷ [])) ≡ true
  more [] c e = never (sym e)
  more (b ∷ l) c e = test (carries d b) (more l c) e
    where
      test : (u : Bool) → (stands l ≡ true → stands (l ++ (c ∷ [])) ≡ true) → (u || stands l) ≡ true → (u || stands (l ++ (c ∷ []))) ≡ true
      test true r e = refl
      test false r e = r e

  at_end : (l : List Challenge) (c : Challenge) → carries d c ≡ true → stands (l ++ (c ∷ [])) ≡ true
  at_end [] c e = ap (λ (b : Bool). b || false) e
  at_end (b ∷ l) c e = ap (λ (x : Bool). carries d b || x) (at_end l c e) ∙ or-true (carries d b)

  -- and back: it stood before, or is the one at the end
  stood_before : {C : Type 0} (l : List Challenge) (c : Challenge) → stands (l ++ (c ∷ [])) ≡ true → (stands l ≡ true → C) → (carries d c ≡ true → C) → C
  stood_before [] c e stood new = new (sym (or-false (carries d c)) ∙ e)
  stood_before {C} (b ∷ l) c e stood new = test (carries d b) (λ k h. stood_before l c k h new) e stood
    where
      test : (u : Bool) → (stands (l ++ (c ∷ [])) ≡ true → (stands l ≡ true → C) → C) → (u || stands (l ++ (c ∷ []))) ≡ true → ((u || stands l) ≡ true → C) → C
      test true r e stood = stood refl
      test false r e stood = r e stood

  -- among those with other data
  stood_kept : (e : ℕ) (l : List Challenge) → stands (unmatched e l) ≡ true → stands l ≡ true
  stood_kept e [] k = k
  stood_kept e (c ∷ l) k = test (carries e c) (carries d c) refl (stood_kept e l) k
    where
      test : (u v : Bool) → carries d c ≡ v → (stands (unmatched e l) ≡ true → stands l ≡ true)
          → stands (cond (not u) (c ∷ unmatched e l) (unmatched e l)) ≡ true → (v || stands l) ≡ true
      test u true i r k = refl
      test true false i r k = r k
      test false false i r k = r (sym (ap (λ (v : Bool). v || stands (unmatched e l)) i) ∙ k)

  -- among those that a timeout leaves
  stood_expired : (now : ℕ) (l : List Challenge) (x : Path) → matches d (expire now l x) ≡ true → stands l ≡ true
  stood_expired now [] x = λ k. k
  stood_expired now (c ∷ l) x =
      both P (leb c.deadline now)
      (both P (ltb (x.lost + 1) max_probing_timeouts)
      (λ k. ap (λ (b : Bool). carries d c || b) (stood_expired now l (with_ask true (with_lost (x.lost + 1) x)) k) ∙ or-true (carries d c)) (λ k. never (sym k))) (λ k. k)
    where
      P : Path → Type 0
      P y = matches d y ≡ true → stands (c ∷ l) ≡ true

  -- ---- a response to a challenge that was sent before

  abbrev Verified : Path → Type 0
  Verified x = x.verified ≡ true

  -- the address is verified, or one with the data stands
  abbrev Held : Path → Type 0
  Held x = (x.verified || matches d x) ≡ true

  module _ (t : Table) (c : Call) (remains : (a : FourTuple) (m : ℕ) → c ≡ Insert a m → (apply t c).answer ≡ Inserted p → ⊥) where
    stays_verified : Verified (path_at p t) → Verified (path_at p (after t c))
    stays_verified h =
        call_holds Verified p t h (λ a x k. k) (λ x k. k) c
        (λ now e. timeout_holds Verified (λ v x k. k) (λ x k. k) (λ n x k. k) (λ x k. k) now) act (λ a m i e. absurd (remains a m i e))
      where
        x : Path
        x = path_at p t

        act : (a : Act) → refusal t p a ≡ 0 → c ≡ On p a → Verified (effect t a (path_at p t))
        act a z e =
            act_keeps (λ rank sent lost largest verified. verified ≡ true) t x h a (λ b size now i. h)
            (λ b now i. both Verified (heeds b x) (both Verified (leb min_client_initial_len (largest_after b x)) refl refl) h) (λ i. refl)

    -- by no call but a timeout is a challenge given up before the address is verified
    stays_standing : is_timeout c ≡ false → Held (path_at p t) → Held (path_at p (after t c))
    stays_standing q h =
        call_holds Held p t h (λ a x k. k) (λ x k. k) c (λ now e. never (sym (ap is_timeout e) ∙ q)) act (λ a m i e. absurd (remains a m i e))
      where
        x : Path
        x = path_at p t

        one_more : (b size now : ℕ) (v : Bool) → (v || stands x.sent) ≡ true → (v || stands (x.sent ++ (challenge b size now x.lost ∷ []))) ≡ true
        one_more b size now true k = refl
        one_more b size now false k = more x.sent (challenge b size now x.lost) k

        act : (a : Act) → refusal t p a ≡ 0 → c ≡ On p a → Held (effect t a (path_at p t))
        act a z e =
            act_keeps (λ rank sent lost largest verified. (verified || stands sent) ≡ true) t x h a (λ b size now i. one_more b size now x.verified h)
            (λ b now i. both Held (heeds b x) (both Held (leb min_client_initial_len (largest_after b x)) refl refl) h) (λ i. refl)

    stays_held : (is_timeout c && matches d (path_at p t) && not (matches d (path_at p (after t c)))) ≡ false → Held (path_at p t) → Held (path_at p (after t c))
    stays_held e h = test (is_timeout c) (path_at p t).verified refl refl e h
      where
        y : Path
        y = path_at p (after t c)

        -- the timeout did not take it
        left : (a b : Bool) → a ≡ true → (a && not b) ≡ false → b ≡ true
        left true true i e = refl
        left true false i e = never e
        left false b i e = never (sym i)

        test : (u v : Bool) → is_timeout c ≡ u → (path_at p t).verified ≡ v → (u && matches d (path_at p t) && not (matches d y)) ≡ false
            → (v || matches d (path_at p t)) ≡ true → Held y
        test false v q i e h = stays_standing q (ap (λ (b : Bool). b || matches d (path_at p t)) i ∙ h)
        test true true q i e h = ap (λ (b : Bool). b || matches d y) (stays_verified i)
        test true false q i e h = ap (λ (b : Bool). y.verified || b) (left (matches d (path_at p t)) (matches d y) h e) ∙ or-true y.verified

  run_held : (cs : List Call) (t : Table) → Remains p t cs → timed_out p d t cs ≡ false → Held (path_at p t) → Held (path_at p (run t cs))
  run_held [] t r e h = h
  run_held (c ∷ cs) t r e h =
      let w = or_neither (is_timeout c && matches d (path_at p t) && not (matches d (path_at p (after t c)))) _ e in
      run_held cs (after t c) r.1 w.1 (stays_held t c r.0 w.0 h)

  -- ---- and only to one that was sent

  module _ {C : Type 0} (t : Table) (c : Call) where
    -- what stands after a call stood before it, and the call inserts no path there, or the call sent it
    one_traced : matches d (path_at p (after t c)) ≡ true
        → (matches d (path_at p t) ≡ true → ((a : FourTuple) (m : ℕ) → c ≡ Insert a m → (apply t c).answer ≡ Inserted p → ⊥) → C)
        → ((size now : ℕ) → c ≡ On p (Send d size now) → (apply t c).refusal ≡ 0 → C) → C
    one_traced e stood sends = test (well t && call_formed c) refl
      where
        P : Path → Type 0
        P y = matches d y ≡ true → C

        x : Path
        x = path_at p t

        remains : (a : FourTuple) (m : ℕ) → c ≡ Insert a m → (apply t c).answer ≡ Inserted p → ⊥
        remains a m i n =
            let g : path_at p (after t (Insert a m)) ≡ new_path_of a m = (after_new p a m t (rw i at n)).is in
            never (sym e ∙ ap (λ (b : Call). matches d (path_at p (after t b))) i ∙ ap (λ (y : Path). matches d y) g)

        timed : (now : ℕ) (y : Path) → P y → P (timeout now y)
        timed now y k = both P (probing y) (λ m. k (stood_expired now y.sent y m)) k

        h : P x
        h k = stood k remains

        accepted_is : (well t && call_formed c) ≡ true → (a : Act) → refusal t p a ≡ 0 → c ≡ On p a → (apply t c).refusal ≡ 0
        accepted_is w a z i =
            ap (λ (b : Bool). (cond b (step t c) (refused 1 t)).refusal) w
            ∙ ap (λ (b : Call). (step t b).refusal) i ∙ ap (λ (o : Out). o.refusal) (act_is t p a z)

        act : (well t && call_formed c) ≡ true → (a : Act) → refusal t p a ≡ 0 → c ≡ On p a → P (effect t a (path_at p t))
        act w a z i =
            act_keeps (λ rank sent lost largest verified. stands sent ≡ true → C) t x h a
            (λ b size now j k. stood_before x.sent (challenge b size now x.lost) k h
            (λ m. sends size now (i ∙ ap (On p) j ∙ ap (λ (n : ℕ). On p (Send n size now)) (eqb-true b d m)) (accepted_is w a z i)))
            (λ b now j. both P (heeds b x) (both P (leb min_client_initial_len (largest_after b x)) (λ k. never (sym k)) (λ k. h (stood_kept b x.sent k))) h) (λ j. h)

        test : (b : Bool) → (well t && call_formed c) ≡ b → C
        test true w = call_holds P p t h (λ a x k. k) (λ x k. k) c (λ now i y k. timed now y k) (act w) (λ a m i n k. never (sym k)) e
        test false w = h (sym (ap (λ (b : Bool). matches d (path_at p (cond b (step t c) (refused 1 t)).table)) w) ∙ e)

  traced : {C : Type 0} (cs : List Call) (t : Table) → matches d (path_at p (run t cs)) ≡ true
      → (matches d (path_at p t) ≡ true → Remains p t cs → C) → (Asked p d t cs → C) → C
  traced [] t e stood sends = stood e tt
  traced (c ∷ cs) t e stood sends =
      traced cs (after t c) e
      (λ m r. one_traced t c m (λ k n. stood k (n, r))
      (λ size now i z.
      sends (subst (λ (b : Call). Asked p d t (b ∷ cs)) (sym i)
      (asked t size now cs (sym (ap (λ (b : Call). (apply t b).refusal) i) ∙ z) (subst (λ (b : Call). Remains p (after t b) cs) i r)))))
      (λ a. sends (later t c cs a))

pub previous : Previous
previous t s w r cs remains f formed e = λ i j.
    let p : ℕ = s.path in
    let d : ℕ = s.«data» in
    let u : Table = run (after t (sent s)) cs in
    let n = or_neither (timed_out p d (after t (sent s)) cs) (already u f) e in
    let k : Held p d (path_at p u) = run_held p d cs (after t (sent s)) remains n.0 (begun t s w r) in
    answered u f (run_well cs (after t (sent s)) (keeps_well_lem t (sent s) w)) formed n.1 (rw (i, j) k)
  where
    -- just after it was sent
    begun : (t : Table) (s : Sent) → well t ≡ true → (apply t (sent s)).refusal ≡ 0 → Held s.path s.«data» (path_at s.path (after t (sent s)))
    begun t s w r = test (call_formed (sent s)) refl
      where
        a : Act
        a = Send s.«data» s.size s.now

        x : Path
        x = path_at s.path t

        test : (b : Bool) → call_formed (sent s) ≡ b → Held s.path s.«data» (path_at s.path (after t (sent s)))
        test true g =
            let q = apply_is t (sent s) w g in
            let m = sent_accepted t s (sym (ap (λ (o : Out). o.refusal) q) ∙ r) in
            subst (Held s.path s.«data») (sym (ap (λ (o : Out). path_at s.path o.table) q ∙ path_is t s.path a m.1 m.0))
            (ap (λ (b : Bool). x.verified || b) (at_end s.path s.«data» x.sent (challenge s.«data» s.size s.now x.lost) (eq-eqb s.«data» s.«data» refl)) ∙ or-true x.verified)
        test false g = absurd (let z : 1 ≡ 0 = sym (ap (λ (b : Bool). (cond (well t && b) (step t (sent s)) (refused 1 t)).refusal) g ∙ refused_1 (well t)) ∙ r in omega arith)
          where
            refused_1 : (b : Bool) → (cond (b && false) (step t (sent s)) (refused 1 t)).refusal ≡ 1
            refused_1 true = refl
            refused_1 false = refl

    answered : (u : Table) (f : Response) → well u ≡ true → call_formed (response f) ≡ true → validated (path_at f.path u) ≡ false
        → Held f.path f.«data» (path_at f.path u) → (path_at f.path (apply u (response f)).table).verified ≡ true
    answered u f w c v h =
        subst (λ (y : Path). y.verified ≡ true)
        (sym (ap (λ (o : Out). path_at f.path o.table) (apply_is u (response f) w c)
        ∙ path_is u f.path (Respond f.«data» f.now) (is_known (λ (y : Path). y.verified || matches f.«data» y) refl u.paths f.path h) refl))
        (decided (λ (y : Path). y.verified ≡ true) (heeds f.«data» x)
        (λ q. both (λ (y : Path). y.verified ≡ true) (leb min_client_initial_len (largest_after f.«data» x)) refl refl)
        (λ q. sym (or-false x.verified) ∙ ap (λ (b : Bool). x.verified || b) (sym (sym (heeds_is f.«data» x v) ∙ q)) ∙ h))
      where
        x : Path
        x = path_at f.path u

pub only_previous_lem : OnlyPrevious
only_previous_lem server factor t s cs f p v e =
    let m = matched in
    (m.0, traced p f.«data» cs t m.1 (λ k r. never (sym k ∙ none t s p)) (λ a. a))
  where
    u : Table
    u = run t cs

    P : Path → Type 0
    P y = y.verified ≡ true → (f.path ≡ p) × (matches f.«data» (path_at p u) ≡ true)

    old : P (path_at p u)
    old k = never (sym k ∙ v)

    matched : (f.path ≡ p) × (matches f.«data» (path_at p u) ≡ true)
    matched =
        both (λ (o : Out). P (path_at p o.table)) (well u && call_formed (response f))
        (act_holds P p u old f.path (Respond f.«data» f.now) (λ z i.
        decided P (heeds f.«data» (path_at f.path u)) (λ q k. (i, rw (← i) (and_both (not (validated (path_at f.path u))) _ q).1)) (λ q k. never (sym k ∙ rw i v)))) old e

    -- in a fresh table none stands
    none : (t : Table) → Starts server factor t → (p : ℕ) → matches f.«data» (path_at p t) ≡ false
    none t (starts a m limit z) p = first (fresh_formed a limit) p
      where
        first : (b : Bool) (p : ℕ) → matches f.«data» (path_at p (cond b (accepted Nothing (fresh a m limit factor server)) (refused 1 zero_table)).table) ≡ false
        first false p = refl
        first true zero = refl
        first true (suc p) = refl

-- ---- an exchange by computation: between challenge and response there are a guess, the same data on another path, a timeout before the deadline, a
-- challenge whose moment is past 2^63-1, and a credit

abbrev probe : Sent
probe = record { path = 1; «data» = 7; size = 1200; now = 0 }

abbrev between : List Call
between = On 1 (Respond 8 5) ∷ On 0 (Respond 7 5) ∷ Timeout 24999 ∷ On 1 (Send 9 1200 (2 ^ 63)) ∷ On 1 (Credit 1) ∷ []

pub exchanged : ((path_at 1 (run (after two (sent probe)) between)).verified ≡ false)
    × ((path_at 1 (after (run (after two (sent probe)) between) (On 1 (Respond 7 24999)))).verified ≡ true)
exchanged = (
  refl,
  previous two probe refl refl between
      ((λ a m i e. act i), ((λ a m i e. act i), ((λ a m i e. let z : ◌≡◌ {A = ℕ} 0 1 = cc in omega arith), ((λ a m i e. act i), ((λ a m i e. act i), tt)))))
      (record { path = 1; «data» = 7; now = 24999 }) refl refl refl refl,
)
  where
    -- a call on one path is no insertion
    act : {q m : ℕ} {b : Act} {a : FourTuple} → On q b ≡ Insert a m → ⊥
    act i = let z : ◌≡◌ {A = ℕ} 0 1 = cc in omega arith
