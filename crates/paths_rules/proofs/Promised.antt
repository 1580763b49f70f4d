-- The proof of the law of the allowance: one call moves credit and totals together, and so does a run.
use Rattle.std.specs.Prelude.{ℕ, ◌+◌, ◌-◌, ◌*◌, ◌^◌, ◌≤◌, ◌<◌, min, ◌≡◌, refl, List, [], ◌∷◌, map, Bool, true, false, cond, ◌&&◌, length, get_or, set, eqb, ltb}
use Rattle.std.proofs.Common.{sym, ap, ◌∙◌, subst, arith, mul-add, mul-zero, length-append, length-set, get_or-set_same, eqb-true}
use Rattle.std.proofs.Math.Option.{Option, none, some}
use Rattle.std.proofs.lemmas.List.{length-map, get_or_at}
use Rattle.std.proofs.lemmas.Bool.{eqb-false}
use Rattle.lists.specs.Defs.{first_with}
use Rattle.lists.specs.Search.{first_below}
use Rattle.values.specs.declared.address.FourTuple.{FourTuple}
use Rattle.paths_rules.specs.State.{Path}
use Rattle.paths_rules.specs.Path.{zero_path, new_path_of, top, unused, unlist}
use Rattle.paths_rules.specs.Table.{Table, Out, Nothing, Inserted, refused, accepted, path_at, fresh, fresh_formed, zero_table, appended, evict, insert}
use Rattle.paths_rules.specs.Well.{well}
use Rattle.paths_rules.specs.Calls.{Act, Initiate, Pop, Receive, Send, Respond, Credit, Charge, SetScid, SetDcid, SetActive, Verify, Look, Call, On, Insert}
use Rattle.paths_rules.specs.Calls.{Timeout, Ping, Multipath, Ask, call_formed, step, apply, after, effect, run}
use Rattle.paths_rules.specs.Promise.{Starts, starts, Amounts, nothing, amounts, amounts_to, total_credit, total_charge, Lasts, Within, Begins, first, inserted}
use Rattle.paths_rules.specs.Promise.{Demand3, Allowance, OneRun}
use Rattle.paths_rules.proofs.Steps.{both, apply_is, call_more}
use Rattle.paths_rules.proofs.Frame.{only_credit_lem, frame}
use Rattle.paths_rules.proofs.Kept.{keeps_well_lem, run_well, fresh_well_lem}

-- ---- what no call changes

record Stays (t u : Table) : Type 0 where
  server : u.server ≡ t.server
  factor : u.factor ≡ t.factor
  long : length t.paths ≤ length u.paths

stays : (t : Table) (c : Call) → Stays t (after t c)
stays t c =
    call_more (Stays t) t (record { server = refl; factor = refl; long = omega arith }) (λ l k. record { server = refl; factor = refl; long = k })
    (record { server = refl; factor = refl; long = omega arith }) c

-- ---- one call: from the credit x to the credit y, with the lengths credited and charged

record Moves (f : ℕ) (a : Amounts) (x y : ℕ) : Type 0 where
  most : a.charge + y ≤ x + f * a.credit
  exact : x + f * a.credit < 2 ^ 64 → a.charge + y ≡ x + f * a.credit

still : (f x y : ℕ) → y ≡ x → Moves f nothing x y
still f x y e = record { most = omega (arith, mul-zero f); exact = λ k. omega (arith, mul-zero f) }

-- a credit stops at the top, which it does not reach below 2^64; a charge within the credit is exact
gained : (f x n : ℕ) → Moves f (record { credit = n; charge = 0 }) x (min (x + f * n) top)
gained f x n = record { most = omega arith; exact = λ k. omega arith }

spent : (f x n : ℕ) → n ≤ x → Moves f (record { credit = 0; charge = n }) x (x - n)
spent f x n h = record { most = omega (arith, mul-zero f); exact = λ k. omega (arith, mul-zero f) }

-- two moves are one
chain : (f : ℕ) (a b : Amounts) (x y z : ℕ) → Moves f a x y → Moves f b y z → Moves f (record { credit = a.credit + b.credit; charge = a.charge + b.charge }) x z
chain f a b x y z m n = record { most = omega (arith, law); exact = λ k. omega (arith, law, m.exact (omega (arith, law)), n.exact (omega (arith, law))) }
  where
    law : f * (a.credit + b.credit) ≡ f * a.credit + f * b.credit
    law = mul-add f a.credit b.credit

-- an act that moves credit
abbrev moving : Act → Bool
moving Initiate = false
moving Pop = false
moving (Receive d) = false
moving (Send d size now) = false
moving (Respond d now) = false
moving (Credit n) = true
moving (Charge n) = true
moving (SetScid o) = false
moving (SetDcid o) = false
moving (SetActive b) = false
moving Verify = false
moving (Look r) = false

abbrev moving_call : Call → Bool
moving_call (On q a) = moving a
moving_call (Insert a m) = false
moving_call (Timeout now) = false
moving_call (Ping o) = false
moving_call Multipath = false
moving_call (Ask s) = false

not_moving : (c : Call) (p : ℕ) (a : Act) → moving_call c ≡ false → moving a ≡ true → c ≡ On p a → ⊥
not_moving c p a h k e = let z : false ≡ true = sym h ∙ ap moving_call e ∙ k in let y : ◌≡◌ {A = ℕ} 0 1 = cc in omega arith

module _ (p : ℕ) (t : Table) (sound : well t ≡ true) (server : t.server ≡ true) (here : p < length t.paths) (Unverified : (path_at p t).verified ≡ false) where
  -- an act that is not refused, and whose argument has its form
  acted : (a : Act) → call_formed (On p a) ≡ true → (step t (On p a)).table.paths ≡ set t.paths p (effect t a (path_at p t))
      → path_at p (after t (On p a)) ≡ effect t a (path_at p t)
  acted a f k =
      ap (λ (o : Out). path_at p o.table) (apply_is t (On p a) sound f) ∙ ap (λ (l : List Path). get_or l p zero_path) k
      ∙ get_or-set_same t.paths p (effect t a (path_at p t)) zero_path here

  credit_moves : (n : ℕ) → Moves t.factor (record { credit = n; charge = 0 }) (path_at p t).credit (path_at p (after t (On p (Credit n)))).credit
  credit_moves n = rw e (gained t.factor (path_at p t).credit n)
    where
      e : (path_at p (after t (On p (Credit n)))).credit ≡ min ((path_at p t).credit + t.factor * n) top
      e = ap (λ (x : Path). x.credit) (acted (Credit n) refl refl) ∙ rw (server, Unverified)

  charge_moves : (n : ℕ) → n ≤ (path_at p t).credit → Moves t.factor (record { credit = 0; charge = n }) (path_at p t).credit (path_at p (after t (On p (Charge n)))).credit
  charge_moves n k = rw e (spent t.factor (path_at p t).credit n k)
    where
      e : (path_at p (after t (On p (Charge n)))).credit ≡ (path_at p t).credit - n
      e = ap (λ (x : Path). x.credit) (acted (Charge n) refl refl) ∙ rw (server, Unverified)

  -- the call c on the path p
  abbrev Step : Call → Type 0
  Step c = (amounts_to p c).charge ≤ (path_at p t).credit → Moves t.factor (amounts_to p c) (path_at p t).credit (path_at p (after t c)).credit

  -- a call on another path
  elsewhere : (q : ℕ) (a : Act) → eqb q p ≡ false → (path_at p (after t (On q a))).credit ≡ (path_at p t).credit
  elsewhere q a e = ap (λ (x : Path). x.credit) (frame p q t (On q a) refl (eqb-false q p e))

  -- a call that moves no credit
  unmoved : (c : Call) → moving_call c ≡ false → ((apply t c).answer ≡ Inserted p → ⊥) → (path_at p (after t c)).credit ≡ (path_at p t).credit
  unmoved c h new = only_credit_lem p t c (λ n. not_moving c p (Credit n) h refl) (λ n. not_moving c p (Charge n) h refl) new

  -- an act that leaves the credit of its path, and an act that moves it
  quiet : (q : ℕ) (a : Act) → amounts a ≡ nothing → moving a ≡ false → ((apply t (On q a)).answer ≡ Inserted p → ⊥) → Step (On q a)
  quiet q a z g new k =
      both (λ (m : Amounts). Moves t.factor m (path_at p t).credit (path_at p (after t (On q a))).credit) (eqb q p) (rw z s) s
    where
      s : Moves t.factor nothing (path_at p t).credit (path_at p (after t (On q a))).credit
      s = still _ _ _ (unmoved (On q a) g new)

  loud : (q : ℕ) (a : Act) → ((amounts a).charge ≤ (path_at p t).credit → Moves t.factor (amounts a) (path_at p t).credit (path_at p (after t (On p a))).credit) → Step (On q a)
  loud q a m = test (eqb q p) refl
    where
      test : (b : Bool) → eqb q p ≡ b → (cond b (amounts a) nothing).charge ≤ (path_at p t).credit
          → Moves t.factor (cond b (amounts a) nothing) (path_at p t).credit (path_at p (after t (On q a))).credit
      test true e k = rw (eqb-true q p e) (m k)
      test false e k = still _ _ _ (elsewhere q a e)

  act_moves : (q : ℕ) (a : Act) → ((apply t (On q a)).answer ≡ Inserted p → ⊥) → Step (On q a)
  act_moves q Initiate new = quiet q Initiate refl refl new
  act_moves q Pop new = quiet q Pop refl refl new
  act_moves q (Receive d) new = quiet q (Receive d) refl refl new
  act_moves q (Send d size now) new = quiet q (Send d size now) refl refl new
  act_moves q (Respond d now) new = quiet q (Respond d now) refl refl new
  act_moves q (Credit n) new = loud q (Credit n) (λ k. credit_moves n)
  act_moves q (Charge n) new = loud q (Charge n) (charge_moves n)
  act_moves q (SetScid o) new = quiet q (SetScid o) refl refl new
  act_moves q (SetDcid o) new = quiet q (SetDcid o) refl refl new
  act_moves q (SetActive b) new = quiet q (SetActive b) refl refl new
  act_moves q Verify new = quiet q Verify refl refl new
  act_moves q (Look r) new = quiet q (Look r) refl refl new

  -- any call but an insertion that answers p
  moves : (c : Call) → ((apply t c).answer ≡ Inserted p → ⊥) → Step c
  moves (On q a) new k = act_moves q a new k
  moves (Insert a m) new k = still _ _ _ (unmoved (Insert a m) refl new)
  moves (Timeout now) new k = still _ _ _ (unmoved (Timeout now) refl new)
  moves (Ping o) new k = still _ _ _ (unmoved (Ping o) refl new)
  moves Multipath new k = still _ _ _ (unmoved Multipath refl new)
  moves (Ask s) new k = still _ _ _ (unmoved (Ask s) refl new)

-- ---- a run of calls, with a starting allowance: p's credit at its beginning

module _ (f p : ℕ) where
  runs : (cs : List Call) (t : Table) → well t ≡ true → t.server ≡ true → t.factor ≡ f → p < length t.paths → Lasts p t cs → Within p t cs
      → Moves f (record { credit = total_credit p cs; charge = total_charge p cs }) (path_at p t).credit (path_at p (run t cs)).credit
  runs [] t sound server factor here lasts within = still _ _ _ refl
  runs (c ∷ cs) t sound server factor here lasts within =
      let s : Stays t (after t c) = stays t c in
      chain f (amounts_to p c) (record { credit = total_credit p cs; charge = total_charge p cs }) _ _ _
      (subst (λ (g : ℕ). Moves g (amounts_to p c) (path_at p t).credit (path_at p (after t c)).credit) factor (moves p t sound server here lasts.0 c lasts.1 within.0))
      (runs cs (after t c) (keeps_well_lem t c sound) (s.server ∙ server) (s.factor ∙ factor) (omega (arith, s.long)) lasts.2 within.1)

-- ---- where a period begins

-- the path that an insertion answers is a new one
pub record New (p : ℕ) (a : FourTuple) (m : ℕ) (t : Table) : Type 0 where
  pub here : p < length t.paths
  pub is : path_at p t ≡ new_path_of a m

pub insert_new : (p : ℕ) (a : FourTuple) (m : ℕ) (t : Table) → (insert a m t).answer ≡ Inserted p → New p a m (insert a m t).table
insert_new p a m t = test (ltb (length t.paths) t.limit) (first_with unused t.paths) refl
  where
    test : (b : Bool) (o : Option ℕ) → first_with unused t.paths ≡ o
        → (cond b (accepted (Inserted (length t.paths)) (appended a m t)) (evict o a m t)).answer ≡ Inserted p
        → New p a m (cond b (accepted (Inserted (length t.paths)) (appended a m t)) (evict o a m t)).table
    test true o f e =
        let z : length t.paths ≡ p = cc in
        let l : List Path = map (unlist a) t.paths in
        let k : length l ≡ p = length-map t.paths (unlist a) ∙ z in
        record { here = simp length-append (omega arith); is = get_or_at l (new_path_of a m) [] zero_path p k }
    test false none f e = let z : ◌≡◌ {A = ℕ} 0 1 = cc in absurd (omega arith)
    test false (some i) f e =
        let z : i ≡ p = cc in
        let l : List Path = map (unlist a) (map (unlist (path_at i t).pair) t.paths) in
        let k : i < length l = simp length-map (first_below unused t.paths i f) in
        record { here = simp length-set (omega arith); is = rw (← z) (get_or-set_same l i (new_path_of a m) zero_path k) }

pub after_new : (p : ℕ) (a : FourTuple) (m : ℕ) (t : Table) → (apply t (Insert a m)).answer ≡ Inserted p → New p a m (after t (Insert a m))
after_new p a m t = test (well t && call_formed (Insert a m))
  where
    test : (b : Bool) → (cond b (insert a m t) (refused 1 t)).answer ≡ Inserted p → New p a m (cond b (insert a m t) (refused 1 t)).table
    test true e = insert_new p a m t e
    test false e = let z : ◌≡◌ {A = ℕ} 0 1 = cc in absurd (omega arith)

-- a run keeps the server and the factor
run_stays : (cs : List Call) (t : Table) → ((run t cs).server ≡ t.server) × ((run t cs).factor ≡ t.factor)
run_stays [] t = (refl, refl)
run_stays (c ∷ cs) t =
    let r = run_stays cs (after t c) in
    let s : Stays t (after t c) = stays t c in
    (r.0 ∙ s.server, r.1 ∙ s.factor)

record Ready (f p : ℕ) (t : Table) : Type 0 where
  sound : well t ≡ true
  server : t.server ≡ true
  factor : t.factor ≡ f
  here : p < length t.paths
  none_yet : (path_at p t).credit ≡ 0

fresh_ready : (f : ℕ) (t : Table) → Starts true f t → Ready f 0 t
fresh_ready f t s = go t s (fresh_well_lem true f t s)
  where
    go : (t : Table) → Starts true f t → well t ≡ true → Ready f 0 t
    go t (starts a m limit e) w = test (fresh_formed a limit) e w
      where
        test : (b : Bool) → (cond b (accepted Nothing (fresh a m limit f true)) (refused 1 zero_table)).refusal ≡ 0
            → well (cond b (accepted Nothing (fresh a m limit f true)) (refused 1 zero_table)).table ≡ true
            → Ready f 0 (cond b (accepted Nothing (fresh a m limit f true)) (refused 1 zero_table)).table
        test true e w = record { sound = w; server = refl; factor = refl; here = omega arith; none_yet = refl }
        test false e w = absurd (omega arith)

ready : (f p : ℕ) (t : Table) → Begins f p t → Ready f p t
ready f p t (first u s) = fresh_ready f u s
ready f p t (inserted u s before b n q e) =
    let y : Ready f 0 u = fresh_ready f u s in
    let v : Table = run u before in
    let r = run_stays before u in
    let k : Stays v (after v (Insert b n)) = stays v (Insert b n) in
    let w : New q b n (after v (Insert b n)) = after_new q b n v e in
    record {
      sound = keeps_well_lem v (Insert b n) (run_well before u y.sound);
      server = k.server ∙ r.0 ∙ y.server;
      factor = k.factor ∙ r.1 ∙ y.factor;
      here = w.here;
      none_yet = ap (λ (x : Path). x.credit) w.is;
    }

-- ---- the promises

pub allowance : Allowance
allowance p t cs sound server here lasts within = let m = runs t.factor p cs t sound server refl here lasts within in (m.most, m.exact)

pub demand3 : Demand3
demand3 f p t b cs lasts within =
    let r : Ready f p t = ready f p t b in
    let m = runs f p cs t r.sound r.server r.factor r.here lasts within in
    (omega (arith, m.most, r.none_yet), λ k. omega (arith, r.none_yet, m.exact (omega (arith, r.none_yet))))

pub one_run_lem : OneRun
one_run_lem t [] cs c = refl
one_run_lem t (b ∷ before) cs c = one_run_lem (after t b) before cs c
