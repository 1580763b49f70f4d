-- What one call does to one path of the table: the path p after the call, from the path p before it.
use Rattle.std.specs.Prelude.{ℕ, zero, suc, ◌≤◌, ◌≡◌, refl, List, [], ◌∷◌, ◌++◌, map, Bool, true, false, cond, not, ◌&&◌, ◌||◌, length, get_or, set, eqb, ltb}
use Rattle.std.proofs.Common.{sym, ap, ap₂, ◌∙◌, arith, length-set, length-append, get_or-set_same, eqb-true, eq-eqb, ltb-true}
use Rattle.std.proofs.Math.Bool.{and-false}
use Rattle.std.proofs.Math.Option.{Option, none, some}
use Rattle.std.proofs.lemmas.List.{length-map}
use Rattle.lists.specs.Defs.{first_with}
use Rattle.values.specs.declared.address.FourTuple.{FourTuple}
use Rattle.paths_rules.specs.State.{Path, Challenge}
use Rattle.paths_rules.specs.With.{with_ping, with_verified}
use Rattle.paths_rules.specs.Path.{zero_path, new_path_of, timeout, send, respond, validated, matches, heeds, unlist, in_use, unused, flagged, listed_as}
use Rattle.paths_rules.specs.Table.{Table, Out, Inserted, refused, accepted, path_at, known, with_paths, on_path, on_all, appended, replaced, evict, insert, ping_at}
use Rattle.paths_rules.specs.Table.{ping_in_use_of, ping_on, multipath_on}
use Rattle.paths_rules.specs.Well.{well}
use Rattle.paths_rules.specs.Calls.{Act, Initiate, Pop, Receive, Send, Respond, Credit, Charge, SetScid, SetDcid, SetActive, Verify, Look, Call, On, Insert, Timeout, Ping, Multipath, Ask, Survey, Len, IdOf, GetActive, Timer, survey, active_out, call_formed}
use Rattle.paths_rules.specs.Calls.{step, apply, after, effect, refusal, answer}

-- a fact of both results of a test is a fact of the result
pub both : {A : Type 0} (P : A → Type 0) {x y : A} (b : Bool) → P x → P y → P (cond b x y)
both P true h k = h
both P false h k = k

-- the same, where each side knows how the test came out
pub decided : {A : Type 0} (P : A → Type 0) {x y : A} (b : Bool) → (b ≡ true → P x) → (b ≡ false → P y) → P (cond b x y)
decided P true h k = h refl
decided P false h k = k refl

pub never : {A : Type 0} → true ≡ false → A
never e = let z : ◌≡◌ {A = ℕ} 0 1 = cc in absurd (omega arith)

pub or_neither : (a b : Bool) → (a || b) ≡ false → (a ≡ false) × (b ≡ false)
or_neither true b e = never e
or_neither false b e = (refl, e)

-- a call with arguments of their form, on a well-formed table, is its step
pub apply_is : (t : Table) (c : Call) → well t ≡ true → call_formed c ≡ true → apply t c ≡ step t c
apply_is t c h f = ap (λ (b : Bool). cond b (step t c) (refused 1 t)) (ap₂ ◌&&◌ h f)

-- a call that reads the table leaves it
pub survey_same : (t : Table) (s : Survey) → (survey t s).table ≡ t
survey_same t Len = refl
survey_same t (IdOf a) = refl
survey_same t GetActive = test (first_with flagged t.paths)
  where
    test : (o : Option ℕ) → (active_out o t).table ≡ t
    test none = refl
    test (some i) = refl
survey_same t Timer = refl

-- ---- an act that is not refused, on a path that is known

pub act_is : (t : Table) (p : ℕ) (a : Act) → refusal t p a ≡ 0 → step t (On p a) ≡ accepted (answer t p a) (on_path p (effect t a) t)
act_is t p a e = ap (λ (b : Bool). cond b (accepted (answer t p a) (on_path p (effect t a) t)) (refused (refusal t p a) t)) (eq-eqb (refusal t p a) 0 e)

pub path_is : (t : Table) (p : ℕ) (a : Act) → known p t ≡ true → refusal t p a ≡ 0 → path_at p (step t (On p a)).table ≡ effect t a (path_at p t)
path_is t p a k e =
    ap (λ (o : Out). path_at p o.table) (act_is t p a e)
    ∙ get_or-set_same t.paths p (effect t a (path_at p t)) zero_path (ltb-true p (length t.paths) k)

-- ---- a response

-- on a path not Validated it is heeded if it matches; without a match on none
pub heeds_is : (d : ℕ) (x : Path) → validated x ≡ false → heeds d x ≡ matches d x
heeds_is d x v = ap (λ (b : Bool). not b && matches d x) v

pub deaf : (d : ℕ) (x : Path) → matches d x ≡ false → heeds d x ≡ false
deaf d x e = ap (λ (b : Bool). not (validated x) && b) e ∙ and-false (not (validated x))

-- ---- a fact that looks at no more of a path than rank, sent challenges, lost count, largest size and the mark: a call on the path keeps it, if a challenge
-- sent, a response and the mark do

module _ (Q : (rank : ℕ) (sent : List Challenge) (lost largest : ℕ) (verified : Bool) → Type 0) where
  abbrev pub Of : Path → Type 0
  Of x = Q x.rank x.sent x.lost x.largest x.verified

  pub act_keeps : (t : Table) (x : Path) → Of x → (a : Act) → ((d size now : ℕ) → a ≡ Send d size now → Of (send d size now x))
      → ((d now : ℕ) → a ≡ Respond d now → Of (respond d t.multipath x)) → (a ≡ Verify → Of (with_verified true x)) → Of (effect t a x)
  act_keeps t x h Initiate s r v = h
  act_keeps t x h Pop s r v = h
  act_keeps t x h (Receive d) s r v = h
  act_keeps t x h (Send d size now) s r v = s d size now refl
  act_keeps t x h (Respond d now) s r v = r d now refl
  act_keeps t x h (Credit n) s r v = both Of t.server (both Of x.verified h h) h
  act_keeps t x h (Charge n) s r v = both Of t.server (both Of x.verified h h) h
  act_keeps t x h (SetScid o) s r v = h
  act_keeps t x h (SetDcid o) s r v = h
  act_keeps t x h (SetActive b) s r v = h
  act_keeps t x h Verify s r v = v refl
  act_keeps t x h (Look k) s r v = h

-- ---- lists

module _ {A : Type 0} (P : A → Type 0) (d : A) where
  map_holds : (f : A → A) → ((x : A) → P x → P (f x)) → (l : List A) (p : ℕ) → P (get_or l p d) → P (get_or (map f l) p d)
  map_holds f k [] p h = h
  map_holds f k (x ∷ l) zero h = k x h
  map_holds f k (x ∷ l) (suc p) h = map_holds f k l p h

  pub set_holds : (l : List A) (q p : ℕ) (y : A) → (q ≡ p → P y) → P (get_or l p d) → P (get_or (set l q y) p d)
  set_holds [] q p y k h = h
  set_holds (x ∷ l) zero zero y k h = k refl
  set_holds (x ∷ l) zero (suc p) y k h = h
  set_holds (x ∷ l) (suc q) zero y k h = h
  set_holds (x ∷ l) (suc q) (suc p) y k h = set_holds l q p y (λ e. k (ap suc e)) h

  pub snoc_holds : (l : List A) (y : A) (p : ℕ) → (length l ≡ p → P y) → P (get_or l p d) → P (get_or (l ++ (y ∷ [])) p d)
  snoc_holds [] y zero k h = k refl
  snoc_holds [] y (suc p) k h = h
  snoc_holds (x ∷ l) y zero k h = h
  snoc_holds (x ∷ l) y (suc p) k h = snoc_holds l y p (λ e. k (ap suc e)) h

-- ---- a fact of the path p, after a change of one path, of all paths, and after each kind of call

module _ (P : Path → Type 0) (p : ℕ) (t : Table) (h : P (path_at p t)) where
  pub one_holds : (q : ℕ) (f : Path → Path) → (q ≡ p → P (f (path_at q t))) → P (path_at p (on_path q f t))
  one_holds q f k = set_holds P zero_path t.paths q p (f (path_at q t)) k h

  all_holds : (f : Path → Path) → ((x : Path) → P x → P (f x)) → P (path_at p (on_all f t))
  all_holds f k = map_holds P zero_path f k t.paths p h

  -- a call on the path q
  pub act_holds : (q : ℕ) (a : Act) → (refusal t q a ≡ 0 → q ≡ p → P (effect t a (path_at q t))) → P (path_at p (step t (On q a)).table)
  act_holds q a k = test (eqb (refusal t q a) 0) refl
    where
      test : (b : Bool) → eqb (refusal t q a) 0 ≡ b
          → P (path_at p (cond b (accepted (answer t q a) (on_path q (effect t a) t)) (refused (refusal t q a) t)).table)
      test true e = one_holds q (effect t a) (k (eqb-true (refusal t q a) 0 e))
      test false e = h

  module _ (listing : (a : FourTuple) (x : Path) → P x → P (unlist a x)) where
    appended_holds : (a : FourTuple) (m : ℕ) → (length t.paths ≡ p → P (new_path_of a m)) → P (path_at p (appended a m t))
    appended_holds a m k =
        snoc_holds P zero_path (map (unlist a) t.paths) (new_path_of a m) p
        (λ e. k (sym (length-map t.paths (unlist a)) ∙ e))
        (map_holds P zero_path (unlist a) (listing a) t.paths p h)

    replaced_holds : (i : ℕ) (a : FourTuple) (m : ℕ) → (i ≡ p → P (new_path_of a m)) → P (path_at p (replaced i a m t))
    replaced_holds i a m k =
        let b : FourTuple = (path_at i t).pair in
        set_holds P zero_path (map (unlist a) (map (unlist b) t.paths)) i p (new_path_of a m) k
        (map_holds P zero_path (unlist a) (listing a) (map (unlist b) t.paths) p (map_holds P zero_path (unlist b) (listing b) t.paths p h))

    -- an insertion
    pub insert_holds : (a : FourTuple) (m : ℕ) → ((insert a m t).answer ≡ Inserted p → P (new_path_of a m)) → P (path_at p (insert a m t).table)
    insert_holds a m = test (ltb (length t.paths) t.limit) (first_with unused t.paths)
      where
        test : (b : Bool) (o : Option ℕ)
            → ((cond b (accepted (Inserted (length t.paths)) (appended a m t)) (evict o a m t)).answer ≡ Inserted p → P (new_path_of a m))
            → P (path_at p (cond b (accepted (Inserted (length t.paths)) (appended a m t)) (evict o a m t)).table)
        test true o k = appended_holds a m (λ e. k (ap Inserted e))
        test false none k = h
        test false (some i) k = replaced_holds i a m (λ e. k (ap Inserted e))

    -- any step
    module _ (ping_keeps : (x : Path) → P x → P (with_ping true x)) where
      at_holds : (n : ℕ) (o : Option ℕ) → P (path_at p (ping_at n o t).table)
      at_holds n none = h
      at_holds n (some i) = one_holds i (with_ping true) (λ e. rw e (ping_keeps (path_at p t) h))

      on_ping : (o : Option FourTuple) → P (path_at p (ping_on o t).table)
      on_ping none = all_holds ping_in_use_of (λ x k. both P (in_use x) (ping_keeps x k) k)
      on_ping (some a) = at_holds 0 (first_with (listed_as a) t.paths)

      step_holds : (c : Call) → ((now : ℕ) → c ≡ Timeout now → (x : Path) → P x → P (timeout now x))
          → ((a : Act) → refusal t p a ≡ 0 → c ≡ On p a → P (effect t a (path_at p t)))
          → ((a : FourTuple) (m : ℕ) → c ≡ Insert a m → (step t c).answer ≡ Inserted p → P (new_path_of a m)) → P (path_at p (step t c).table)
      step_holds (On q a) time act new = act_holds q a (λ r e. rw e (act a (rw e at r) (rw e)))
      step_holds (Insert a m) time act new = insert_holds a m (new a m refl)
      step_holds (Timeout now) time act new = all_holds (timeout now) (time now refl)
      step_holds (Ping o) time act new = both (λ (u : Out). P (path_at p u.table)) t.multipath (on_ping o) (at_holds 2 (first_with flagged t.paths))
      step_holds Multipath time act new = h
      step_holds (Ask s) time act new = rw (survey_same t s) h

      -- any call, refused ones too
      pub call_holds : (c : Call) → ((now : ℕ) → c ≡ Timeout now → (x : Path) → P x → P (timeout now x))
          → ((a : Act) → refusal t p a ≡ 0 → c ≡ On p a → P (effect t a (path_at p t)))
          → ((a : FourTuple) (m : ℕ) → c ≡ Insert a m → (apply t c).answer ≡ Inserted p → P (new_path_of a m)) → P (path_at p (after t c))
      call_holds c time act new = test (well t && call_formed c) refl
        where
          test : (b : Bool) → (well t && call_formed c) ≡ b → P (path_at p (cond b (step t c) (refused 1 t)).table)
          test true e = step_holds c time act (λ a m i z. new a m i (ap (λ (b : Bool). (cond b (step t c) (refused 1 t)).answer) e ∙ z))
          test false e = h

-- ---- what every call keeps of the table: a fact that any change of the paths keeps, if none is lost

module _ (P : Table → Type 0) (t : Table) (h : P t) (more : (l : List Path) → length t.paths ≤ length l → P (with_paths l t)) where
  set_more : (q : ℕ) (f : Path → Path) → P (on_path q f t)
  set_more q f = more (set t.paths q (f (path_at q t))) (omega (arith, length-set t.paths q (f (path_at q t))))

  map_more : (f : Path → Path) → P (on_all f t)
  map_more f = more (map f t.paths) (omega (arith, length-map t.paths f))

  insert_more : (a : FourTuple) (m : ℕ) → P (insert a m t).table
  insert_more a m = both (λ (o : Out). P o.table) (ltb (length t.paths) t.limit) append (replace (first_with unused t.paths))
    where
      append : P (appended a m t)
      append = more (map (unlist a) t.paths ++ (new_path_of a m ∷ [])) (simp (length-append, length-map) (omega arith))

      replace : (o : Option ℕ) → P (evict o a m t).table
      replace none = h
      replace (some i) = more _ (simp (length-set, length-map) (omega arith))

  ping_more : (n : ℕ) (o : Option ℕ) → P (ping_at n o t).table
  ping_more n none = h
  ping_more n (some i) = set_more i (with_ping true)

  ping_on_more : (o : Option FourTuple) → P (ping_on o t).table
  ping_on_more none = map_more ping_in_use_of
  ping_on_more (some a) = ping_more 0 (first_with (listed_as a) t.paths)

  step_more : P (multipath_on t) → (c : Call) → P (step t c).table
  step_more m (On q a) = both (λ (o : Out). P o.table) (eqb (refusal t q a) 0) (set_more q (effect t a)) h
  step_more m (Insert a n) = insert_more a n
  step_more m (Timeout now) = map_more (timeout now)
  step_more m (Ping o) = both (λ (u : Out). P u.table) t.multipath (ping_on_more o) (ping_more 2 (first_with flagged t.paths))
  step_more m Multipath = m
  step_more m (Ask s) = rw (survey_same t s) h

  pub call_more : P (multipath_on t) → (c : Call) → P (after t c)
  call_more m c = both (λ (o : Out). P o.table) (well t && call_formed c) (step_more m c) h
