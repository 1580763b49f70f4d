-- The frame: what no other call does to the path p.
use Rattle.std.specs.Prelude.{ℕ, ◌+◌, ◌≡◌, refl, List, [], ◌∷◌, Bool, true, false, cond, not, ◌&&◌, leb, ltb}
use Rattle.std.proofs.Common.{ap, ap₂, ◌∙◌, arith}
use Rattle.std.proofs.Math.Option.{Option, none, some}
use Rattle.std.proofs.lemmas.List.{set-get_or}
use Rattle.std.proofs.lemmas.Bool.{not-true}
use Rattle.lists.specs.Bools.{and_both}
use Rattle.lists.specs.Defs.{first_with}
use Rattle.values.specs.Limits.{max_probing_timeouts, min_client_initial_len}
use Rattle.values.specs.declared.address.FourTuple.{FourTuple}
use Rattle.paths_rules.specs.State.{Path, Challenge}
use Rattle.paths_rules.specs.With.{with_ping, with_ask, with_lost, with_sent}
use Rattle.paths_rules.specs.Path.{zero_path, expire, probing, timeout, validated, matches, heeds, respond, reached, settle, spans, largest_after}
use Rattle.paths_rules.specs.With.{with_listed}
use Rattle.paths_rules.specs.Path.{failed, listed_as, flagged}
use Rattle.paths_rules.specs.Table.{Table, Out, Inserted, Responded, refused, accepted, path_at, known, with_paths, on_path, insert, ping_at, ping_on}
use Rattle.paths_rules.specs.Well.{well}
use Rattle.paths_rules.specs.Calls.{Act, Initiate, Pop, Receive, Send, Respond, Credit, Charge, SetScid, SetDcid, SetActive, Verify, Look, Call, On, Insert}
use Rattle.paths_rules.specs.Calls.{Timeout, Ping, Multipath, Ask, is_moment, call_formed, step, effect, refusal}
use Rattle.paths_rules.proofs.Steps.{both, decided, deaf, act_keeps, one_holds, act_holds, insert_holds, call_holds}
use Rattle.paths_rules.specs.Promise.{names, Frame, InsertionFrame, InsertionUnlists, OnlyVerified, Unasked, OnlyCredit}

-- ---- every field

some_not_none : {q : ℕ} → none ≡ some q → ⊥
some_not_none e = let z : ◌≡◌ {A = ℕ} 0 1 = cc in omega arith

module _ (p q : ℕ) (t : Table) (other : q ≡ p → ⊥) where
  abbrev Same : Out → Type 0
  Same o = path_at p o.table ≡ path_at p t

  same_at : (n : ℕ) (o : Option ℕ) → o ≡ some q → Same (ping_at n o t)
  same_at n none e = absurd (some_not_none e)
  same_at n (some i) e = one_holds (λ (y : Path). y ≡ path_at p t) p t refl i (with_ping true) (λ s. let k : q ≡ p = cc in absurd (other k))

  same_ping : (a : FourTuple) (b : Bool) → cond b (first_with (listed_as a) t.paths) none ≡ some q
      → Same (cond b (ping_on (some a) t) (ping_at 2 (first_with flagged t.paths) t))
  same_ping a true e = same_at 0 (first_with (listed_as a) t.paths) e
  same_ping a false e = absurd (some_not_none e)

  same_step : (c : Call) → names t c ≡ some q → Same (step t c)
  same_step (On r a) e = act_holds (λ (y : Path). y ≡ path_at p t) p t refl r a (λ z s. let k : q ≡ p = cc in absurd (other k))
  same_step (Insert a m) e = absurd (some_not_none e)
  same_step (Timeout now) e = absurd (some_not_none e)
  same_step (Ping none) e = absurd (some_not_none e)
  same_step (Ping (some a)) e = same_ping a t.multipath e
  same_step Multipath e = absurd (some_not_none e)
  same_step (Ask s) e = absurd (some_not_none e)

pub frame : Frame
frame p q t c e other = both (λ (o : Out). path_at p o.table ≡ path_at p t) (well t && call_formed c) (same_step p q t other c e) refl

pub insertion_frame_lem : InsertionFrame
insertion_frame_lem p a m t h b = test (well t && call_formed (Insert a m)) h
  where
    test : (w : Bool) → ((cond w (insert a m t) (refused 1 t)).answer ≡ Inserted p → ⊥)
        → with_listed b (path_at p (cond w (insert a m t) (refused 1 t)).table) ≡ with_listed b (path_at p t)
    test true h = insert_holds (λ (y : Path). with_listed b y ≡ with_listed b (path_at p t)) p t refl (λ c x e. e) a m (λ e. absurd (h e))
    test false h = refl

pub insertion_unlists_lem : InsertionUnlists
insertion_unlists_lem p a m t h = test (well t && call_formed (Insert a m)) h
  where
    P : Path → Type 0
    P y = y.listed ≡ true → (path_at p t).listed ≡ true

    test : (w : Bool) → ((cond w (insert a m t) (refused 1 t)).answer ≡ Inserted p → ⊥) → P (path_at p (cond w (insert a m t) (refused 1 t)).table)
    test true h = insert_holds P p t (λ e. e) (λ c x k e. k (and_both x.listed _ e).0) a m (λ e. absurd (h e))
    test false h = λ e. e

-- ---- what a timeout keeps

module _ (P : Path → Type 0)
    (sent : (v : List Challenge) (x : Path) → P x → P (with_sent v x)) (ask : (x : Path) → P x → P (with_ask true x))
    (lost : (n : ℕ) (x : Path) → P x → P (with_lost n x)) (fail : (x : Path) → P x → P (failed x)) where
  pub expire_holds : (now : ℕ) (cs : List Challenge) (x : Path) → P x → P (expire now cs x)
  expire_holds now [] x h = sent [] x h
  expire_holds now (c ∷ cs) x h =
      both P (leb c.deadline now)
      (both P (ltb (x.lost + 1) max_probing_timeouts)
      (expire_holds now cs (with_ask true (with_lost (x.lost + 1) x)) (ask (with_lost (x.lost + 1) x) (lost (x.lost + 1) x h)))
      (fail (with_lost (x.lost + 1) x) (lost (x.lost + 1) x h)))
      (sent (c ∷ cs) x h)

  pub timeout_holds : (now : ℕ) (x : Path) → P x → P (timeout now x)
  timeout_holds now x h = both P (probing x) (expire_holds now x.sent x h) h

-- ---- verified

abbrev Unverified : Path → Type 0
Unverified x = x.verified ≡ false

pub only_verified_lem : OnlyVerified
only_verified_lem p t c mark response h =
    call_holds Unverified p t h (λ a x k. k) (λ x k. k) c
    (λ now e. timeout_holds Unverified (λ v x k. k) (λ x k. k) (λ n x k. k) (λ x k. k) now) act (λ a m i e. refl)
  where
    x : Path
    x = path_at p t

    act : (a : Act) → refusal t p a ≡ 0 → c ≡ On p a → Unverified (effect t a (path_at p t))
    act a z e =
        act_keeps (λ rank sent lost largest verified. verified ≡ false) t x h a (λ d size now i. h)
        (λ d now i. decided Unverified (heeds d x)
        (λ v. let w = and_both (not (validated x)) _ v in absurd (response d now (e ∙ ap (On p) i) (not-true (validated x) w.0) w.1)) (λ v. h))
        (λ i. absurd (mark (e ∙ ap (On p) i)))

-- ---- a response that matches nothing

pub unheeded : (p d now : ℕ) (t : Table) → matches d (path_at p t) ≡ false → step t (On p (Respond d now)) ≡ accepted (Responded false []) t
unheeded p d now t e =
    ap (λ (b : Bool). accepted (cond (known p t) (Responded (b && leb min_client_initial_len (largest_after d x)) (cond b (spans d now x) [])) (Responded false []))
    (on_path p (λ (y : Path). cond b (settle t.multipath (reached d x)) x) t)) (deaf d x e)
    ∙ ap₂ accepted (none_said (known p t)) (ap (λ (l : List Path). with_paths l t) (set-get_or t.paths p zero_path))
  where
    x : Path
    x = path_at p t

    -- the same answer of the path that is known, and of none
    none_said : (k : Bool) → cond k (Responded false []) (Responded false []) ≡ Responded false []
    none_said true = refl
    none_said false = refl

pub unasked : Unasked
unasked p d now t e = ap (λ (o : Out). cond (well t && is_moment now) o (refused 1 t)) (unheeded p d now t e)

-- ---- credit

pub respond_credit : (d : ℕ) (multi : Bool) (x : Path) → (respond d multi x).credit ≡ x.credit
respond_credit d multi x =
    both (λ (y : Path). y.credit ≡ x.credit) (heeds d x)
    (both (λ (y : Path). y.credit ≡ x.credit) (leb min_client_initial_len (largest_after d x)) refl refl) refl

pub only_credit_lem : OnlyCredit
only_credit_lem p t c credit charge new =
    call_holds SameCredit p t refl (λ a x k. k) (λ x k. k) c
    (λ now e. timeout_holds SameCredit (λ v x k. k) (λ x k. k) (λ n x k. k) (λ x k. k) now) act (λ a m i e. absurd (new e))
  where
    SameCredit : Path → Type 0
    SameCredit x = x.credit ≡ (path_at p t).credit

    act : (a : Act) → refusal t p a ≡ 0 → c ≡ On p a → SameCredit (effect t a (path_at p t))
    act Initiate z e = refl
    act Pop z e = refl
    act (Receive d) z e = refl
    act (Send d size now) z e = refl
    act (Respond d now) z e = respond_credit d t.multipath (path_at p t)
    act (Credit n) z e = absurd (credit n e)
    act (Charge n) z e = absurd (charge n e)
    act (SetScid o) z e = refl
    act (SetDcid o) z e = refl
    act (SetActive b) z e = refl
    act Verify z e = refl
    act (Look r) z e = refl
