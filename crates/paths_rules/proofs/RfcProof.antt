-- The rules of the RFC that the calls meet, and where they differ.
use Rattle.std.specs.Prelude.{ℕ, zero, suc, ◌+◌, ◌*◌, ◌≤◌, ◌<◌, min, max, ◌≡◌, refl, List, [], ◌∷◌, ◌++◌, map, Bool, true, false, cond, not, ◌&&◌, ◌||◌, length, drop, get_or, eqb, leb, ltb}
use Rattle.std.proofs.Common.{sym, ap, ap₂, ◌∙◌, subst, arith, mul-le-mul_right, leb-true, leb-false, ltb-false, eqb-true, le-leb, le-ltb, lt-ltb, ne_eqb}
use Rattle.std.proofs.Math.Bool.{or-true}
use Rattle.std.proofs.Math.Option.{Option, none, some}
use Rattle.std.proofs.lemmas.Bool.{eqb-false, lt-leb, not-false}
use Rattle.lists.specs.Defs.{any, empty, front, maybe, least, less, somes, without}
use Rattle.lists.specs.Bools.{and_both}
use Rattle.values.specs.Limits.{max_path_chals_sent, max_probing_timeouts, min_client_initial_len}
use Rattle.paths_rules.specs.State.{Path, Challenge}
use Rattle.paths_rules.specs.Path.{zero_path, expire, probing, timeout, carries, matches, matching, unmatched, last_size, reached, largest_after, challenge, heeds, respond, validated, validates}
use Rattle.paths_rules.specs.With.{with_active_of, with_sent, with_ask, with_lost}
use Rattle.paths_rules.specs.Path.{promote, rank_failed, rank_validating, rank_validating_mtu, rank_validated, due}
use Rattle.paths_rules.specs.Table.{Table, Out, Answer, Nothing, Inserted, Number, Flag, Maybe, refused, accepted, path_at, known, on_path, insert, fresh, fresh_formed, zero_table, timer as timer_of}
use Rattle.paths_rules.specs.Calls.{Act, Pop, Receive, Send, Respond, Credit, Look, NeedsFrames}
use Rattle.paths_rules.specs.Calls.{NeedsPadding, Call, On, is_moment, step, apply, after, run, effect, refusal, answer}
use Rattle.paths_rules.proofs.Steps.{both, decided, never, or_neither, heeds_is, act_keeps, apply_is, act_is, path_is, act_holds, insert_holds, call_holds}
use Rattle.paths_rules.proofs.Frame.{only_verified_lem, expire_holds, timeout_holds}
use Rattle.paths_rules.proofs.Previous.{is_known, sent_accepted, previous, only_previous_lem}
use Rattle.paths_rules.specs.Well.{well}
use Rattle.paths_rules.specs.Promise.{starts}
use Rattle.paths_rules.proofs.Promised.{demand3}
use Rattle.paths_rules.specs.Rfc.{Begun, Fired, response, received, sent, arrived, wished, begun, answered, frames, padding, timer, fired, itself, Rule, Met, MetUnless}
use Rattle.paths_rules.specs.Rfc.{ThreeTimes, Three, large_factor, Limits, on_client, permits, Several, far, smallest_size, Expands, not_told, ExpandsWithin, small_size, ProbesAgain, expanded}
use Rattle.paths_rules.specs.Rfc.{OnlyExpanded, remembers, NoneRemembered, already_or_remembers, SingleLoss, losses_survive, TimerSet, ByTimer, AsksNoMore, asks_still, StaysActive, validates_single}
use Rattle.paths_rules.specs.Rfc.{Keeps, eight_stand, Unforgotten, at_limit, Echoes, OwnPath, Prompt, poor, Succeeds, AttemptEnds, already, OnlyWithData, OnAnyPath, elsewhere, elsewhere_or_already, AddressNotMtu}
use Rattle.paths_rules.specs.Rfc.{OnlyByResponse, has_failed, OnlyTimeoutFails, Abandons, stuck, Conforms, Differs}

-- a rule is met if the step meets it
module _ {A : Type 0} (call : A → Call) (R : Rule A) where
  met : ((t : Table) (f : A) → R t f (step t (call f))) → Met call R
  met k t f h c = subst (R t f) (sym (apply_is t (call f) h c)) (k t f)

  met_unless : (E : Table → A → Bool) → ((t : Table) (f : A) → E t f ≡ false → R t f (step t (call f))) → MetUnless call E R
  met_unless E k t f h c e = subst (R t f) (sym (apply_is t (call f) h c)) (k t f e)

-- ---- a fact of what an act makes of the path
acted : (P : Path → Type 0) (t : Table) (p : ℕ) (a : Act) → known p t ≡ true → refusal t p a ≡ 0 → P (effect t a (path_at p t)) → P (path_at p (step t (On p a)).table)
acted P t p a k e h = subst P (sym (path_is t p a k e)) h

says : (t : Table) (p : ℕ) (a : Act) → refusal t p a ≡ 0 → (step t (On p a)).answer ≡ answer t p a
says t p a e = ap (λ (o : Out). o.answer) (act_is t p a e)

-- a call that is refused on an unknown id: an answer comes from a known one
answers : (t : Table) (p : ℕ) (a : Act) (r : Answer) → refusal t p a ≡ cond (known p t) 0 2 → (Nothing ≡ r → ⊥) → (step t (On p a)).answer ≡ r
    → (known p t ≡ true) × (answer t p a ≡ r)
answers t p a r e n = test (known p t) refl
  where
    test : (b : Bool) → known p t ≡ b → (step t (On p a)).answer ≡ r → (known p t ≡ true) × (answer t p a ≡ r)
    test true k s = (k, sym (says t p a (e ∙ ap (λ (b : Bool). cond b 0 2) k)) ∙ s)
    test false k s =
        let z : refusal t p a ≡ 2 = e ∙ ap (λ (b : Bool). cond b 0 2) k in
        let y : eqb (refusal t p a) 0 ≡ false = ne_eqb (refusal t p a) 0 (λ q. omega arith) in
        let x : (step t (On p a)).answer ≡ Nothing = ap (λ (b : Bool). (cond b (accepted (answer t p a) (on_path p (effect t a) t)) (refused (refusal t p a) t)).answer) y in
        absurd (n (sym x ∙ s))

-- ---- 8, 8.1

three_times_lem : ThreeTimes
three_times_lem p t b cs lasts within = (demand3 3 p t b cs lasts within).0

three : MetUnless arrived large_factor Three
three = met_unless arrived Three large_factor (λ t f e.
    let n : ℕ = f.length in
    let p : ℕ = f.path in
    let P : Path → Type 0 = λ y. y.credit ≤ (path_at p t).credit + 3 * n in
    let h : P (path_at p t) = omega arith in
    let m : t.factor * n ≤ 3 * n = mul-le-mul_right n (ltb-false 3 t.factor e) in
    act_holds P p t h p (Credit n) (λ z s. both P t.server (both P (path_at p t).verified h (omega arith)) h))

limits : MetUnless wished on_client Limits
limits = met_unless wished Limits on_client (λ t f e k v n a.
    test (known f.path t) t.server (path_at f.path t).verified f.length (path_at f.path t).credit n k (not-false t.server e) v a)
  where
    test : (k s v : Bool) (w c n : ℕ) → k ≡ true → s ≡ true → v ≡ false → Number (cond k (cond (s && not v) (min w c) w) w) ≡ Number n → n ≤ c
    test true true false w c n p q r a = let z : min w c ≡ n = cc in omega arith
    test true true true w c n p q r a = never r
    test true false v w c n p q r a = never (sym q)
    test false s v w c n p q r a = never (sym p)

-- ---- 8.2.1

several : MetUnless sent far Several
several = met_unless sent Several far (λ t f e k l.
    let p : ℕ = f.path in
    let a : Act = Send f.«data» f.size f.now in
    let z : refusal t p a ≡ 0 = rw (k, e, lt-leb max_path_chals_sent (length (path_at p t).sent) l) in
    (ap (λ (o : Out). o.refusal) (act_is t p a z), ap (λ (x : Path). x.sent) (path_is t p a k z)))

expands : MetUnless padding not_told Expands
expands = met_unless padding Expands not_told (λ t p e k h.
    let x : Path = path_at p t in
    says t p (Look NeedsPadding) (ap (λ (b : Bool). cond b 0 2) k)
    ∙ ap Flag (told (validated x) t.server x.verified (leb smallest_size x.credit) (leb x.credit x.datagram) e h))
  where
    told : (v s w a b : Bool) → (v || (s && w && b) || (s && not w && a && b)) ≡ false → (not s || w || a) ≡ true → (not v && not (s && b)) ≡ true
    told true s w a b e h = never e
    told false false w a b e h = refl
    told false true w a false e h = refl
    told false true true a true e h = never e
    told false true false true true e h = never e
    told false true false false true e h = never (sym h)

expands_within_lem : MetUnless padding small_size ExpandsWithin
expands_within_lem = met_unless padding ExpandsWithin small_size (λ t p e a.
    let x : Path = path_at p t in
    let w = answers t p (Look NeedsPadding) (Flag true) refl (λ z. let y : ◌≡◌ {A = ℕ} 0 1 = cc in omega arith) a in
    test x.credit x.datagram (validated x) t.server x.verified (leb x.credit x.datagram) refl (ltb-false x.datagram smallest_size e) w.1)
  where
    test : (c d : ℕ) (v s w b : Bool) → leb c d ≡ b → smallest_size ≤ d → Flag (not v && not (s && b)) ≡ Flag true → (not s || w || leb smallest_size c) ≡ true
    test c d v false w b h k e = refl
    test c d v true true b h k e = refl
    test c d v true false false h k e = le-leb smallest_size c (omega (arith, leb-false c d h))
    test c d false true false true h k e = let z : ◌≡◌ {A = ℕ} 0 1 = cc in absurd (omega arith)
    test c d true true false true h k e = let z : ◌≡◌ {A = ℕ} 0 1 = cc in absurd (omega arith)

-- a response on a path not Validated that matches: below 1200 it asks for another challenge, at 1200 or more it does not look at what stands. Without a
-- match the path stays
responded : (P : Path → Type 0) (d : ℕ) (multi : Bool) (x : Path) → validated x ≡ false
    → (min_client_initial_len ≤ largest_after d x → P (with_sent [] (with_active_of multi (promote rank_validated (reached d x)))))
    → (largest_after d x < min_client_initial_len → P (with_ask true (reached d x))) → (matches d x ≡ false → P x) → P (respond d multi x)
responded P d multi x v h k n =
    decided P (heeds d x)
    (λ e. decided P (leb min_client_initial_len (largest_after d x)) (λ q. h (leb-true min_client_initial_len (largest_after d x) q)) (λ q. k (leb-false min_client_initial_len (largest_after d x) q)))
    (λ e. n (sym (heeds_is d x v) ∙ e))

probes_again_lem : Met response ProbesAgain
probes_again_lem = met response ProbesAgain (λ t f k v m.
    acted (λ (y : Path). y.largest < min_client_initial_len → y.ask ≡ true) t f.path (Respond f.«data» f.now) k refl
    (responded (λ (y : Path). y.largest < min_client_initial_len → y.ask ≡ true) f.«data» t.multipath (path_at f.path t) v
    (λ h l. absurd (omega arith)) (λ h l. refl) (λ n. never (sym m ∙ n))))

-- Validated only with 1200 or more; and only by a response

-- a promotion below Validated does not make a path Validated
not_raised : (r s : ℕ) → s < rank_validated → eqb r rank_validated ≡ false → eqb (max r s) rank_validated ≡ false
not_raised r s h e = ne_eqb (max r s) rank_validated (λ q. eqb-false r rank_validated e (omega arith))

abbrev Open : Path → Type 0
Open x = validated x ≡ false

open_timeout : (now : ℕ) (x : Path) → Open x → Open (timeout now x)
open_timeout = timeout_holds Open (λ v x k. k) (λ x k. k) (λ n x k. k) (λ x k. refl)

only_by_response_lem : Met itself OnlyByResponse
only_by_response_lem t c h f p response v =
    call_holds Open p t v (λ a x k. k) (λ x k. k) c (λ now e. open_timeout now) act (λ a m i e. refl)
  where
    x : Path
    x = path_at p t

    act : (a : Act) → refusal t p a ≡ 0 → c ≡ On p a → Open (effect t a (path_at p t))
    act a z e =
        act_keeps (λ rank sent lost largest verified. eqb rank rank_validated ≡ false) t x v a (λ d size now i. not_raised x.rank rank_validating (omega arith) v)
        (λ d now i. absurd (response d now (e ∙ ap (On p) i))) (λ i. v)

-- the last match was sent in a datagram of 1200 bytes or more: then one such match stands
last_expanded : (d z : ℕ) (l : List Challenge) → z < smallest_size → smallest_size ≤ last_size z (matching d l)
    → any (λ (c : Challenge). carries d c && leb smallest_size c.size) l ≡ true
last_expanded d z [] h k = absurd (omega arith)
last_expanded d z (c ∷ cs) h k = test (carries d c) (leb smallest_size c.size) refl (λ y. last_expanded d y cs) k
  where
    rest : Bool
    rest = any (λ (c : Challenge). carries d c && leb smallest_size c.size) cs

    test : (a b : Bool) → leb smallest_size c.size ≡ b → ((y : ℕ) → y < smallest_size → smallest_size ≤ last_size y (matching d cs) → rest ≡ true)
        → smallest_size ≤ last_size z (cond a (c ∷ matching d cs) (matching d cs)) → ((a && b) || rest) ≡ true
    test true true e r k = refl
    test true false e r k = r c.size (leb-false smallest_size c.size e) k
    test false b e r k = r z h k

only_expanded_lem : MetUnless response remembers OnlyExpanded
only_expanded_lem = met_unless response OnlyExpanded remembers (λ t f e v.
    let x : Path = path_at f.path t in
    let P : Path → Type 0 = λ y. validated y ≡ true → expanded t f.path f.«data» ≡ true in
    act_holds P f.path t (λ w. never (sym w ∙ v)) f.path (Respond f.«data» f.now)
    (λ z s. responded P f.«data» t.multipath x v
    (λ h w. last_expanded f.«data» 0 x.sent (omega arith) (omega (arith, leb-false smallest_size x.largest e)))
    (λ h w. never (sym w ∙ not_raised x.rank rank_validating_mtu (omega arith) v)) (λ n w. never (sym w ∙ v))))

-- of a path from a fresh table: a rank of those that have a name, and below Validated a largest size below 1200
abbrev Forgets : Path → Type 0
Forgets x = (x.rank ≤ rank_validated) × (x.rank < rank_validated → x.largest < smallest_size)

forgets_timeout : (now : ℕ) (x : Path) → Forgets x → Forgets (timeout now x)
forgets_timeout now x k = decided Forgets (probing x) (λ e. let w = expire_holds Q (λ v y h. h) (λ y h. h) (λ n y h. h) (λ y h. (omega arith, h.1)) now x.sent x (k.0, k.1 (unvalidated x.rank e)) in (w.0, λ r. w.1)) (λ e. k)
  where
    Q : Path → Type 0
    Q y = (y.rank ≤ rank_validated) × (y.largest < smallest_size)

    unvalidated : (r : ℕ) → (eqb r rank_validating || eqb r rank_validating_mtu) ≡ true → r < rank_validated
    unvalidated r e = test (eqb r rank_validating) (eqb r rank_validating_mtu) refl refl e
      where
        test : (a b : Bool) → eqb r rank_validating ≡ a → eqb r rank_validating_mtu ≡ b → (a || b) ≡ true → r < rank_validated
        test true b g h e = omega (arith, eqb-true r rank_validating g)
        test false true g h e = omega (arith, eqb-true r rank_validating_mtu h)
        test false false g h e = never (sym e)

forgets_call : (p : ℕ) (t : Table) (c : Call) → Forgets (path_at p t) → Forgets (path_at p (after t c))
forgets_call p t c k = call_holds Forgets p t k (λ a x h. h) (λ x h. h) c (λ now e. forgets_timeout now) act (λ a m i e. (omega arith, λ r. omega arith))
  where
    x : Path
    x = path_at p t

    act : (a : Act) → refusal t p a ≡ 0 → c ≡ On p a → Forgets (effect t a (path_at p t))
    act a z e =
        act_keeps (λ rank sent lost largest verified. (rank ≤ rank_validated) × (rank < rank_validated → largest < smallest_size)) t x k a
        (λ d size now i. (omega (arith, k.0), λ r. k.1 (omega arith)))
        (λ d now i. both Forgets (heeds d x)
        (decided Forgets (leb min_client_initial_len (largest_after d x))
        (λ q. (omega (arith, k.0), λ r. absurd (omega arith)))
        (λ q. (omega (arith, k.0), λ r. leb-false min_client_initial_len (largest_after d x) q))) k)
        (λ i. k)

forgets_run : (p : ℕ) (cs : List Call) (t : Table) → Forgets (path_at p t) → Forgets (path_at p (run t cs))
forgets_run p [] t k = k
forgets_run p (c ∷ cs) t k = forgets_run p cs (after t c) (forgets_call p t c k)

none_remembered_lem : NoneRemembered
none_remembered_lem s g t (starts a m limit e) cs f v =
    let k = forgets_run f.path cs t (first (fresh_formed a limit) f.path) in
    lt-leb smallest_size (path_at f.path (run t cs)).largest (k.1 (omega (arith, k.0, eqb-false (path_at f.path (run t cs)).rank rank_validated v)))
  where
    first : (b : Bool) (p : ℕ) → Forgets (path_at p (cond b (accepted Nothing (fresh a m limit g s)) (refused 1 zero_table)).table)
    first false p = (omega arith, λ r. omega arith)
    first true zero = (omega arith, λ r. absurd (omega arith))
    first true (suc p) = (omega arith, λ r. omega arith)

-- ---- 8.2.2

keeps : MetUnless received eight_stand Keeps
keeps = met_unless received Keeps eight_stand (λ t f e k.
    acted (λ (y : Path). y.received ≡ (path_at f.path t).received ++ (f.«data» ∷ [])) t f.path (Receive f.«data») k refl
    (ap (λ (b : Bool). cond b (drop 1 (path_at f.path t).received) (path_at f.path t).received ++ (f.«data» ∷ [])) e))

unforgotten : MetUnless begun at_limit Unforgotten
unforgotten = met_unless begun Unforgotten at_limit (λ t f e p k.
    insert_holds (λ (y : Path). y.received ≡ (path_at p t).received) p t refl (λ a x h. h) f.pair f.datagram
    (λ a. absurd (omega (arith, new t f p (leb-false t.limit (length t.paths) e) a))))
  where
    new : (t : Table) (f : Begun) (p : ℕ) → length t.paths < t.limit → (insert f.pair f.datagram t).answer ≡ Inserted p → length t.paths ≡ p
    new t f p l a =
        let z : Inserted (length t.paths) ≡ Inserted p = sym (rw (lt-ltb (length t.paths) t.limit l)) ∙ a in
        cc

front_is : (l : List ℕ) (d : ℕ) → Maybe (front l) ≡ Maybe (some d) → l ≡ d ∷ drop 1 l
front_is [] d e = let z : ◌≡◌ {A = ℕ} 0 1 = cc in absurd (omega arith)
front_is (x ∷ l) d e = let z : x ≡ d = cc in ap (λ (y : ℕ). y ∷ l) z

echoes : Met answered Echoes
echoes = met answered Echoes (λ t p d a.
    let w = answers t p Pop (Maybe (some d)) refl (λ z. let y : ◌≡◌ {A = ℕ} 0 1 = cc in omega arith) a in
    acted (λ (y : Path). (path_at p t).received ≡ d ∷ y.received) t p Pop w.0 (ap (λ (b : Bool). cond b 0 2) w.0) (front_is (path_at p t).received d w.1))

own_path_lem : Met received OwnPath
own_path_lem = met received OwnPath (λ t f p n.
    act_holds (λ (y : Path). y ≡ path_at p t) p t refl f.path (Receive f.«data») (λ z e. absurd (n e)))

prompt : MetUnless frames poor Prompt
prompt = met_unless frames Prompt poor (λ t p e k r.
    says t p (Look NeedsFrames) (ap (λ (b : Bool). cond b 0 2) k) ∙ ap Flag (told (poor t p) (path_at p t).ask (empty (path_at p t).received) e r))
  where
    told : (a b c : Bool) → a ≡ false → c ≡ false → (not a && (b || not c)) ≡ true
    told false true false p q = refl
    told false false false p q = refl
    told false b true p q = never q
    told true b c p q = never p

-- ---- 8.2.3

succeeds : MetUnless response already Succeeds
succeeds = met_unless response Succeeds already (λ t f v k m.
    acted (λ (y : Path). y.verified ≡ true) t f.path (Respond f.«data» f.now) k refl
    (responded (λ (y : Path). y.verified ≡ true) f.«data» t.multipath (path_at f.path t) v (λ h. refl) (λ h. refl) (λ n. never (sym m ∙ n))))

only_with_data_lem : Met response OnlyWithData
only_with_data_lem = met response OnlyWithData (λ t f p n.
    let P : Path → Type 0 = λ y. y.verified ≡ (path_at p t).verified in
    act_holds P p t refl f.path (Respond f.«data» f.now) (λ z s.
    rw s (decided P (heeds f.«data» (path_at p t)) (λ v. never (sym (and_both (not (validated (path_at p t))) _ v).1 ∙ n)) (λ v. refl))))

-- with the data on no other path, a path on which it stands is the one named
named : (l : List Path) (d i p : ℕ) → any (matches d) (without i l) ≡ false → matches d (get_or l p zero_path) ≡ true → i ≡ p
named [] d i p n e = never (sym e)
named (x ∷ l) d zero zero n e = refl
named (x ∷ l) d zero (suc p) n e = never (sym (any_at l p e) ∙ n)
  where
    any_at : (l : List Path) (p : ℕ) → matches d (get_or l p zero_path) ≡ true → any (matches d) l ≡ true
    any_at [] p e = never (sym e)
    any_at (x ∷ l) zero e = ap (λ (b : Bool). b || any (matches d) l) e
    any_at (x ∷ l) (suc p) e = ap (λ (b : Bool). matches d x || b) (any_at l p e) ∙ or-true (matches d x)
named (x ∷ l) d (suc i) zero n e = never (sym e ∙ (or_neither (matches d x) _ n).0)
named (x ∷ l) d (suc i) (suc p) n e = ap suc (named l d i p (or_neither (matches d x) _ n).1 e)

on_any_path_lem : MetUnless response elsewhere_or_already OnAnyPath
on_any_path_lem t f h c e p m =
    let w = or_neither (elsewhere t f) (already t f) e in
    let z : f.path ≡ p = named t.paths f.«data» f.path p w.0 m in
    subst (λ (q : ℕ). (path_at q (apply t (response f)).table).verified ≡ true) z
    (let v : matches f.«data» (path_at f.path t) ≡ true = rw z m in succeeds t f h c w.1 (is_known (matches f.«data») refl t.paths f.path v) v)

none_left_lem : (d : ℕ) (l : List Challenge) → any (carries d) (unmatched d l) ≡ false
none_left_lem d [] = refl
none_left_lem d (c ∷ cs) = test (carries d c) refl (none_left_lem d cs)
  where
    test : (b : Bool) → carries d c ≡ b → any (carries d) (unmatched d cs) ≡ false → any (carries d) (cond (not b) (c ∷ unmatched d cs) (unmatched d cs)) ≡ false
    test true e r = r
    test false e r = ap₂ ◌||◌ e r

attempt_ends_lem : MetUnless response already AttemptEnds
attempt_ends_lem = met_unless response AttemptEnds already (λ t f v k.
    acted (λ (y : Path). any (carries f.«data») y.sent ≡ false) t f.path (Respond f.«data» f.now) k refl
    (responded (λ (y : Path). any (carries f.«data») y.sent ≡ false) f.«data» t.multipath (path_at f.path t) v
    (λ h. refl) (λ h. none_left_lem f.«data» (path_at f.path t).sent) (λ n. n)))

-- a verified address has no limit
lifted : (t : Table) (p n : ℕ) → (path_at p t).verified ≡ true → permits t p n ≡ true
lifted t p n e = test t.server (path_at p t).verified e
  where
    test : (s v : Bool) → v ≡ true → (not s || v || leb n (path_at p t).credit) ≡ true
    test false v e = refl
    test true true e = refl
    test true false e = never (sym e)

address_not_mtu_lem : MetUnless response already_or_remembers AddressNotMtu
address_not_mtu_lem = met_unless response AddressNotMtu already_or_remembers (λ t f e k m n.
    let x : Path = path_at f.path t in
    let d : ℕ = f.«data» in
    let w = or_neither (already t f) (remembers t f) e in
    let P : Path → Type 0 = λ y. (y.verified ≡ true) × (validated y ≡ false) in
    let u : P (path_at f.path (step t (response f)).table) =
    acted P t f.path (Respond d f.now) k refl
    (responded P d t.multipath x w.0
    (λ h. never (sym (last_expanded d 0 x.sent (omega arith) (omega (arith, leb-false smallest_size x.largest w.1))) ∙ n))
    (λ h. (refl, not_raised x.rank rank_validating_mtu (omega arith) w.0)) (λ z. never (sym m ∙ z))) in
    (u.0, u.1, λ b. lifted (step t (response f)).table f.path b u.0))

-- ---- 8.2.4

abbrev Going : Path → Type 0
Going x = has_failed x ≡ false

-- a promotion does not fail a path
still_going : (r s : ℕ) → eqb r rank_failed ≡ false → eqb (max r s) rank_failed ≡ false
still_going r s e = ne_eqb (max r s) rank_failed (λ q. eqb-false r rank_failed e (omega arith))

only_timeout_fails_lem : Met itself OnlyTimeoutFails
only_timeout_fails_lem t c h f p other g =
    call_holds Going p t g (λ a x k. k) (λ x k. k) c (λ now e. absurd (other now e)) act (λ a m i e. refl)
  where
    x : Path
    x = path_at p t

    act : (a : Act) → refusal t p a ≡ 0 → c ≡ On p a → Going (effect t a (path_at p t))
    act a z e =
        act_keeps (λ rank sent lost largest verified. eqb rank rank_failed ≡ false) t x g a (λ d size now i. still_going x.rank rank_validating g)
        (λ d now i. both Going (heeds d x)
        (both Going (leb min_client_initial_len (largest_after d x))
        (still_going (max x.rank rank_validating_mtu) rank_validated (still_going x.rank rank_validating_mtu g)) (still_going x.rank rank_validating_mtu g)) g)
        (λ i. g)

-- the path p after a timeout
timed_is : (now : ℕ) (l : List Path) (p : ℕ) → get_or (map (timeout now) l) p zero_path ≡ timeout now (get_or l p zero_path)
timed_is now [] p = refl
timed_is now (x ∷ l) zero = refl
timed_is now (x ∷ l) (suc p) = timed_is now l p

-- the path of a timer after it was looked at
fired_holds : (P : Path → Type 0) (t : Table) (f : Fired) → P (timeout f.now (path_at f.path t)) → P (path_at f.path (step t (fired f)).table)
fired_holds P t f h = subst P (sym (timed_is f.now t.paths f.path)) h

-- one loss, and fewer than seven before it
one_lost : (now : ℕ) (c : Challenge) (x : Path) → Going x → x.lost + 1 < max_probing_timeouts → Going (expire now (c ∷ []) x)
one_lost now c x g l =
    both Going (leb c.deadline now) (decided Going (ltb (x.lost + 1) max_probing_timeouts) (λ e. g) (λ e. absurd (omega (arith, ltb-false (x.lost + 1) max_probing_timeouts e)))) g

empty_is : {A : Type 0} (l : List A) → empty l ≡ true → l ≡ []
empty_is [] e = refl
empty_is (x ∷ l) e = never (sym e)

single_loss_lem : MetUnless sent losses_survive SingleLoss
single_loss_lem = met_unless sent SingleLoss losses_survive (λ t f e i r now.
    let p : ℕ = f.path in
    let x : Path = path_at p t in
    let a : Act = Send f.«data» f.size f.now in
    let u : Table = (step t (sent f)).table in
    let b = sent_accepted t f r in
    let z : refusal t p a ≡ 0 = b.0 in
    let k : known p t ≡ true = b.1 in
    let y : Path = effect t a x in
    let g : Going y = ne_eqb (max x.rank rank_validating) rank_failed (λ q. omega arith) in
    let h : Going (expire now y.sent y) =
    subst (λ (l : List Challenge). Going (expire now (l ++ (challenge f.«data» f.size f.now x.lost ∷ [])) y)) (sym (empty_is x.sent (and_both (empty x.sent) _ i).0))
    (one_lost now (challenge f.«data» f.size f.now x.lost) y g (leb-false max_probing_timeouts (x.lost + 1) e)) in
    both (λ (o : Out). Going (path_at p o.table)) (well u && is_moment now)
    (subst Going (sym (timed_is now u.paths p)) (subst (λ (v : Path). Going (timeout now v)) (sym (path_is t p a k z)) (both Going (probing y) h g)))
    (subst Going (sym (path_is t p a k z)) g))

-- the front's deadline has come, and it is the eighth loss
fails : (now : ℕ) (l : List Challenge) (x : Path) (c : Challenge) → front l ≡ some c → c.deadline ≤ now → max_probing_timeouts ≤ x.lost + 1
    → (has_failed (expire now l x) ≡ true) × ((expire now l x).active ≡ false) × ((expire now l x).sent ≡ [])
fails now [] x c e k m = let z : ◌≡◌ {A = ℕ} 0 1 = cc in absurd (omega arith)
fails now (b ∷ cs) x c e k m =
    let z : b ≡ c = cc in
    let h : leb b.deadline now ≡ true = le-leb b.deadline now (rw z k) in
    let g : ltb (x.lost + 1) max_probing_timeouts ≡ false = le-ltb (x.lost + 1) max_probing_timeouts m in
    rw (h, g) (refl, refl, refl)

abandons : Met fired Abandons
abandons = met fired Abandons (λ t f c r e d m.
    let x : Path = path_at f.path t in
    let P : Path → Type 0 = λ y. (has_failed y ≡ true) × (y.active ≡ false) × (y.sent ≡ []) in
    fired_holds P t f (decided P (probing x) (λ q. fails f.now x.sent x c e d m) (λ q. never (sym r ∙ q))))

-- a loss that does not fail the path asks for a challenge, and so it stays
asks : (now : ℕ) (cs : List Challenge) (x : Path) → x.ask ≡ true → (expire now cs x).ask ≡ true
asks now [] x a = a
asks now (c ∷ cs) x a =
    let P : Path → Type 0 = λ y. y.ask ≡ true in
    both P (leb c.deadline now) (both P (ltb (x.lost + 1) max_probing_timeouts) (asks now cs (with_ask true (with_lost (x.lost + 1) x)) refl) a) a

-- what is due after a timeout is later than now
abbrev Later : ℕ → Path → Type 0
Later now x = (m : ℕ) → due x ≡ some m → now < m

expire_later : (now : ℕ) (cs : List Challenge) (x : Path) → Later now (expire now cs x)
expire_later now [] x = λ m e. let z : ◌≡◌ {A = ℕ} 0 1 = cc in absurd (omega arith)
expire_later now (c ∷ cs) x =
    decided (Later now) (leb c.deadline now)
    (λ e. both (Later now) (ltb (x.lost + 1) max_probing_timeouts) (expire_later now cs (with_ask true (with_lost (x.lost + 1) x)))
    (λ m q. let z : ◌≡◌ {A = ℕ} 0 1 = cc in absurd (omega arith)))
    (λ e m q. let z : c.deadline ≡ m = cc in omega (arith, leb-false c.deadline now e))

-- at most d, and there is one
abbrev By : ℕ → Option ℕ → Type 0
By d o = (o ≡ none → ⊥) × ((m : ℕ) → o ≡ some m → m ≤ d)

by_some : (d n : ℕ) → n ≤ d → By d (some n)
by_some d n h = (λ e. let z : ◌≡◌ {A = ℕ} 0 1 = cc in omega arith, λ m e. let z : n ≡ m = cc in omega arith)

timer_by : (l : List Path) (p : ℕ) (c : Challenge) → front (get_or l p zero_path).sent ≡ some c → By c.deadline (timer_of l)
timer_by [] p c e = let z : ◌≡◌ {A = ℕ} 0 1 = cc in absurd (omega arith)
timer_by (x ∷ l) zero c e =
    subst (λ (o : Option Challenge). By c.deadline (least (somes (maybe o none (λ y. some y.deadline) ∷ map due l)))) (sym e) (first (timer_of l))
  where
    first : (o : Option ℕ) → By c.deadline (less o c.deadline)
    first none = by_some c.deadline c.deadline (omega arith)
    first (some n) = by_some c.deadline (min n c.deadline) (omega arith)
timer_by (x ∷ l) (suc p) c e = test (due x) (timer_by l p c e)
  where
    more : (k : ℕ) (o : Option ℕ) → By c.deadline o → By c.deadline (less o k)
    more k none h = absurd (h.0 refl)
    more k (some n) h = by_some c.deadline (min n k) (omega (arith, h.1 n refl))

    test : (o : Option ℕ) → By c.deadline (timer_of l) → By c.deadline (least (somes (o ∷ map due l)))
    test none h = h
    test (some k) h = more k (timer_of l) h

timer_set_lem : Met timer TimerSet
timer_set_lem = met timer TimerSet (λ t p c e.
    let w = timer_by t.paths p c e in
    (λ a. w.0 (inside (timer_of t.paths) none a), λ m a. w.1 m (inside (timer_of t.paths) (some m) a)))
  where
    inside : (o u : Option ℕ) → Maybe o ≡ Maybe u → o ≡ u
    inside o u a = cc

by_timer_lem : MetUnless fired stuck ByTimer
by_timer_lem = met_unless fired ByTimer stuck (λ t f e c h d.
    let x : Path = path_at f.path t in
    let P : Path → Type 0 = λ y. ((has_failed y || y.ask) ≡ true) × ((m : ℕ) → due y ≡ some m → f.now < m) in
    fired_holds P t f (decided P (probing x)
    (λ q. (given_up f.now x.sent x c h d, expire_later f.now x.sent x)) (λ q. never (sym (ap not q) ∙ e))))
  where
    either : (a b : Bool) → b ≡ true → (a || b) ≡ true
    either true b e = refl
    either false b e = e

    given_up : (now : ℕ) (l : List Challenge) (x : Path) (c : Challenge) → front l ≡ some c → c.deadline ≤ now → (has_failed (expire now l x) || (expire now l x).ask) ≡ true
    given_up now [] x c e d = let z : ◌≡◌ {A = ℕ} 0 1 = cc in absurd (omega arith)
    given_up now (b ∷ cs) x c e d =
        let z : b ≡ c = cc in
        let P : Path → Type 0 = λ y. (has_failed y || y.ask) ≡ true in
        decided P (leb b.deadline now)
        (λ q. both P (ltb (x.lost + 1) max_probing_timeouts) (let y : Path = with_ask true (with_lost (x.lost + 1) x) in either (has_failed (expire now cs y)) (expire now cs y).ask (asks now cs y refl)) refl)
        (λ q. never (sym (le-leb b.deadline now (rw z d)) ∙ q))

asks_no_more_lem : MetUnless fired asks_still AsksNoMore
asks_no_more_lem = met_unless fired AsksNoMore asks_still (λ t f e g.
    let x : Path = path_at f.path t in
    let P : Path → Type 0 = λ y. has_failed y ≡ true → y.ask ≡ false in
    let w = or_neither x.ask (leb 2 (length x.sent)) e in
    fired_holds P t f (both P (probing x) (few f.now x.sent x g w.0 (leb-false 2 (length x.sent) w.1)) (λ q. w.0)))
  where
    few : (now : ℕ) (l : List Challenge) (x : Path) → Going x → x.ask ≡ false → length l < 2 → has_failed (expire now l x) ≡ true → (expire now l x).ask ≡ false
    few now [] x g a k = λ q. a
    few now (b ∷ []) x g a k =
        let P : Path → Type 0 = λ y. has_failed y ≡ true → y.ask ≡ false in
        both P (leb b.deadline now) (both P (ltb (x.lost + 1) max_probing_timeouts) (λ q. never (sym q ∙ g)) (λ q. a)) (λ q. a)
    few now (b ∷ c ∷ l) x g a k = absurd (omega arith)

-- ---- 9.3

stays_active_lem : MetUnless response validates_single StaysActive
stays_active_lem = met_unless response StaysActive validates_single (λ t f e p a.
    act_holds (λ (y : Path). y.active ≡ true) p t a f.path (Respond f.«data» f.now)
    (λ z s. stays f.«data» t.multipath (path_at f.path t) e (rw s a)))
  where
    on : (m v b : Bool) → (not m && (v && b)) ≡ false → v ≡ true → b ≡ true → m ≡ true
    on true v b e g h = refl
    on false false b e g h = never (sym g)
    on false true true e g h = never e
    on false true false e g h = never (sym h)

    stays : (d : ℕ) (multi : Bool) (x : Path) → (not multi && validates d x) ≡ false → x.active ≡ true → (respond d multi x).active ≡ true
    stays d multi x e a =
        let P : Path → Type 0 = λ y. y.active ≡ true in
        decided P (heeds d x)
        (λ v. decided P (leb min_client_initial_len (largest_after d x)) (λ q. on multi (heeds d x) (leb min_client_initial_len (largest_after d x)) e v q) (λ q. a)) (λ v. a)

-- ---- the whole

pub conforms : Conforms
conforms = record {
  three_times = three_times_lem;
  three = three;
  limits = limits;
  several = several;
  expands = expands;
  expands_within = expands_within_lem;
  probes_again = probes_again_lem;
  only_expanded = only_expanded_lem;
  none_remembered = none_remembered_lem;
  keeps = keeps;
  unforgotten = unforgotten;
  echoes = echoes;
  own_path = own_path_lem;
  prompt = prompt;
  succeeds = succeeds;
  only_with_data = only_with_data_lem;
  on_any_path = on_any_path_lem;
  previous = previous;
  only_previous = only_previous_lem;
  attempt_ends = attempt_ends_lem;
  address_not_mtu = address_not_mtu_lem;
  only_verified = only_verified_lem;
  only_by_response = only_by_response_lem;
  only_timeout_fails = only_timeout_fails_lem;
  single_loss = single_loss_lem;
  timer_set = timer_set_lem;
  by_timer = by_timer_lem;
  abandons = abandons;
  asks_no_more = asks_no_more_lem;
  stays_active = stays_active_lem;
}

pub differs : Differs
differs = record {
  other_path = λ r. never (sym (r 1 refl));
  ninth = λ r. let e = r refl in let z : ◌≡◌ {A = ℕ} 0 1 = cc in omega arith;
  soon = λ r. never (r refl refl);
  often = λ r. never (r refl refl);
  aggressive = λ r. never (sym r);
  too_late = λ r. never (sym (r refl refl));
  stays_matched = λ r. never (r refl);
  stays_unverified = λ r. never (sym (r refl refl));
  stays_limited = λ r. never (sym (r refl refl refl).0);
  stays_due = λ r. never (sym (r _ refl (omega arith)).0);
  delayed = λ r. let e = r refl refl in let z : ◌≡◌ {A = ℕ} 0 1 = cc in omega arith;
  unexpanded = λ r. let e = r refl refl in let z : ◌≡◌ {A = ℕ} 0 1 = cc in omega arith;
  unexpanded_second = λ r. let e = r refl refl in let z : ◌≡◌ {A = ℕ} 0 1 = cc in omega arith;
  unexpanded_at_size = λ r. let e = r refl refl in let z : ◌≡◌ {A = ℕ} 0 1 = cc in omega arith;
  unexpanded_validated = λ r. let e = r refl refl in let z : ◌≡◌ {A = ℕ} 0 1 = cc in omega arith;
  evicted = λ r. let e = r 1 (omega arith) in let z : ◌≡◌ {A = ℕ} 0 1 = cc in omega arith;
  unlimited = λ r. omega (arith, r refl refl 5 refl);
  four_times = λ r. omega (arith, r);
  expanded_past = λ r. never (sym (r refl));
  fails_at_one = λ r. never (r refl refl 6425000);
  asks_abandoned = λ r. never (r refl refl);
  inactive = λ r. never (sym (r 1 refl));
}
