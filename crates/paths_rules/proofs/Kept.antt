-- A fresh table is well formed, every call keeps a well-formed table so, and no run from a fresh table meets a 1 for its state.
use Rattle.std.specs.Prelude.{ℕ, ◌+◌, ◌≤◌, ◌<◌, ◌≡◌, refl, List, [], ◌∷◌, ◌++◌, map, Bool, true, false, cond, not, ◌&&◌, ◌||◌, length, set, eqb, leb, ltb}
use Rattle.std.proofs.Common.{sym, ap, ap₂, ◌∙◌, arith, length-set, length-append, length-drop, leb-true, leb-false, ltb-true, ltb-false, le-leb, eqb-true}
use Rattle.std.proofs.Math.Option.{Option, none, some}
use Rattle.std.proofs.lemmas.List.{length-map}
use Rattle.lists.specs.Defs.{first_with, all}
use Rattle.lists.specs.Bools.{and_both}
use Rattle.lists.specs.Search.{length_keep}
use Rattle.values.specs.declared.address.FourTuple.{FourTuple}
use Rattle.values.specs.Address.{pair_formed_of}
use Rattle.values.specs.Limits.{max_paths_limit, max_path_chals_recv, max_path_chals_sent, max_probing_timeouts, max_shift, max_moment, max_lost, min_client_initial_len}
use Rattle.paths_rules.specs.State.{Path, Challenge}
use Rattle.paths_rules.specs.Path.{zero_path, new_path_of, roomed, loss_time, challenge, send, receive, pop, expire, probing, timeout, carries}
use Rattle.paths_rules.specs.With.{with_ping, with_sent, with_ask}
use Rattle.paths_rules.specs.Path.{reached, largest_after, respond, heeds, unused, in_use, flagged, listed_as, unlist, failed}
use Rattle.paths_rules.specs.With.{with_lost}
use Rattle.paths_rules.specs.Table.{Table, Out, Nothing, refused, accepted, path_at, known, on_path, on_all, fresh, zero_table, appended, replaced, evict, insert}
use Rattle.paths_rules.specs.Table.{ping_at, ping_in_use_of, ping_on}
use Rattle.paths_rules.specs.Well.{in_time, path_formed_of, well}
use Rattle.paths_rules.specs.Calls.{Read, Get, LocalAddr, RemoteAddr, State, Validated, Active, Initiated, NeedsFrames, NeedsPadding, Allowed, Act, Initiate}
use Rattle.paths_rules.specs.Calls.{Pop, Receive, Send, Respond, Credit, Charge, SetScid, SetDcid, SetActive, Verify, Look, Survey, Len, IdOf, GetActive}
use Rattle.paths_rules.specs.Calls.{Timer, active_out, Call, On, Insert, Timeout, Ping, Multipath, Ask, act_formed, call_formed, step, after, run, effect}
use Rattle.paths_rules.specs.Calls.{unless_known, send_refusal, read_refusal, refusal, survey}
use Rattle.paths_rules.proofs.Steps.{both, decided, survey_same}
use Rattle.paths_rules.proofs.Frame.{timeout_holds}
use Rattle.paths_rules.proofs.Facts.{Bounds, Parts, Well, parts_are, are_parts, well_is, is_well, all_at, all_put, all_mapped, all_snoc, all_kept}
use Rattle.paths_rules.proofs.Listing.{Less, less_same, less_still, less_unlist, shrinks_map, shrinks_set, shrinks_apart, all_off, snoc_apart, put_apart}
use Rattle.paths_rules.specs.Promise.{starts, Determined, FreshWell, KeepsWell, OneIsForm, NeverOne}

pub determined : Determined
determined t c a b p q = p ∙ sym q

-- ---- one path stays formed

abbrev Formed : Path → Type 0
Formed x = path_formed_of x ≡ true

abbrev PartsOf : Path → Type 0
PartsOf x = Parts x.pair x.received x.sent x.lost

facts : (x : Path) → Formed x → PartsOf x
facts x e = parts_are x.pair x.received x.sent x.lost e

formed : (x : Path) → PartsOf x → Formed x
formed x p = are_parts x.pair x.received x.sent x.lost p

-- where eight stand the oldest goes
roomed_few : (l : List ℕ) (d : ℕ) → length l ≤ max_path_chals_recv → length (roomed l ++ (d ∷ [])) ≤ max_path_chals_recv
roomed_few l d h =
    decided (λ (r : List ℕ). length (r ++ (d ∷ [])) ≤ max_path_chals_recv) (leb max_path_chals_recv (length l))
    (λ e. simp (length-append, length-drop) (omega arith)) (λ e. simp length-append (omega (arith, leb-false max_path_chals_recv (length l) e)))

-- a challenge that is not refused
record Room (x : Path) (now : ℕ) : Type 0 where
  lost : x.lost < max_lost
  near : loss_time now x.lost ≤ max_moment
  sent : length x.sent < max_path_chals_sent

send_room : (q now : ℕ) (t : Table) → send_refusal q now t ≡ 0 → Room (path_at q t) now
send_room q now t = test (known q t) (ltb max_shift x.lost) (ltb max_moment (loss_time now x.lost)) (leb max_path_chals_sent (length x.sent)) refl refl refl
  where
    x : Path
    x = path_at q t

    test : (a b c d : Bool) → ltb max_shift x.lost ≡ b → ltb max_moment (loss_time now x.lost) ≡ c → leb max_path_chals_sent (length x.sent) ≡ d
        → ◌≡◌ {A = ℕ} (cond (not a) 2 (cond (b || c) 8 (cond d 6 0))) 0 → Room x now
    test false b c d h k l e = absurd (omega arith)
    test true true c d h k l e = absurd (omega arith)
    test true false true d h k l e = absurd (omega arith)
    test true false false true h k l e = absurd (omega arith)
    test true false false false h k l e =
        record { lost = omega (arith, ltb-false max_shift x.lost h); near = ltb-false max_moment _ k; sent = leb-false max_path_chals_sent _ l }

send_formed : (d size now : ℕ) (x : Path) → now ≤ max_moment → Room x now → Formed x → Formed (send d size now x)
send_formed d size now x n r e = formed (send d size now x) (record {
  form = p.form;
  received8 = p.received8;
  sent16 = simp length-append (omega (arith, r.sent));
  lost33 = p.lost33;
  spare = λ k. r.lost;
  moments = all_snoc in_time x.sent (challenge d size now x.lost) p.moments (ap₂ ◌&&◌ (le-leb now max_moment n) (le-leb _ max_moment r.near));
})
  where
    p : PartsOf x
    p = facts x e

receive_formed : (d : ℕ) (x : Path) → Formed x → Formed (receive d x)
receive_formed d x e =
    let p : PartsOf x = facts x e in
    formed (receive d x) (record { form = p.form; received8 = roomed_few x.received d p.received8; sent16 = p.sent16; lost33 = p.lost33; spare = p.spare; moments = p.moments })

pop_formed : (x : Path) → Formed x → Formed (pop x)
pop_formed x e =
    let p : PartsOf x = facts x e in
    formed (pop x) (record {
      form = p.form;
      received8 = simp length-drop (omega (arith, p.received8));
      sent16 = p.sent16;
      lost33 = p.lost33;
      spare = p.spare;
      moments = p.moments;
    })

-- a response clears the lost count; what stays of the sent challenges stood before
respond_formed : (d : ℕ) (multi : Bool) (x : Path) → Formed x → Formed (respond d multi x)
respond_formed d multi x e =
    both Formed (heeds d x)
    (both Formed (leb min_client_initial_len (largest_after d x)) (formed done (record {
      form = p.form;
      received8 = p.received8;
      sent16 = omega arith;
      lost33 = omega arith;
      spare = λ k. omega arith;
      moments = refl;
    })) (formed (reached d x) (record {
      form = p.form;
      received8 = p.received8;
      sent16 = omega (arith, length_keep (λ (c : Challenge). not (carries d c)) x.sent, p.sent16);
      lost33 = omega arith;
      spare = λ k. omega arith;
      moments = all_kept in_time (λ (c : Challenge). not (carries d c)) x.sent p.moments;
    }))) e
  where
    p : PartsOf x
    p = facts x e

    done : Path
    done = with_sent [] (reached d x)

-- the challenges that are left, while they are taken from the front: 33 is reached only by failing
expire_formed : (now : ℕ) (cs : List Challenge) (x : Path) → Parts x.pair x.received cs x.lost → Formed (expire now cs x)
expire_formed now [] x p = formed (with_sent [] x) p
expire_formed now (c ∷ cs) x p =
    both Formed (leb c.deadline now)
    (decided Formed (ltb (x.lost + 1) max_probing_timeouts) (λ e. expire_formed now cs (with_ask true (with_lost (x.lost + 1) x)) (next e)) (λ e. formed out gone))
    (formed (with_sent (c ∷ cs) x) p)
  where
    next : ltb (x.lost + 1) max_probing_timeouts ≡ true → Parts x.pair x.received cs (x.lost + 1)
    next e = record {
      form = p.form;
      received8 = p.received8;
      sent16 = omega (arith, p.sent16);
      lost33 = omega (arith, ltb-true (x.lost + 1) max_probing_timeouts e);
      spare = λ k. omega (arith, ltb-true (x.lost + 1) max_probing_timeouts e);
      moments = (and_both (in_time c) (all in_time cs) p.moments).1;
    }

    out : Path
    out = failed (with_lost (x.lost + 1) x)

    gone : Parts x.pair x.received [] (x.lost + 1)
    gone = record { form = p.form; received8 = p.received8; sent16 = omega arith; lost33 = omega (arith, p.spare (omega arith)); spare = λ k. absurd (omega arith); moments = refl }

timeout_formed : (now : ℕ) (x : Path) → Formed x → Formed (timeout now x)
timeout_formed now x e = both Formed (probing x) (expire_formed now x.sent x (facts x e)) e

act_formed_lem : (t : Table) (q : ℕ) (a : Act) → act_formed a ≡ true → refusal t q a ≡ 0 → Formed (path_at q t) → Formed (effect t a (path_at q t))
act_formed_lem t q Initiate f z h = h
act_formed_lem t q Pop f z h = pop_formed (path_at q t) h
act_formed_lem t q (Receive d) f z h = receive_formed d (path_at q t) h
act_formed_lem t q (Send d size now) f z h = send_formed d size now (path_at q t) (leb-true now max_moment f) (send_room q now t z) h
act_formed_lem t q (Respond d now) f z h = respond_formed d t.multipath (path_at q t) h
act_formed_lem t q (Credit n) f z h = both Formed t.server (both Formed (path_at q t).verified h h) h
act_formed_lem t q (Charge n) f z h = both Formed t.server (both Formed (path_at q t).verified h h) h
act_formed_lem t q (SetScid o) f z h = h
act_formed_lem t q (SetDcid o) f z h = h
act_formed_lem t q (SetActive b) f z h = h
act_formed_lem t q Verify f z h = h
act_formed_lem t q (Look r) f z h = h

-- ---- pair and listing stay

module _ (x : Path) where
  abbrev L : Path → Type 0
  L = Less x

  still : (y z : Path) → z.listed ≡ y.listed → z.pair ≡ y.pair → L y → L z
  still y z p q h = less_still x y z p q h

  respond_less : (d : ℕ) (multi : Bool) → L (respond d multi x)
  respond_less d multi =
      both L (heeds d x)
      (both L (leb min_client_initial_len (largest_after d x)) (still x _ refl refl (less_same x)) (still x _ refl refl (less_same x))) (less_same x)

  timeout_less : (now : ℕ) → L (timeout now x)
  timeout_less now =
      timeout_holds L (λ v y k. still y _ refl refl k) (λ y k. still y _ refl refl k) (λ n y k. still y _ refl refl k) (λ y k. still y _ refl refl k) now x (less_same x)

  act_less : (t : Table) (a : Act) → L (effect t a x)
  act_less t Initiate = still x _ refl refl (less_same x)
  act_less t Pop = still x _ refl refl (less_same x)
  act_less t (Receive d) = still x _ refl refl (less_same x)
  act_less t (Send d size now) = still x _ refl refl (less_same x)
  act_less t (Respond d now) = respond_less d t.multipath
  act_less t (Credit n) = both L t.server (both L x.verified (less_same x) (still x _ refl refl (less_same x))) (less_same x)
  act_less t (Charge n) = both L t.server (both L x.verified (less_same x) (still x _ refl refl (less_same x))) (less_same x)
  act_less t (SetScid o) = still x _ refl refl (less_same x)
  act_less t (SetDcid o) = still x _ refl refl (less_same x)
  act_less t (SetActive b) = still x _ refl refl (less_same x)
  act_less t Verify = still x _ refl refl (less_same x)
  act_less t (Look r) = less_same x

-- ---- the table

module _ (t : Table) (w : Well t) where
  same_bounds : (l : List Path) → length l ≡ length t.paths → Bounds t.limit (length l)
  same_bounds l e = let b = w.bounds in record { low = b.low; high = b.high; some = omega (arith, b.some); few = omega (arith, b.few) }

  set_well : (q : ℕ) (f : Path → Path) → (Formed (path_at q t) → Formed (f (path_at q t))) → Less (path_at q t) (f (path_at q t)) → Well (on_path q f t)
  set_well q f k h = record {
    bounds = same_bounds (set t.paths q (f (path_at q t))) (length-set t.paths q (f (path_at q t)));
    paths = all_put path_formed_of t.paths q (f (path_at q t)) (λ i. k (all_at path_formed_of zero_path t.paths q i w.paths)) w.paths;
    listing = shrinks_apart (shrinks_set zero_path t.paths q (f (path_at q t)) h) w.listing;
  }

  map_well : (f : Path → Path) → ((x : Path) → Formed x → Formed (f x)) → ((x : Path) → Less x (f x)) → Well (on_all f t)
  map_well f k h = record {
    bounds = same_bounds (map f t.paths) (length-map t.paths f);
    paths = all_mapped path_formed_of f k t.paths w.paths;
    listing = shrinks_apart (shrinks_map f h t.paths) w.listing;
  }

  ping_well : (n : ℕ) (o : Option ℕ) → Well (ping_at n o t).table
  ping_well n none = w
  ping_well n (some i) = set_well i (with_ping true) (λ e. e) (less_still (path_at i t) (path_at i t) _ refl refl (less_same (path_at i t)))

  ping_on_well : (o : Option FourTuple) → Well (ping_on o t).table
  ping_on_well none =
      map_well ping_in_use_of (λ x e. both Formed (in_use x) e e)
      (λ x. both (Less x) (in_use x) (less_still x x _ refl refl (less_same x)) (less_same x))
  ping_on_well (some a) = ping_well 0 (first_with (listed_as a) t.paths)

  -- the listing of a pair is removed
  unlisted : (a : FourTuple) → Well (on_all (unlist a) t)
  unlisted a = map_well (unlist a) (λ x e. e) (less_unlist a)

act_well : (t : Table) (q : ℕ) (a : Act) → act_formed a ≡ true → Well t → Well (step t (On q a)).table
act_well t q a f w =
    decided (λ (o : Out). Well o.table) (eqb (refusal t q a) 0)
    (λ e. set_well t w q (effect t a) (act_formed_lem t q a f (eqb-true (refusal t q a) 0 e)) (act_less (path_at q t) t a)) (λ e. w)

-- a new path, at the end and in the place of another, where no path is listed for its pair
module _ (a : FourTuple) (m : ℕ) (f : pair_formed_of a ≡ true) where
  new_formed : Formed (new_path_of a m)
  new_formed = formed (new_path_of a m) (record { form = f; received8 = omega arith; sent16 = omega arith; lost33 = omega arith; spare = λ k. omega arith; moments = refl })

  appended_well : (t : Table) → Well t → length t.paths < t.limit → Well (appended a m t)
  appended_well t w k =
      let u : Well (on_all (unlist a) t) = unlisted t w a in
      record {
        bounds = record {
          low = w.bounds.low;
          high = w.bounds.high;
          some = simp length-append (omega arith);
          few = simp (length-append, length-map) (omega arith);
        };
        paths = all_snoc path_formed_of (map (unlist a) t.paths) (new_path_of a m) u.paths new_formed;
        listing = snoc_apart a m (map (unlist a) t.paths) u.listing (all_off a t.paths);
      }

  replaced_well : (t : Table) (i : ℕ) → Well t → Well (replaced i a m t)
  replaced_well t i w =
      let b : FourTuple = (path_at i t).pair in
      let v : Well (on_all (unlist b) t) = unlisted t w b in
      let l : List Path = map (unlist a) (map (unlist b) t.paths) in
      let u : Well (on_all (unlist a) (on_all (unlist b) t)) = unlisted (on_all (unlist b) t) v a in
      record {
        bounds = same_bounds (on_all (unlist a) (on_all (unlist b) t)) u (set l i (new_path_of a m)) (length-set l i (new_path_of a m));
        paths = all_put path_formed_of l i (new_path_of a m) (λ h. new_formed) u.paths;
        listing = put_apart a m l i u.listing (all_off a (map (unlist b) t.paths));
      }

  insert_well : (t : Table) → Well t → Well (insert a m t).table
  insert_well t w =
      decided (λ (o : Out). Well o.table) (ltb (length t.paths) t.limit)
      (λ e. appended_well t w (ltb-true (length t.paths) t.limit e)) (λ e. evicted (first_with unused t.paths))
    where
      evicted : (o : Option ℕ) → Well (evict o a m t).table
      evicted none = w
      evicted (some i) = replaced_well t i w

pub step_well : (t : Table) (c : Call) → call_formed c ≡ true → Well t → Well (step t c).table
step_well t (On q a) f w = act_well t q a f w
step_well t (Insert a m) f w = insert_well a m f t w
step_well t (Timeout now) f w = map_well t w (timeout now) (timeout_formed now) (λ x. timeout_less x now)
step_well t (Ping o) f w = both (λ (u : Out). Well u.table) t.multipath (ping_on_well t w o) (ping_well t w 2 (first_with flagged t.paths))
step_well t Multipath f w = record { bounds = w.bounds; paths = w.paths; listing = w.listing }
step_well t (Ask s) f w = rw (survey_same t s) w

pub keeps_well_lem : KeepsWell
keeps_well_lem t c h =
    decided (λ (o : Out). well o.table ≡ true) (well t && call_formed c)
    (λ e. is_well (step t c).table (step_well t c (and_both (well t) (call_formed c) e).1 (well_is t h))) (λ e. h)

pub run_well : (cs : List Call) (t : Table) → well t ≡ true → well (run t cs) ≡ true
run_well [] t h = h
run_well (c ∷ cs) t h = run_well cs (after t c) (keeps_well_lem t c h)

pub fresh_well_lem : FreshWell
fresh_well_lem server factor t (starts a m limit e) = test (leb 1 limit && leb limit max_paths_limit) (pair_formed_of a) refl refl e
  where
    test : (u v : Bool) → (leb 1 limit && leb limit max_paths_limit) ≡ u → pair_formed_of a ≡ v
        → (cond (u && v) (accepted Nothing (fresh a m limit factor server)) (refused 1 zero_table)).refusal ≡ 0
        → well (cond (u && v) (accepted Nothing (fresh a m limit factor server)) (refused 1 zero_table)).table ≡ true
    test true true p q e =
        let w = and_both (leb 1 limit) (leb limit max_paths_limit) p in
        is_well (fresh a m limit factor server) (record {
          bounds = record { low = leb-true 1 limit w.0; high = leb-true limit max_paths_limit w.1; some = omega arith; few = leb-true 1 limit w.0 };
          paths = ap (λ (b : Bool). b && true) (new_formed a m q);
          listing = refl;
        })
    test true false p q e = absurd (omega arith)
    test false v p q e = absurd (omega arith)

-- ---- no step answers 1

abbrev Other : Out → Type 0
Other o = eqb o.refusal 1 ≡ false

abbrev NotOne : ℕ → Type 0
NotOne n = eqb n 1 ≡ false

known_other : (q : ℕ) (t : Table) → NotOne (unless_known q t)
known_other q t = both NotOne (known q t) refl refl

read_other : (t : Table) (q : ℕ) (r : Read) → NotOne (read_refusal q t r)
read_other t q Get = known_other q t
read_other t q LocalAddr = known_other q t
read_other t q RemoteAddr = known_other q t
read_other t q State = known_other q t
read_other t q Validated = known_other q t
read_other t q Active = known_other q t
read_other t q Initiated = known_other q t
read_other t q NeedsFrames = known_other q t
read_other t q NeedsPadding = known_other q t
read_other t q (Allowed wish) = refl

refusal_other : (t : Table) (q : ℕ) (a : Act) → NotOne (refusal t q a)
refusal_other t q Initiate = known_other q t
refusal_other t q Pop = known_other q t
refusal_other t q (Receive d) = refl
refusal_other t q (Send d size now) =
    both NotOne (not (known q t)) refl
    (both NotOne (ltb max_shift (path_at q t).lost || ltb max_moment (loss_time now (path_at q t).lost)) refl
    (both NotOne (leb max_path_chals_sent (length (path_at q t).sent)) refl refl))
refusal_other t q (Respond d now) = refl
refusal_other t q (Credit n) = refl
refusal_other t q (Charge n) = refl
refusal_other t q (SetScid o) = known_other q t
refusal_other t q (SetDcid o) = known_other q t
refusal_other t q (SetActive b) = known_other q t
refusal_other t q Verify = known_other q t
refusal_other t q (Look r) = read_other t q r

survey_other : (t : Table) (s : Survey) → Other (survey t s)
survey_other t Len = refl
survey_other t (IdOf a) = refl
survey_other t GetActive = test (first_with flagged t.paths)
  where
    test : (o : Option ℕ) → Other (active_out o t)
    test none = refl
    test (some i) = refl
survey_other t Timer = refl

ping_other : (n : ℕ) (o : Option ℕ) (t : Table) → NotOne n → Other (ping_at n o t)
ping_other n none t h = h
ping_other n (some i) t h = refl

ping_on_other : (o : Option FourTuple) (t : Table) → Other (ping_on o t)
ping_on_other none t = refl
ping_on_other (some a) t = ping_other 0 (first_with (listed_as a) t.paths) t refl

evict_other : (o : Option ℕ) (a : FourTuple) (m : ℕ) (t : Table) → Other (evict o a m t)
evict_other none a m t = refl
evict_other (some i) a m t = refl

step_other : (t : Table) (c : Call) → Other (step t c)
step_other t (On q a) = both Other (eqb (refusal t q a) 0) refl (refusal_other t q a)
step_other t (Insert a m) = both Other (ltb (length t.paths) t.limit) refl (evict_other (first_with unused t.paths) a m t)
step_other t (Timeout now) = refl
step_other t (Ping o) = both Other t.multipath (ping_on_other o t) (ping_other 2 (first_with flagged t.paths) t refl)
step_other t Multipath = refl
step_other t (Ask s) = survey_other t s

pub one_is_form : OneIsForm
one_is_form t c h = test (well t) (call_formed c) h
  where
    test : (w f : Bool) → w ≡ true → eqb (cond (w && f) (step t c) (refused 1 t)).refusal 1 ≡ not f
    test true true h = step_other t c
    test true false h = refl
    test false f h = let z : ◌≡◌ {A = ℕ} 0 1 = cc in absurd (omega arith)

pub never_one_lem : NeverOne
never_one_lem server factor t s cs c = one_is_form (run t cs) c (run_well cs t (fresh_well_lem server factor t s))
