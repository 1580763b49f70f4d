-- Every call keeps the view well formed.
use Rattle.std.specs.Prelude.{ℕ, suc, ◌+◌, ◌%◌, ◌≤◌, ◌<◌, min, ◌≡◌, refl, List, [], ◌∷◌, ◌++◌, map, Bool, true, false, cond, not, ◌&&◌, length, eqb, leb}
use Rattle.std.proofs.Common.{sym, ap, ap₂, ◌∙◌, arith, length-append, leb-true, leb-false, eqb-true, le-leb, eq-eqb, ne_eqb}
use Rattle.std.proofs.Math.Bool.{or-true, and-true}
use Rattle.std.proofs.Math.Option.{Option, none, some}
use Rattle.std.proofs.lemmas.List.{length-map}
use Rattle.std.proofs.lemmas.Bool.{not-true}
use Rattle.lists.specs.Defs.{every, keep, any, all, least, less}
use Rattle.lists.specs.Bools.{and_both}
use Rattle.lists.specs.Search.{length_keep}
use Rattle.values.specs.declared.cid.ConnectionId.{ConnectionId}
use Rattle.values.specs.Limits.{max_cids_count, max_dcid_limit, max_sequence, min_scid_limit, queue_slots, table_slots, capacity_of}
use Rattle.values.specs.Cid.{id_formed}
use Rattle.ids_rules.specs.Values.{Item, on_path, seq_of, has_seq, from, clashes, item_formed_of}
use Rattle.ids_rules.specs.View.{View, Out}
use Rattle.ids_rules.specs.With.{with_scids, with_dcids, with_retire_prior_to, with_dcids_to_retire}
use Rattle.ids_rules.specs.Steps.{lowest_from, marked, sole, without, lowered, used}
use Rattle.ids_rules.proofs.Ends.{Raised, spare, lifts, AddScidEnds, refuses, raises, issues, RetireScidEnds, unissued, only, absent, out, frees, AddDcidEnds, rejects, again, waits, late4, late, lowers, renews, adds, queued, add_scid_ends, retire_scid_ends, add_dcid_ends}
use Rattle.ids_rules.specs.Well.{rising_within, distinct, limits, source, destination, queues, well}
use Rattle.ids_rules.specs.Calls.{Call, SetInitialDcid, SetScidLimit, AddScid, RetireScid, AddDcid, MarkScidUsed, MarkDcidUsed, MarkScidToAdvertise, MarkDcidToRetire, Ask, call_formed, step}
use Rattle.ids_rules.specs.Laws.{decided, both_and, or_neither, every_is, is_every, all_append, all_keep, all_moved, any_moved, none_keep, none_append}

-- the four groups of conjuncts, as facts
pub record Limits (dcid_limit scid_limit scid_capacity : ℕ) : Type 0 where
  pub dlow : 1 ≤ dcid_limit
  pub dhigh : dcid_limit ≤ max_dcid_limit
  pub slow : min_scid_limit ≤ scid_limit
  pub shigh : scid_limit ≤ max_cids_count
  pub odd : scid_capacity % 2 ≡ 1
  pub room : capacity_of scid_limit ≤ scid_capacity
  pub most : scid_capacity ≤ table_slots

pub record Source (scid_capacity next rpt : ℕ) (l : List Item) : Type 0 where
  pub one : 1 ≤ length l
  pub few : length l ≤ scid_capacity
  pub low : 1 ≤ next
  pub high : next ≤ max_sequence
  pub own : rpt ≤ next
  pub rises : rising_within 0 next l ≡ true
  pub forms : all item_formed_of l ≡ true

pub record Destination (dcid_limit : ℕ) (l : List Item) : Type 0 where
  pub few : length l ≤ capacity_of dcid_limit
  pub apart : distinct l ≡ true
  pub forms : all item_formed_of l ≡ true

pub record Queues (advertise retire : List ℕ) : Type 0 where
  pub adverts : length advertise ≤ queue_slots
  pub retires : length retire ≤ queue_slots

pub record Well (v : View) : Type 0 where
  pub limits : Limits v.dcid_limit v.scid_limit v.scid_capacity
  pub source : Source v.scid_capacity v.next_scid_seq v.retire_prior_to v.scids
  pub destination : Destination v.dcid_limit v.dcids
  pub queues : Queues v.scids_to_advertise v.dcids_to_retire

pub well_is : (v : View) → well v ≡ true → Well v
well_is v e =
    let a = and_both _ (every (queues v.scids_to_advertise v.dcids_to_retire)) e in
    let b = and_both _ (every (destination v.dcid_limit v.dcids)) a.0 in
    let c = and_both (every (limits v.dcid_limit v.scid_limit v.scid_capacity)) (every (source v.scid_capacity v.next_scid_seq v.retire_prior_to v.scids)) b.0 in
    let l = every_is (limits v.dcid_limit v.scid_limit v.scid_capacity) c.0 in
    let s = every_is (source v.scid_capacity v.next_scid_seq v.retire_prior_to v.scids) c.1 in
    let d = every_is (destination v.dcid_limit v.dcids) b.1 in
    let q = every_is (queues v.scids_to_advertise v.dcids_to_retire) a.1 in
    let sf = s.1.1.1.1.1 in
    record {
      limits = omega (arith, leb-true, eqb-true);
      source = record { one = leb-true _ _ s.0; few = leb-true _ _ s.1.0; low = leb-true _ _ s.1.1.0; high = leb-true _ _ s.1.1.1.0; own = leb-true _ _ s.1.1.1.1.0; rises = sf.0; forms = sf.1.0 };
      destination = record { few = leb-true _ _ d.0; apart = d.1.0; forms = d.1.1.0 };
      queues = record { adverts = leb-true _ _ q.0; retires = leb-true _ _ q.1.0 };
    }

pub is_well : (v : View) → Well v → well v ≡ true
is_well v h =
    let l : every (limits v.dcid_limit v.scid_limit v.scid_capacity) ≡ true = is_every (limits v.dcid_limit v.scid_limit v.scid_capacity) (omega (arith, h.limits, le-leb, eq-eqb)) in
    let s : every (source v.scid_capacity v.next_scid_seq v.retire_prior_to v.scids) ≡ true = is_every (source v.scid_capacity v.next_scid_seq v.retire_prior_to v.scids) (le-leb _ _ h.source.one, (le-leb _ _ h.source.few, (le-leb _ _ h.source.low, (le-leb _ _ h.source.high, (le-leb _ _ h.source.own, (h.source.rises, (h.source.forms, tt))))))) in
    let d : every (destination v.dcid_limit v.dcids) ≡ true = is_every (destination v.dcid_limit v.dcids) (le-leb _ _ h.destination.few, (h.destination.apart, (h.destination.forms, tt))) in
    let q : every (queues v.scids_to_advertise v.dcids_to_retire) ≡ true = is_every (queues v.scids_to_advertise v.dcids_to_retire) (le-leb _ _ h.queues.adverts, (le-leb _ _ h.queues.retires, tt)) in
    both_and _ _ (both_and _ _ (both_and _ _ l s) d) q

-- ---- source sequences that rise

rising_bound : (b n : ℕ) (l : List Item) → rising_within b n l ≡ true → b ≤ n
rising_bound b n [] h = leb-true b n h
rising_bound b n (x ∷ l) h = let w = and_both (leb b x.seq) (rising_within (x.seq + 1) n l) h in omega (arith, leb-true b x.seq w.0, rising_bound (x.seq + 1) n l w.1)

rising_from : (b c n : ℕ) (l : List Item) → b ≤ c → rising_within c n l ≡ true → rising_within b n l ≡ true
rising_from b c n [] k h = le-leb b n (omega (arith, leb-true c n h))
rising_from b c n (x ∷ l) k h =
    let w = and_both (leb c x.seq) (rising_within (x.seq + 1) n l) h in
    both_and (leb b x.seq) (rising_within (x.seq + 1) n l) (le-leb b x.seq (omega (arith, leb-true c x.seq w.0))) w.1

rising_keep : (p : Item → Bool) (b n : ℕ) (l : List Item) → rising_within b n l ≡ true → rising_within b n (keep p l) ≡ true
rising_keep p b n [] h = h
rising_keep p b n (x ∷ l) h =
    let w = and_both (leb b x.seq) (rising_within (x.seq + 1) n l) h in
    let k : rising_within (x.seq + 1) n (keep p l) ≡ true = rising_keep p (x.seq + 1) n l w.1 in
    decided (λ (m : List Item). rising_within b n m ≡ true) (p x)
    (λ e. both_and (leb b x.seq) (rising_within (x.seq + 1) n (keep p l)) w.0 k)
    (λ e. rising_from b (x.seq + 1) n (keep p l) (omega (arith, leb-true b x.seq w.0)) k)

-- one more, at the end
rising_more : (b n : ℕ) (l : List Item) (x : Item) → x.seq ≡ n → rising_within b n l ≡ true → rising_within b (n + 1) (l ++ (x ∷ [])) ≡ true
rising_more b n [] x q h = rw q (both_and (leb b n) (leb (n + 1) (n + 1)) h (le-leb (n + 1) (n + 1) (omega arith)))
rising_more b n (y ∷ l) x q h =
    let w = and_both (leb b y.seq) (rising_within (y.seq + 1) n l) h in
    both_and (leb b y.seq) (rising_within (y.seq + 1) (n + 1) (l ++ (x ∷ []))) w.0 (rising_more (y.seq + 1) n l x q w.1)

rising_map : (f : Item → Item) → ((x : Item) → (f x).seq ≡ x.seq) → (b n : ℕ) (l : List Item) → rising_within b n (map f l) ≡ rising_within b n l
rising_map f e b n [] = refl
rising_map f e b n (x ∷ l) = rw (e x) (ap (λ (t : Bool). leb b x.seq && t) (rising_map f e (x.seq + 1) n l))

-- a sequence below the first, or not below the bound, is not there
pub absent_low : (s b n : ℕ) (l : List Item) → s < b → rising_within b n l ≡ true → any (has_seq s) l ≡ false
absent_low s b n [] k h = refl
absent_low s b n (x ∷ l) k h =
    let w = and_both (leb b x.seq) (rising_within (x.seq + 1) n l) h in
    let z = leb-true b x.seq w.0 in
    rw (ne_eqb s x.seq (λ e. omega arith)) (absent_low s (x.seq + 1) n l (omega arith) w.1)

pub absent_high : (s b n : ℕ) (l : List Item) → n ≤ s → rising_within b n l ≡ true → any (has_seq s) l ≡ false
absent_high s b n [] k h = refl
absent_high s b n (x ∷ l) k h =
    let w = and_both (leb b x.seq) (rising_within (x.seq + 1) n l) h in
    let z = rising_bound (x.seq + 1) n l w.1 in
    rw (ne_eqb s x.seq (λ e. omega arith)) (absent_high s (x.seq + 1) n l k w.1)

-- the lowest is below the bound
pub lowest_below : (b c n : ℕ) (l : List Item) (s : ℕ) → rising_within b n l ≡ true → lowest_from c l ≡ some s → s < n
lowest_below b c n [] s h e = let z : ◌≡◌ {A = ℕ} 0 1 = cc in absurd (omega arith)
lowest_below b c n (x ∷ l) s h e =
    let w = and_both (leb b x.seq) (rising_within (x.seq + 1) n l) h in
    let z : x.seq < n = omega (arith, rising_bound (x.seq + 1) n l w.1) in
    decided (λ (m : List Item). least (map seq_of m) ≡ some s → s < n) (leb c x.seq)
    (λ t. min_case (least (map seq_of (keep (from c) l))) z) (λ t. lowest_below (x.seq + 1) c n l s w.1) e
  where
    min_case : (o : Option ℕ) → x.seq < n → less o x.seq ≡ some s → s < n
    min_case none z e = let q : x.seq ≡ s = cc in omega arith
    min_case (some m) z e = let q : min m x.seq ≡ s = cc in omega arith

-- at most one item has the sequence s
without_none : (s : ℕ) (l : List Item) → any (has_seq s) l ≡ false → without s l ≡ l
without_none s [] h = refl
without_none s (x ∷ l) h = let w = or_neither (has_seq s x) (any (has_seq s) l) h in rw w.0 (ap (λ (m : List Item). x ∷ m) (without_none s l w.1))

without_one : (s b n : ℕ) (l : List Item) → rising_within b n l ≡ true → length l ≤ length (without s l) + 1
without_one s b n [] h = omega arith
without_one s b n (x ∷ l) h =
    let w = and_both (leb b x.seq) (rising_within (x.seq + 1) n l) h in
    let k = without_one s (x.seq + 1) n l w.1 in
    test (has_seq s x) refl k w.1
  where
    test : (t : Bool) → eqb s x.seq ≡ t → length l ≤ length (without s l) + 1 → rising_within (x.seq + 1) n l ≡ true → suc (length l) ≤ length (cond (not t) (x ∷ without s l) (without s l)) + 1
    test true e k r = rw (without_none s l (absent_low s (x.seq + 1) n l (omega (arith, eqb-true s x.seq e)) r)) (omega arith)
    test false e k r = omega arith

-- ---- destination items that are apart

distinct_keep : (p : Item → Bool) (l : List Item) → distinct l ≡ true → distinct (keep p l) ≡ true
distinct_keep p [] h = h
distinct_keep p (x ∷ l) h =
    let w = and_both (not (any (clashes x) l)) (distinct l) h in
    let k = distinct_keep p l w.1 in
    decided (λ (m : List Item). distinct m ≡ true) (p x)
    (λ e. rw (none_keep (clashes x) p l (not-true (any (clashes x) l) w.0)) k) (λ e. k)

distinct_more : (l : List Item) (x : Item) → distinct l ≡ true → any (λ (y : Item). clashes y x) l ≡ false → distinct (l ++ (x ∷ [])) ≡ true
distinct_more [] x h k = refl
distinct_more (y ∷ l) x h k =
    let w = and_both (not (any (clashes y) l)) (distinct l) h in
    let u = or_neither (clashes y x) (any (λ (y : Item). clashes y x) l) k in
    rw (none_append (clashes y) l (x ∷ []) (not-true (any (clashes y) l) w.0) (rw u.0)) (distinct_more l x w.1 u.1)

-- a change that leaves ID and sequence
distinct_map : (f : Item → Item) → ((x : Item) → (f x).seq ≡ x.seq) → ((x : Item) → (f x).cid ≡ x.cid) → (l : List Item) → distinct (map f l) ≡ distinct l
distinct_map f e d [] = refl
distinct_map f e d (x ∷ l) =
    let q : any (clashes (f x)) l ≡ any (clashes x) l = rw (e x, d x) in
    ap₂ (λ (a b : Bool). not a && b) (any_moved (clashes (f x)) f (λ y. rw (e y, d y)) l ∙ q) (distinct_map f e d l)

-- ---- one item is put on a path

module _ (s p : ℕ) where
  pub used_seq : (x : Item) → (cond (has_seq s x) (on_path p x) x).seq ≡ x.seq
  used_seq x = decided (λ (y : Item). y.seq ≡ x.seq) (has_seq s x) (λ e. refl) (λ e. refl)

  used_cid : (x : Item) → (cond (has_seq s x) (on_path p x) x).cid ≡ x.cid
  used_cid x = decided (λ (y : Item). y.cid ≡ x.cid) (has_seq s x) (λ e. refl) (λ e. refl)

  used_formed : (x : Item) → item_formed_of (cond (has_seq s x) (on_path p x) x) ≡ item_formed_of x
  used_formed x = decided (λ (y : Item). item_formed_of y ≡ item_formed_of x) (has_seq s x) (λ e. refl) (λ e. refl)

  used_source : (scid_capacity next rpt : ℕ) (l : List Item) → Source scid_capacity next rpt l → Source scid_capacity next rpt (used s p l)
  used_source scid_capacity next rpt l h =
      let n = length-map l (λ (x : Item). cond (has_seq s x) (on_path p x) x) in
      record {
        one = rw n h.one;
        few = rw n h.few;
        low = h.low;
        high = h.high;
        own = h.own;
        rises = rising_map _ used_seq 0 next l ∙ h.rises;
        forms = all_moved item_formed_of _ used_formed l ∙ h.forms;
      }

  used_destination : (dcid_limit : ℕ) (l : List Item) → Destination dcid_limit l → Destination dcid_limit (used s p l)
  used_destination dcid_limit l h =
      let n = length-map l (λ (x : Item). cond (has_seq s x) (on_path p x) x) in
      record { few = rw n h.few; apart = distinct_map _ used_seq used_cid l ∙ h.apart; forms = all_moved item_formed_of _ used_formed l ∙ h.forms }

-- ---- queues

marked_few : (s : ℕ) (on : Bool) (l : List ℕ) → (on && leb queue_slots (length l)) ≡ false → length l ≤ queue_slots → length (marked s on l) ≤ queue_slots
marked_few s true l k h = simp length-append (omega (arith, leb-false queue_slots (length l) k))
marked_few s false l k h = omega (arith, length_keep (λ (n : ℕ). not (eqb s n)) l)

-- ---- each step

-- what a call leaves
abbrev pub Leaves : Out → Type 0
Leaves o = Well o.view

-- a raised Retire Prior To
rpt_well : (v : View) (r : ℕ) → r ≤ v.next_scid_seq → Well v → Well (with_retire_prior_to r v)
rpt_well v r k h = record {
  limits = h.limits;
  source = record { one = h.source.one; few = h.source.few; low = h.source.low; high = h.source.high; own = k; rises = h.source.rises; forms = h.source.forms };
  destination = h.destination;
  queues = h.queues;
}

pub raised_le : (v : View) {r : ℕ} → Raised v r → Well v → r ≤ v.next_scid_seq
raised_le v (spare k) h = h.source.own
raised_le v (lifts s e) h = omega (arith, lowest_below 0 v.retire_prior_to v.next_scid_seq v.scids s h.source.rises e)

add_well : (x : Item) (advertise : Bool) (v : View) {o : Out} → AddScidEnds x advertise v o → id_formed x.cid ≡ true → x.seq ≡ v.next_scid_seq → Well v → Well o.view
add_well x advertise v (refuses n k) f q h = h
add_well x advertise v (raises n r k t) f q h = rpt_well v r (raised_le v t h) h
add_well x advertise v (issues r t n p l a) f q h = record {
  limits = h.limits;
  source = record {
    one = simp length-append (omega arith);
    few = simp length-append (omega arith);
    low = omega arith;
    high = omega arith;
    own = omega (arith, raised_le v t h);
    rises = rising_more 0 v.next_scid_seq v.scids x q h.source.rises;
    forms = all_append item_formed_of v.scids (x ∷ []) h.source.forms (rw (f, p, or-true));
  };
  destination = h.destination;
  queues = record { adverts = marked_few v.next_scid_seq advertise v.scids_to_advertise a h.queues.adverts; retires = h.queues.retires };
}

-- the item s is taken out, and another is left
out_well : (s : ℕ) (v : View) → sole s v.scids ≡ false → any (has_seq s) v.scids ≡ true → Well v → Well (with_scids (without s v.scids) v)
out_well s v o a h =
    let two : leb (length v.scids) 1 ≡ false = sym (and-true _) ∙ ap (λ (t : Bool). leb (length v.scids) 1 && t) (sym a) ∙ o in
    record {
      limits = h.limits;
      source = record {
        one = omega (arith, leb-false (length v.scids) 1 two, without_one s 0 v.next_scid_seq v.scids h.source.rises);
        few = omega (arith, h.source.few, length_keep (λ (x : Item). not (has_seq s x)) v.scids);
        low = h.source.low;
        high = h.source.high;
        own = h.source.own;
        rises = rising_keep _ 0 v.next_scid_seq v.scids h.source.rises;
        forms = all_keep item_formed_of _ v.scids h.source.forms;
      };
      destination = h.destination;
      queues = h.queues;
    }

retire_well : (s : ℕ) (packet : ConnectionId) (v : View) {o : Out} → RetireScidEnds s packet v o → Well v → Well o.view
retire_well s packet v (unissued k) h = h
retire_well s packet v (only e) h = h
retire_well s packet v (absent e) h = h
retire_well s packet v (out n k a e) h = out_well s v e a h
retire_well s packet v (frees x r a e l) h =
    let w = out_well s v e a h in
    rpt_well (with_scids (without s v.scids) v) r (omega (arith, lowest_below 0 v.retire_prior_to v.next_scid_seq (without s v.scids) r w.source.rises l)) w

-- ---- destination

-- the retire queue changes
queue_well : (l : List ℕ) (v : View) → length l ≤ queue_slots → Well v → Well (with_dcids_to_retire l v)
queue_well l v k h = record { limits = h.limits; source = h.source; destination = h.destination; queues = record { adverts = h.queues.adverts; retires = k } }

more_well : (x : Item) (v : View) → item_formed_of x ≡ true → any (λ (y : Item). clashes y x) v.dcids ≡ false → length v.dcids < capacity_of v.dcid_limit → Well v → Well (with_dcids (v.dcids ++ (x ∷ [])) v)
more_well x v f c l h = record {
  limits = h.limits;
  source = h.source;
  destination = record {
    few = simp length-append (omega arith);
    apart = distinct_more v.dcids x h.destination.apart c;
    forms = all_append item_formed_of v.dcids (x ∷ []) h.destination.forms (rw f);
  };
  queues = h.queues;
}

lowered_well : (b : ℕ) (v : View) → length (queued b v) ≤ queue_slots → Well v → Well (lowered b v)
lowered_well b v k h = record {
  limits = h.limits;
  source = h.source;
  destination = record {
    few = omega (arith, h.destination.few, length_keep (from b) v.dcids);
    apart = distinct_keep (from b) v.dcids h.destination.apart;
    forms = all_keep item_formed_of (from b) v.dcids h.destination.forms;
  };
  queues = record { adverts = h.queues.adverts; retires = k };
}

dcid_well : (x : Item) (b : ℕ) (v : View) {o : Out} → AddDcidEnds x b v o → item_formed_of x ≡ true → Well v → Well o.view
dcid_well x b v (rejects n k) f h = h
dcid_well x b v (again e) f h = h
dcid_well x b v (waits n k q) f h = h
dcid_well x b v (late4 n k l) f h = queue_well _ v (simp length-append (omega arith)) h
dcid_well x b v (late n k l t) f h = queue_well _ v (simp length-append (omega arith)) h
dcid_well x b v (lowers m k n l q) f h = lowered_well b v q h
dcid_well x b v (renews n l q r t) f h = more_well x (lowered b v) f (none_keep (λ (y : Item). clashes y x) (from b) v.dcids n.free) r (lowered_well b v q h)
dcid_well x b v (adds n l q r) f h = more_well x v f n.free r h

-- ---- any step

pub step_well : (v : View) (c : Call) → call_formed c ≡ true → Well v → Leaves (step v c)
step_well v (SetInitialDcid cid token path) f h =
    record { limits = h.limits; source = h.source; destination = record { few = omega (arith, h.limits.dlow); apart = refl; forms = rw f }; queues = h.queues }
step_well v (SetScidLimit n) f h = record {
  limits = omega (arith, h.limits);
  source = record { one = h.source.one; few = omega (arith, h.source.few); low = h.source.low; high = h.source.high; own = h.source.own; rises = h.source.rises; forms = h.source.forms };
  destination = h.destination;
  queues = h.queues;
}
step_well v (AddScid cid token advertise path retire_if_needed) f h = add_well _ advertise v (add_scid_ends cid token advertise path v retire_if_needed) f refl h
step_well v (RetireScid s packet) f h = retire_well s packet v (retire_scid_ends s packet v) h
step_well v (AddDcid cid s token b) f h = dcid_well _ b v (add_dcid_ends cid s token b v) (rw (f, or-true)) h
step_well v (MarkScidUsed s p) f h =
    decided Leaves (any (has_seq s) v.scids) (λ e. record { limits = h.limits; source = used_source s p _ _ _ v.scids h.source; destination = h.destination; queues = h.queues }) (λ e. h)
step_well v (MarkDcidUsed s p) f h =
    decided Leaves (any (has_seq s) v.dcids) (λ e. record { limits = h.limits; source = h.source; destination = used_destination s p _ v.dcids h.destination; queues = h.queues }) (λ e. h)
step_well v (MarkScidToAdvertise s on) f h =
    decided Leaves (on && leb queue_slots (length v.scids_to_advertise)) (λ e. h)
    (λ q. record { limits = h.limits; source = h.source; destination = h.destination; queues = record { adverts = marked_few s on v.scids_to_advertise q h.queues.adverts; retires = h.queues.retires } })
step_well v (MarkDcidToRetire s on) f h =
    decided Leaves (on && leb queue_slots (length v.dcids_to_retire)) (λ e. h) (λ q. queue_well (marked s on v.dcids_to_retire) v (marked_few s on v.dcids_to_retire q h.queues.retires) h)
step_well v (Ask q) f h = h
