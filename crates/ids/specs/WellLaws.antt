-- The view of a well-formed state is well formed, and so is the state of a well-formed view: so a step's contract is one about `apply`, and about runs of calls.
use Rattle.std.specs.Prelude.{ℕ, zero, suc, ◌+◌, ◌-◌, ◌*◌, ◌%◌, ◌≤◌, ◌<◌, ◌≡◌, refl, List, [], ◌∷◌, ◌++◌, map, Bool, true, false, not, cond, ◌&&◌, ◌||◌, eqb, leb, ltb, length, replicate}
use Rattle.std.proofs.Common.{ap, ap₂, ◌∙◌, arith, drop_at, eq-eqb, lt-ltb, le-leb, leb-true, ltb-true}
use Rattle.std.proofs.Math.Option.{Option, none, some}
use Rattle.std.proofs.lemmas.List.{length-map}
use Rattle.lists.specs.Defs.{present, every, nought, all, any, past, pairwise, padded}
use Rattle.lists.specs.Bools.{and_both, conj, Each, conj_each}
use Rattle.lists.specs.Held.{length_padded, take_padded}
use Rattle.values.specs.Limits.{max_dcid_limit, max_cids_count, min_scid_limit, table_slots, queue_slots, max_sequence, capacity_of}
use Rattle.values.specs.Cid.{id_formed, same_id}
use Rattle.values.specs.Token.{token_formed_of}
use Rattle.ids_rules.specs.Values.{Item, clashes, item_formed_of}
use Rattle.ids_rules.specs.View.{View, refused}
use Rattle.ids_rules.specs.Well.{rising_within, distinct, limits, source, destination, queues, well}
use Rattle.ids_rules.specs.Calls.{Call, call_formed, step, apply}
use Rattle.tables.specs.Table.{is_zero, zero_item, live, table_of}
use Rattle.ids_state.specs.Formed.{apart, sources_formed, destinations_formed, bounded, well_formed}
use Rattle.ids_state.proofs.Laws.{Facts, facts}
use Rattle.ids_state.specs.declared.state.Ids.{Ids}
use Rattle.ids.specs.Reading.{item_view, view, token_of, path_of, item_of, ids_of, path_formed_of}
use Rattle.ids.specs.ReadingLaws.{present_given, item_parts, scids_long, dcids_long, advertise_long, retire_long}
use Rattle.tables.specs.declared.items.Item as I
use Rattle.tables.specs.Table as T
use Rattle.ids_state.specs.Formed as F
use Rattle.lists.specs.Defs as D

both : {a b : Bool} → a ≡ true → b ≡ true → (a && b) ≡ true
both p q = ap₂ ◌&&◌ p q

or_comm : (a b : Bool) → (a || b) ≡ (b || a)
or_comm true true = refl
or_comm true false = refl
or_comm false true = refl
or_comm false false = refl

-- ---- from the state to the view: items

item_well : (x : I.Item) → F.item_formed_of x ≡ true → item_formed_of (item_view x) ≡ true
item_well x e =
    let w = item_parts x e in
    both w.0 (ap (λ (t : Bool). eqb x.seq 0 || t) (present_given x.token.present x.token.bytes) ∙ or_comm (eqb x.seq 0) x.token.present ∙ w.3)

items_well : (l : List I.Item) → all F.item_formed_of l ≡ true → all item_formed_of (map item_view l) ≡ true
items_well [] e = refl
items_well (x ∷ l) e = let w = and_both (F.item_formed_of x) (all F.item_formed_of l) e in both (item_well x w.0) (items_well l w.1)

rise : (x n : ℕ) (l : List I.Item) → D.after x (map T.seq_of l ++ (n ∷ [])) ≡ true → rising_within (x + 1) n (map item_view l) ≡ true
rise x n [] e = let h = ltb-true x n (and_both (ltb x n) true e).0 in le-leb (x + 1) n (omega arith)
rise x n (y ∷ l) e =
    let w = and_both (ltb x y.seq) (D.after y.seq (map T.seq_of l ++ (n ∷ []))) e in
    let h = ltb-true x y.seq w.0 in
    both (le-leb (x + 1) y.seq (omega arith)) (rise y.seq n l w.1)

rises : (n : ℕ) (l : List I.Item) → D.rising (map T.seq_of l ++ (n ∷ [])) ≡ true → rising_within 0 n (map item_view l) ≡ true
rises n [] e = le-leb 0 n (omega arith)
rises n (x ∷ l) e = both (le-leb 0 x.seq (omega arith)) (rise x.seq n l e)

apart_clash : (a b : Bool) (r : Bool) → (not a && not b) ≡ true → not r ≡ true → not ((b || a) || r) ≡ true
apart_clash false false r e k = k
apart_clash false true r e k = e
apart_clash true b r e k = let z : ◌≡◌ {A = ℕ} 0 1 = cc in absurd (omega arith)

no_clash : (x : I.Item) (l : List I.Item) → all (apart x) l ≡ true → not (any (clashes (item_view x)) (map item_view l)) ≡ true
no_clash x [] e = refl
no_clash x (y ∷ l) e =
    let w = and_both (apart x y) (all (apart x) l) e in
    apart_clash (eqb x.seq y.seq) (same_id x.cid y.cid) (any (clashes (item_view x)) (map item_view l)) w.0 (no_clash x l w.1)

distincts : (l : List I.Item) → pairwise apart l ≡ true → distinct (map item_view l) ≡ true
distincts [] e = refl
distincts (x ∷ l) e = let w = and_both (all (apart x) l) (pairwise apart l) e in both (no_clash x l w.0) (distincts l w.1)

-- every test of a list passes, one by one
every_of : (l : List Bool) → Each l → every l ≡ true
every_of [] w = refl
every_of (b ∷ l) w = both w.0 (every_of l w.1)

module _ (s : Ids) (w : well_formed s ≡ true) where
  f : Facts s
  f = facts s w

  pub view_well : well (view s) ≡ true
  view_well =
      let b = f.bounds in
      let v = view s in
      let n = length v.scids in
      let m = length v.dcids in
      let limited = every_of (limits v.dcid_limit v.scid_limit v.scid_capacity) (le-leb _ _ b.dcid_limit_least, (le-leb _ _ b.dcid_limit_most, (le-leb _ _ b.scid_limit_least, (le-leb _ _ b.scid_limit_most, (eq-eqb _ _ b.odd, (le-leb _ _ b.capacity_least, (le-leb _ _ b.capacity_most, 0))))))) in
      let sources = every_of (source v.scid_capacity v.next_scid_seq v.retire_prior_to v.scids) (le-leb 1 n (omega (arith, b.sources_some, scids_long s w)), (le-leb n s.scid_capacity (omega (arith, b.sources_few, scids_long s w)), (le-leb _ _ b.next_least, (le-leb _ _ b.next_most, (le-leb _ _ b.rpt_most, (rises s.next_scid_seq (live s.scids) f.rises, (items_well (live s.scids) f.source_items, 0))))))) in
      let destinations = every_of (destination v.dcid_limit v.dcids) (le-leb m (capacity_of s.dcid_limit) (omega (arith, b.destinations_few, dcids_long s w)), (distincts (live s.dcids) f.distinct, (items_well (live s.dcids) f.destination_items, 0))) in
      let queued = every_of (queues v.scids_to_advertise v.dcids_to_retire) (le-leb (length v.scids_to_advertise) queue_slots (omega (arith, b.advertised_few, advertise_long s w)), (le-leb (length v.dcids_to_retire) queue_slots (omega (arith, b.retired_few, retire_long s w)), 0)) in
      both (both (both limited sources) destinations) queued

  pub step_applies : (c : Call) → call_formed c ≡ true → apply (view s) c ≡ step (view s) c
  step_applies c e = ap (λ (t : Bool). cond t (step (view s) c) (refused 1 (view s))) (both view_well e)

-- ---- from the view to the state

token_well : (o : Option (List ℕ)) → token_formed_of (token_of o) ≡ true
token_well none = refl
token_well (some b) = refl

path_well : (o : Option ℕ) → path_formed_of (present o) (path_of o) ≡ true
path_well none = refl
path_well (some p) = refl

present_of : (o : Option (List ℕ)) → (token_of o).present ≡ present o
present_of none = refl
present_of (some b) = refl

item_of_lem : (x : Item) → item_formed_of x ≡ true → F.item_formed_of (item_of x) ≡ true
item_of_lem x e =
    let w = and_both (id_formed x.cid) _ e in
    both (both (both w.0 (token_well x.token)) (path_well x.path))
    (ap (λ (t : Bool). t || eqb x.seq 0) (present_of x.token) ∙ or_comm (present x.token) (eqb x.seq 0) ∙ w.1)

items_of : (l : List Item) → all item_formed_of l ≡ true → all F.item_formed_of (map item_of l) ≡ true
items_of [] e = refl
items_of (x ∷ l) e = let w = and_both (item_formed_of x) (all item_formed_of l) e in both (item_of_lem x w.0) (items_of l w.1)

rise_of : (x n : ℕ) (l : List Item) → rising_within (x + 1) n l ≡ true → D.after x (map T.seq_of (map item_of l) ++ (n ∷ [])) ≡ true
rise_of x n [] e = let h = leb-true (x + 1) n e in both (lt-ltb x n (omega arith)) refl
rise_of x n (y ∷ l) e =
    let w = and_both (leb (x + 1) y.seq) _ e in
    let h = leb-true (x + 1) y.seq w.0 in
    both (lt-ltb x y.seq (omega arith)) (rise_of y.seq n l w.1)

rises_of : (n : ℕ) (l : List Item) → rising_within 0 n l ≡ true → D.rising (map T.seq_of (map item_of l) ++ (n ∷ [])) ≡ true
rises_of n [] e = refl
rises_of n (x ∷ l) e = rise_of x.seq n l (and_both (leb 0 x.seq) _ e).1

clash_apart : (a b r : Bool) → not ((b || a) || r) ≡ true → ((not a && not b) ≡ true) × (not r ≡ true)
clash_apart false false r e = (refl, e)
clash_apart false true r e = let z : ◌≡◌ {A = ℕ} 0 1 = cc in absurd (omega arith)
clash_apart true false r e = let z : ◌≡◌ {A = ℕ} 0 1 = cc in absurd (omega arith)
clash_apart true true r e = let z : ◌≡◌ {A = ℕ} 0 1 = cc in absurd (omega arith)

aparts : (x : Item) (l : List Item) → not (any (clashes x) l) ≡ true → all (apart (item_of x)) (map item_of l) ≡ true
aparts x [] e = refl
aparts x (y ∷ l) e =
    let w = clash_apart (eqb x.seq y.seq) (same_id x.cid y.cid) (any (clashes x) l) e in
    both w.0 (aparts x l w.1)

distinct_of : (l : List Item) → distinct l ≡ true → pairwise apart (map item_of l) ≡ true
distinct_of [] e = refl
distinct_of (x ∷ l) e = let w = and_both (not (any (clashes x) l)) (distinct l) e in both (aparts x l w.0) (distinct_of l w.1)

-- past a list stands what pads it
module _ {A : Type 0} (p : A → Bool) (z : A) (pz : p z ≡ true) where
  all_pad : (n : ℕ) → all p (replicate n z) ≡ true
  all_pad zero = refl
  all_pad (suc n) = both pz (all_pad n)

  past_pad : (n : ℕ) (l : List A) → length l ≤ n → past p n (length l) (padded n z l) ≡ true
  past_pad n l h =
      both (eq-eqb (length (padded n z l)) n (length_padded n z l h))
      (ap (all p) (drop_at l (replicate (n - length l) z) (length l) refl) ∙ all_pad (n - length l))

each_of : (l : List Bool) → every l ≡ true → Each l
each_of [] e = 0
each_of (b ∷ l) e = let w = and_both b (every l) e in (w.0, each_of l w.1)

conj_of : (a : Bool) (bs : List Bool) → a ≡ true → Each bs → conj a bs ≡ true
conj_of a [] e w = e
conj_of a (b ∷ bs) e w = conj_of (a && b) bs (both e w.0) w.1

module _ (v : View) (e : well v ≡ true) where
  groups : (every (limits v.dcid_limit v.scid_limit v.scid_capacity) ≡ true) × (every (source v.scid_capacity v.next_scid_seq v.retire_prior_to v.scids) ≡ true) × (every (destination v.dcid_limit v.dcids) ≡ true) × (every (queues v.scids_to_advertise v.dcids_to_retire) ≡ true)
  groups =
      let w = conj_each (every (limits v.dcid_limit v.scid_limit v.scid_capacity)) (every (source v.scid_capacity v.next_scid_seq v.retire_prior_to v.scids) ∷ every (destination v.dcid_limit v.dcids) ∷ every (queues v.scids_to_advertise v.dcids_to_retire) ∷ []) e in
      (w.0, w.1.0, w.1.1.0, w.1.1.1.0)

  li : Each (limits v.dcid_limit v.scid_limit v.scid_capacity)
  li = each_of (limits v.dcid_limit v.scid_limit v.scid_capacity) groups.0

  so : Each (source v.scid_capacity v.next_scid_seq v.retire_prior_to v.scids)
  so = each_of (source v.scid_capacity v.next_scid_seq v.retire_prior_to v.scids) groups.1

  de : Each (destination v.dcid_limit v.dcids)
  de = each_of (destination v.dcid_limit v.dcids) groups.2

  qu : Each (queues v.scids_to_advertise v.dcids_to_retire)
  qu = each_of (queues v.scids_to_advertise v.dcids_to_retire) groups.3

  sl : length (map item_of v.scids) ≡ length v.scids
  sl = length-map v.scids item_of

  dl : length (map item_of v.dcids) ≡ length v.dcids
  dl = length-map v.dcids item_of

  few_scids : length (map item_of v.scids) ≤ table_slots
  few_scids = omega (arith, sl, leb-true (length v.scids) v.scid_capacity so.1.0, leb-true v.scid_capacity table_slots li.1.1.1.1.1.1.0)

  few_dcids : length (map item_of v.dcids) < 2 * v.dcid_limit
  few_dcids = omega (arith, dl, leb-true (length v.dcids) (capacity_of v.dcid_limit) de.0, leb-true 1 v.dcid_limit li.0)

  bounds_well : bounded v.dcid_limit v.scid_limit v.scid_capacity (length (map item_of v.scids)) (length (map item_of v.dcids)) v.next_scid_seq v.retire_prior_to (length v.scids_to_advertise) (length v.dcids_to_retire) ≡ true
  bounds_well =
      conj_of (leb 1 v.dcid_limit)
      (leb v.dcid_limit max_dcid_limit ∷ leb min_scid_limit v.scid_limit ∷ leb v.scid_limit max_cids_count ∷ eqb (v.scid_capacity % 2) 1 ∷ leb (capacity_of v.scid_limit) v.scid_capacity ∷ leb v.scid_capacity table_slots
      ∷ leb 1 (length (map item_of v.scids)) ∷ leb (length (map item_of v.scids)) v.scid_capacity ∷ ltb (length (map item_of v.dcids)) (2 * v.dcid_limit)
      ∷ leb 1 v.next_scid_seq ∷ leb v.next_scid_seq max_sequence ∷ leb v.retire_prior_to v.next_scid_seq ∷ leb (length v.scids_to_advertise) queue_slots ∷ leb (length v.dcids_to_retire) queue_slots ∷ [])
      li.0 (
        li.1.0,
        (
          li.1.1.0,
          (
            li.1.1.1.0,
            (
              li.1.1.1.1.0,
              (
                li.1.1.1.1.1.0,
                (
                  li.1.1.1.1.1.1.0,
                  (
                    ap (leb 1) sl ∙ so.0,
                    (
                      ap (λ (n : ℕ). leb n v.scid_capacity) sl ∙ so.1.0,
                      (
                        lt-ltb _ _ few_dcids,
                        (so.1.1.0, (so.1.1.1.0, (so.1.1.1.1.0, (qu.0, (qu.1.0, 0))))),
                      ),
                    ),
                  ),
                ),
              ),
            ),
          ),
        ),
      )

  source_of : sources_formed (table_of (map item_of v.scids)) v.next_scid_seq ≡ true
  source_of =
      let l = map item_of v.scids in
      let t = take_padded table_slots zero_item l in
      both (both (ap (all F.item_formed_of) t ∙ items_of v.scids so.1.1.1.1.1.1.0)
      (ap (λ (r : List I.Item). D.rising (map T.seq_of r ++ (v.next_scid_seq ∷ []))) t ∙ rises_of v.next_scid_seq v.scids so.1.1.1.1.1.0))
      (past_pad is_zero zero_item refl table_slots l few_scids)

  destination_of : destinations_formed (table_of (map item_of v.dcids)) ≡ true
  destination_of =
      let l = map item_of v.dcids in
      let t = take_padded table_slots zero_item l in
      both (both (ap (all F.item_formed_of) t ∙ items_of v.dcids de.1.1.0) (ap (pairwise apart) t ∙ distinct_of v.dcids de.1.0))
      (past_pad is_zero zero_item refl table_slots l (omega (arith, few_dcids, leb-true v.dcid_limit max_dcid_limit li.1.0)))

  -- the state of a well-formed view
  pub state_well : well_formed (ids_of v) ≡ true
  state_well =
      both bounds_well
      (both (both (both source_of destination_of)
      (past_pad nought 0 refl queue_slots v.scids_to_advertise (leb-true (length v.scids_to_advertise) queue_slots qu.0)))
      (past_pad nought 0 refl queue_slots v.dcids_to_retire (leb-true (length v.dcids_to_retire) queue_slots qu.1.0)))
