-- Laws of the test: what loops over the tables cite, and the facts that a well-formed state has.
use Rattle.std.specs.Prelude.{ℕ, zero, suc, ◌+◌, ◌-◌, ◌*◌, ◌%◌, ◌≤◌, ◌<◌, ◌≡◌, List, [], ◌∷◌, map, Bool, true, false, not, ◌&&◌, ◌||◌, eqb, leb, ltb, length, take, drop, get_or, replicate}
use Rattle.std.proofs.Common.{sym, ap, ◌∙◌, arith, length-append, drop-cons, get_or-take, length-take-le, drop_at, eqb-true, leb-true, ltb-true}
use Rattle.std.proofs.Math.Bool.{and-true}
use Rattle.std.specs.Int.Bits.{bit_or}
use Rattle.std.proofs.lemmas.List.{length-map}
use Rattle.std.proofs.Math.ListN.{get_or-map, get_or-append}
use Rattle.std.proofs.lemmas.Bool.{not-true}
use Rattle.lists.specs.Defs.{nought, all, past, pairwise, after, rising, padded}
use Rattle.lists.specs.Bools.{and_both, conj_each}
use Rattle.lists.specs.Tests.{zero_or, all_more, all_done, past_all, past_is, nought_is, pair_start, pair_more, pair_done, pair_end, after_more}
use Rattle.lists.specs.Held.{get_or_in}
use Rattle.values.specs.Limits.{max_cid_len, token_len, max_dcid_limit, max_cids_count, min_scid_limit, table_slots, queue_slots, max_sequence, capacity_of}
use Rattle.tables.specs.Table.{is_zero, zero_item, live, seq_of}
use Rattle.tables.specs.Laws.{seven}
use Rattle.tables.specs.declared.items.Item.{Item}
use Rattle.tables.specs.declared.items.Table.{Table}
use Rattle.ids_state.specs.Formed.{item_formed_of, apart, tail_zero, seqs_of, rising_below, sources_formed, destinations_formed, queue_formed_of, bounded, well_formed}
use Rattle.ids_state.specs.declared.state.Ids.{Ids}

-- ---- what is zero

or : (x y : ℕ) {z : ℕ} → z ≡ bit_or x y → nought z ≡ (nought x && nought y)
or x y e = ap nought e ∙ zero_or x y

pub merged : (a b r : Item)
    → r.seq ≡ bit_or a.seq b.seq → r.path ≡ bit_or a.path b.path → r.cid.len ≡ bit_or a.cid.len b.cid.len
    → past nought max_cid_len 0 r.cid.bytes ≡ (past nought max_cid_len 0 a.cid.bytes && past nought max_cid_len 0 b.cid.bytes)
    → past nought token_len 0 r.token.bytes ≡ (past nought token_len 0 a.token.bytes && past nought token_len 0 b.token.bytes)
    → r.token.present ≡ false → r.has_path ≡ (a.has_path || a.token.present || b.has_path || b.token.present)
    → is_zero r ≡ (is_zero a && is_zero b)
merged a b r es ep el ei ek et eh =
    seven
    (nought a.seq) (nought a.path) (nought a.cid.len) (past nought max_cid_len 0 a.cid.bytes) (past nought token_len 0 a.token.bytes)
    (nought b.seq) (nought b.path) (nought b.cid.len) (past nought max_cid_len 0 b.cid.bytes) (past nought token_len 0 b.token.bytes)
    a.token.present a.has_path b.token.present b.has_path
    (or a.seq b.seq es) (or a.path b.path ep) (or a.cid.len b.cid.len el) ei ek et eh

-- a list of n zeros
pub zeros_is : (n : ℕ) (l : List ℕ) → past nought n 0 l ≡ true → l ≡ replicate n 0
zeros_is n l e = let q : n - 0 ≡ n = omega arith in past_is nought 0 nought_is n 0 l (omega arith) e ∙ ap (λ (m : ℕ). replicate m 0) q

pub zero_is : (x : Item) → is_zero x ≡ true → x ≡ zero_item
zero_is x e =
    let w =
    conj_each (nought x.seq)
    (nought x.path ∷ nought x.cid.len ∷ past nought max_cid_len 0 x.cid.bytes ∷ past nought token_len 0 x.token.bytes ∷ not x.token.present ∷ not x.has_path ∷ []) e in
    let seq = nought_is x.seq w.0 in
    let path = nought_is x.path w.1.0 in
    let len = nought_is x.cid.len w.1.1.0 in
    let id = zeros_is max_cid_len x.cid.bytes w.1.1.1.0 in
    let key = zeros_is token_len x.token.bytes w.1.1.1.1.0 in
    let present = not-true x.token.present w.1.1.1.1.1.0 in
    let has = not-true x.has_path w.1.1.1.1.1.1.0 in
    λ i. record {
      seq = seq i;
      path = path i;
      cid = record { bytes = id i; len = len i };
      token = record { bytes = key i; present = present i };
      has_path = has i;
    }

-- ---- a table, as the loops walk it

module _ (t : Table) (long : length t.items ≡ table_slots) (few : t.count ≤ table_slots) where
  walk_long : length (live t) ≡ t.count
  walk_long = length-take-le t.count t.items (omega arith)

  walk_at : (d : Item) (i : ℕ) → i < t.count → get_or (live t) i d ≡ get_or t.items i d
  walk_at d i h = get_or-take t.count t.items i d h

  pub formed_more : (d : Item) (i : ℕ) (ok z : Bool) → i < t.count → z ≡ item_formed_of (get_or t.items i d)
      → all item_formed_of (live t) ≡ (ok && all item_formed_of (drop i (live t))) → all item_formed_of (live t) ≡ ((ok && z) && all item_formed_of (drop (i + 1) (live t)))
  formed_more d i ok z h q e =
      e ∙ all_more item_formed_of d (live t) i ok (omega (arith, walk_long))
      ∙ ap (λ (b : Bool). (ok && b) && all item_formed_of (drop (i + 1) (live t))) (ap item_formed_of (walk_at d i h) ∙ sym q)

  -- the tail
  pub tail_more : (d : Item) (j : ℕ) (acc r : Item) → j < table_slots → is_zero r ≡ (is_zero acc && is_zero (get_or t.items j d))
      → all is_zero (drop t.count t.items) ≡ (is_zero acc && all is_zero (drop j t.items))
      → all is_zero (drop t.count t.items) ≡ (is_zero r && all is_zero (drop (j + 1) t.items))
  tail_more d j acc r h q e =
      e ∙ all_more is_zero d t.items j (is_zero acc) (omega arith) ∙ ap (λ (b : Bool). b && all is_zero (drop (j + 1) t.items)) (sym q)

  pub tail_done : (j : ℕ) (acc : Item) (z : Bool) → table_slots ≤ j → z ≡ is_zero acc
      → all is_zero (drop t.count t.items) ≡ (is_zero acc && all is_zero (drop j t.items)) → z ≡ tail_zero t
  tail_done j acc z h q e = q ∙ sym (past_all is_zero table_slots t.count t.items long ∙ e ∙ all_done is_zero t.items j (is_zero acc) (omega arith))

  -- the sequences rise
  module _ (next : ℕ) where
    map_long : length (map seq_of (live t)) ≡ t.count
    map_long = length-map (live t) seq_of ∙ walk_long

    seqs_long : length (seqs_of t next) ≡ t.count + 1
    seqs_long = length-append (map seq_of (live t)) (next ∷ []) ∙ ap (λ (n : ℕ). n + 1) map_long

    seqs_at : (d : Item) (i : ℕ) → i < t.count → get_or (seqs_of t next) i 0 ≡ (get_or t.items i d).seq
    seqs_at d i h =
        get_or-append (map seq_of (live t)) (next ∷ []) 0 i (omega (arith, map_long))
        ∙ get_or_in (map seq_of (live t)) i 0 d.seq (omega (arith, map_long))
        ∙ get_or-map seq_of (live t) i d
        ∙ ap seq_of (walk_at d i h)

    pub rise_start : (d : Item) → 1 ≤ t.count → rising_below t next ≡ (true && after (get_or t.items 0 d).seq (drop 1 (seqs_of t next)))
    rise_start d h = ap rising (drop-cons (seqs_of t next) 0 0 (omega (arith, seqs_long))) ∙ ap (λ (x : ℕ). after x (drop 1 (seqs_of t next))) (seqs_at d 0 h)

    pub rise_more : (d : Item) (i last : ℕ) (up : Bool) → i < t.count
        → rising_below t next ≡ (up && after last (drop i (seqs_of t next)))
        → rising_below t next ≡ ((up && ltb last (get_or t.items i d).seq) && after (get_or t.items i d).seq (drop (i + 1) (seqs_of t next)))
    rise_more d i last up h e =
        e ∙ after_more (seqs_of t next) i last up (omega (arith, seqs_long))
        ∙ ap (λ (x : ℕ). (up && ltb last x) && after x (drop (i + 1) (seqs_of t next))) (seqs_at d i h)

    pub rise_done : (i last : ℕ) (up : Bool) → i ≡ t.count → rising_below t next ≡ (up && after last (drop i (seqs_of t next))) → rising_below t next ≡ (up && ltb last next)
    rise_done i last up q e =
        e ∙ ap (λ (r : List ℕ). up && after last r) (drop_at (map seq_of (live t)) (next ∷ []) i (map_long ∙ sym q)) ∙ ap (λ (b : Bool). up && b) (and-true _)

  -- no two are alike
  pub apart_start : (d : Item) (i : ℕ) (far : Bool) → i < t.count → pairwise apart (live t) ≡ (far && pairwise apart (drop i (live t)))
      → pairwise apart (live t) ≡ (far && (all (apart (get_or t.items i d)) (drop (i + 1) (live t)) && pairwise apart (drop (i + 1) (live t))))
  apart_start d i far h e =
      e ∙ pair_start apart d (live t) i far (omega (arith, walk_long))
      ∙ ap (λ (x : Item). far && (all (apart x) (drop (i + 1) (live t)) && pairwise apart (drop (i + 1) (live t)))) (walk_at d i h)

  pub apart_more : (d x : Item) (k : ℕ) (far w rest : Bool) → k < t.count → w ≡ apart x (get_or t.items k d)
      → pairwise apart (live t) ≡ (far && (all (apart x) (drop k (live t)) && rest))
      → pairwise apart (live t) ≡ ((far && w) && (all (apart x) (drop (k + 1) (live t)) && rest))
  apart_more d x k far w rest h q e =
      e ∙ pair_more apart d x (live t) k far rest (omega (arith, walk_long))
      ∙ ap (λ (b : Bool). (far && b) && (all (apart x) (drop (k + 1) (live t)) && rest)) (ap (apart x) (walk_at d k h) ∙ sym q)

  pub apart_done : (x : Item) (k : ℕ) (far rest : Bool) → t.count ≤ k → pairwise apart (live t) ≡ (far && (all (apart x) (drop k (live t)) && rest)) → pairwise apart (live t) ≡ (far && rest)
  apart_done x k far rest h e = e ∙ pair_done apart x (live t) k far rest (omega (arith, walk_long))

  pub apart_end : (i : ℕ) (far : Bool) → t.count ≤ i → pairwise apart (live t) ≡ (far && pairwise apart (drop i (live t))) → pairwise apart (live t) ≡ far
  apart_end i far h e = e ∙ pair_end apart (live t) i far (omega (arith, walk_long))

  pub formed_done : (i : ℕ) (ok : Bool) → t.count ≤ i → all item_formed_of (live t) ≡ (ok && all item_formed_of (drop i (live t))) → all item_formed_of (live t) ≡ ok
  formed_done i ok h e = e ∙ all_done item_formed_of (live t) i ok (omega (arith, walk_long))

-- ---- the first item, and those after it

pub take_first : {A : Type 0} (d : A) (n : ℕ) (l : List A) → 1 ≤ n → 0 < length l → take n l ≡ get_or l 0 d ∷ take (n - 1) (drop 1 l)
take_first d n [] h k = absurd (omega arith)
take_first d zero (x ∷ xs) h k = absurd (omega arith)
take_first {A} d (suc n) (x ∷ xs) h k = let e : n ≡ suc n - 1 = omega arith in ap (λ (m : ℕ). x ∷ take m xs) e

-- ---- the facts of a well-formed state

pub record Bounds (dcid_limit scid_limit capacity sources destinations next rpt advertised retired : ℕ) : Type 0 where
  pub dcid_limit_least : 1 ≤ dcid_limit
  pub dcid_limit_most : dcid_limit ≤ max_dcid_limit
  pub scid_limit_least : min_scid_limit ≤ scid_limit
  pub scid_limit_most : scid_limit ≤ max_cids_count
  pub odd : capacity % 2 ≡ 1
  pub capacity_least : capacity_of scid_limit ≤ capacity
  pub capacity_most : capacity ≤ table_slots
  pub sources_some : 1 ≤ sources
  pub sources_few : sources ≤ capacity
  pub destinations_few : destinations < 2 * dcid_limit
  pub next_least : 1 ≤ next
  pub next_most : next ≤ max_sequence
  pub rpt_most : rpt ≤ next
  pub advertised_few : advertised ≤ queue_slots
  pub retired_few : retired ≤ queue_slots

pub bounds_of : (dcid_limit scid_limit capacity sources destinations next rpt advertised retired : ℕ)
    → bounded dcid_limit scid_limit capacity sources destinations next rpt advertised retired ≡ true → Bounds dcid_limit scid_limit capacity sources destinations next rpt advertised retired
bounds_of dcid_limit scid_limit capacity sources destinations next rpt advertised retired e =
    let w =
    conj_each (leb 1 dcid_limit)
    (leb dcid_limit max_dcid_limit
    ∷ leb min_scid_limit scid_limit
    ∷ leb scid_limit max_cids_count
    ∷ eqb (capacity % 2) 1
    ∷ leb (capacity_of scid_limit) capacity
    ∷ leb capacity table_slots
    ∷ leb 1 sources
    ∷ leb sources capacity
    ∷ ltb destinations (2 * dcid_limit)
    ∷ leb 1 next
    ∷ leb next max_sequence
    ∷ leb rpt next
    ∷ leb advertised queue_slots
    ∷ leb retired queue_slots
    ∷ []) e in
    let w1 = w.1 in
    let w2 = w1.1 in
    let w3 = w2.1 in
    let w4 = w3.1 in
    let w5 = w4.1 in
    let w6 = w5.1 in
    let w7 = w6.1 in
    let w8 = w7.1 in
    let w9 = w8.1 in
    let w10 = w9.1 in
    let w11 = w10.1 in
    let w12 = w11.1 in
    let w13 = w12.1 in
    let w14 = w13.1 in
    record {
      dcid_limit_least = leb-true 1 dcid_limit w.0;
      dcid_limit_most = leb-true dcid_limit max_dcid_limit w1.0;
      scid_limit_least = leb-true min_scid_limit scid_limit w2.0;
      scid_limit_most = leb-true scid_limit max_cids_count w3.0;
      odd = eqb-true (capacity % 2) 1 w4.0;
      capacity_least = leb-true (capacity_of scid_limit) capacity w5.0;
      capacity_most = leb-true capacity table_slots w6.0;
      sources_some = leb-true 1 sources w7.0;
      sources_few = leb-true sources capacity w8.0;
      destinations_few = ltb-true destinations (2 * dcid_limit) w9.0;
      next_least = leb-true 1 next w10.0;
      next_most = leb-true next max_sequence w11.0;
      rpt_most = leb-true rpt next w12.0;
      advertised_few = leb-true advertised queue_slots w13.0;
      retired_few = leb-true retired queue_slots w14.0;
    }

pub record Facts (t : Ids) : Type 0 where
  pub bounds : Bounds t.dcid_limit t.scid_limit t.scid_capacity t.scids.count t.dcids.count t.next_scid_seq t.retire_prior_to t.scids_to_advertise.count t.dcids_to_retire.count
  pub source_items : all item_formed_of (live t.scids) ≡ true
  pub rises : rising_below t.scids t.next_scid_seq ≡ true
  pub source_is : t.scids.items ≡ padded table_slots zero_item (live t.scids)
  pub destination_items : all item_formed_of (live t.dcids) ≡ true
  pub distinct : pairwise apart (live t.dcids) ≡ true
  pub destination_is : t.dcids.items ≡ padded table_slots zero_item (live t.dcids)
  pub advertise_is : t.scids_to_advertise.items ≡ padded queue_slots 0 (take t.scids_to_advertise.count t.scids_to_advertise.items)
  pub retire_is : t.dcids_to_retire.items ≡ padded queue_slots 0 (take t.dcids_to_retire.count t.dcids_to_retire.items)

pub facts : (t : Ids) → well_formed t ≡ true → Facts t
facts t e =
    let s = t.scids in
    let d = t.dcids in
    let a = t.scids_to_advertise in
    let q = t.dcids_to_retire in
    let w =
    and_both (bounded t.dcid_limit t.scid_limit t.scid_capacity s.count d.count t.next_scid_seq t.retire_prior_to a.count q.count)
    (sources_formed s t.next_scid_seq && destinations_formed d && queue_formed_of a && queue_formed_of q) e in
    let b = bounds_of t.dcid_limit t.scid_limit t.scid_capacity s.count d.count t.next_scid_seq t.retire_prior_to a.count q.count w.0 in
    let v = conj_each (sources_formed s t.next_scid_seq) (destinations_formed d ∷ queue_formed_of a ∷ queue_formed_of q ∷ []) w.1 in
    let x = conj_each (all item_formed_of (live s)) (rising_below s t.next_scid_seq ∷ tail_zero s ∷ []) v.0 in
    let y = conj_each (all item_formed_of (live d)) (pairwise apart (live d) ∷ tail_zero d ∷ []) v.1.0 in
    record {
      bounds = b;
      source_items = x.0;
      rises = x.1.0;
      source_is = past_is is_zero zero_item zero_is table_slots s.count s.items (omega (arith, b.sources_few, b.capacity_most)) x.1.1.0;
      destination_items = y.0;
      distinct = y.1.0;
      destination_is = past_is is_zero zero_item zero_is table_slots d.count d.items (omega (arith, b.destinations_few, b.dcid_limit_most)) y.1.1.0;
      advertise_is = past_is nought 0 nought_is queue_slots a.count a.items b.advertised_few v.1.1.0;
      retire_is = past_is nought 0 nought_is queue_slots q.count q.items b.retired_few v.1.1.1.0;
    }
