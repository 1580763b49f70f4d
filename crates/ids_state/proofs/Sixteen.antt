-- docs/RULES.md, "Well-formed IDs": `well_formed` is exactly its sixteen conjuncts.
use Rattle.std.specs.Prelude.{◌*◌, ◌%◌, ◌≡◌, refl, List, [], ◌∷◌, Bool, true, false, ◌&&◌, ◌||◌, eqb, leb, ltb}
use Rattle.std.proofs.Common.{sym, ap, ◌∙◌, arith, leb-true, ltb-true, le-leb, lt-ltb}
use Rattle.lists.specs.Defs.{nought, all, every, pairwise}
use Rattle.lists.specs.Bools.{and_both, conj_each}
use Rattle.lists.specs.Every.{every_each, agree, all_and, all_same, pairwise_and}
use Rattle.values.specs.Limits.{max_dcid_limit, max_cids_count, min_scid_limit, table_slots, queue_slots, max_sequence, capacity_of}
use Rattle.values.specs.Cid.{id_formed}
use Rattle.values.specs.Token.{token_formed_of}
use Rattle.tables.specs.Table.{live}
use Rattle.tables.specs.declared.items.Item.{Item}
use Rattle.ids_state.specs.Formed.{item_formed_of, apart, tail_zero, rising_below, sources_formed, destinations_formed, queue_formed_of, bounded, well_formed}
use Rattle.ids_state.specs.declared.state.Ids.{Ids}
use Rattle.ids_state.specs.Conjuncts.{tokened, identified, absent_zero, other_seq, other_cid, conjuncts}

order : (a b c d : Bool) → (((a && b) && c) && d) ≡ (d && (a && (b && c)))
order false b c false = refl
order false b c true = refl
order true false c false = refl
order true false c true = refl
order true true false false = refl
order true true false true = refl
order true true true false = refl
order true true true true = refl

items_order : (l : List Item) → all item_formed_of l ≡ (all tokened l && (all identified l && all absent_zero l))
items_order l =
    all_same item_formed_of (λ (x : Item). tokened x && (identified x && absent_zero x))
    (λ x. order (id_formed x.cid) (token_formed_of x.token) (x.has_path || nought x.path) (x.token.present || nought x.seq)) l
    ∙ all_and tokened (λ (x : Item). identified x && absent_zero x) l
    ∙ ap (λ (b : Bool). all tokened l && b) (all_and identified absent_zero l)

record Items (l : List Item) : Type 0 where
  tokens : all tokened l ≡ true
  ids : all identified l ≡ true
  absents : all absent_zero l ≡ true

items_of : (l : List Item) → all item_formed_of l ≡ true → Items l
items_of l e =
    let a = and_both (all tokened l) _ (sym (items_order l) ∙ e) in
    let b = and_both (all identified l) _ a.1 in
    record { tokens = a.0; ids = b.0; absents = b.1 }

items_from : (l : List Item) → Items l → all item_formed_of l ≡ true
items_from l w = items_order l ∙ rw (w.tokens, w.ids, w.absents)

apart_is : (l : List Item) → pairwise apart l ≡ (pairwise other_seq l && pairwise other_cid l)
apart_is l = pairwise_and other_seq other_cid l

module _ (t : Ids) where
  forward : well_formed t ≡ true → every (conjuncts t) ≡ true
  forward w =
      let p = and_both (bounded t.dcid_limit t.scid_limit t.scid_capacity t.scids.count t.dcids.count t.next_scid_seq t.retire_prior_to t.scids_to_advertise.count t.dcids_to_retire.count) _ w in
      let b =
      conj_each (leb 1 t.dcid_limit)
      (leb t.dcid_limit max_dcid_limit ∷ leb min_scid_limit t.scid_limit ∷ leb t.scid_limit max_cids_count ∷ eqb (t.scid_capacity % 2) 1 ∷ leb (capacity_of t.scid_limit) t.scid_capacity ∷ leb t.scid_capacity table_slots
      ∷ leb 1 t.scids.count ∷ leb t.scids.count t.scid_capacity ∷ ltb t.dcids.count (2 * t.dcid_limit) ∷ leb 1 t.next_scid_seq ∷ leb t.next_scid_seq max_sequence ∷ leb t.retire_prior_to t.next_scid_seq
      ∷ leb t.scids_to_advertise.count queue_slots ∷ leb t.dcids_to_retire.count queue_slots ∷ []) p.0 in
      let q = conj_each (sources_formed t.scids t.next_scid_seq) (destinations_formed t.dcids ∷ queue_formed_of t.scids_to_advertise ∷ queue_formed_of t.dcids_to_retire ∷ []) p.1 in
      let s = conj_each (all item_formed_of (live t.scids)) (rising_below t.scids t.next_scid_seq ∷ tail_zero t.scids ∷ []) q.0 in
      let d = conj_each (all item_formed_of (live t.dcids)) (pairwise apart (live t.dcids) ∷ tail_zero t.dcids ∷ []) q.1.0 in
      let i = items_of (live t.scids) s.0 in
      let j = items_of (live t.dcids) d.0 in
      let k = and_both (pairwise other_seq (live t.dcids)) _ (sym (apart_is (live t.dcids)) ∙ d.1.0) in
      let few = le-leb t.dcids.count (capacity_of t.dcid_limit) (omega (arith, ltb-true t.dcids.count (2 * t.dcid_limit) b.1.1.1.1.1.1.1.1.1.0)) in
      rw (
        b.0,
        b.1.0,
        b.1.1.0,
        b.1.1.1.0,
        b.1.1.1.1.0,
        b.1.1.1.1.1.0,
        b.1.1.1.1.1.1.0,
        b.1.1.1.1.1.1.1.0,
        b.1.1.1.1.1.1.1.1.0,
        s.1.0,
        few,
        k.0,
        k.1,
        i.tokens,
        j.tokens,
        b.1.1.1.1.1.1.1.1.1.1.0,
        b.1.1.1.1.1.1.1.1.1.1.1.0,
        b.1.1.1.1.1.1.1.1.1.1.1.1.0,
        b.1.1.1.1.1.1.1.1.1.1.1.1.1.0,
        b.1.1.1.1.1.1.1.1.1.1.1.1.1.1.0,
        i.ids,
        j.ids,
        i.absents,
        j.absents,
        s.1.1.0,
        d.1.1.0,
        q.1.1.0,
        q.1.1.1.0,
      )

  backward : every (conjuncts t) ≡ true → well_formed t ≡ true
  backward w =
      let e = every_each (conjuncts t) w in
      let c1 = and_both (leb 1 t.dcid_limit) _ e.0 in
      let c2 = and_both (leb min_scid_limit t.scid_limit) _ e.1.0 in
      let c3 = conj_each (eqb (t.scid_capacity % 2) 1) (leb (capacity_of t.scid_limit) t.scid_capacity ∷ leb t.scid_capacity table_slots ∷ []) e.1.1.0 in
      let c4 = and_both (leb 1 t.scids.count) _ e.1.1.1.0 in
      let c9 = and_both (all tokened (live t.scids)) _ e.1.1.1.1.1.1.1.1.0 in
      let c10 = and_both (leb 1 t.next_scid_seq) _ e.1.1.1.1.1.1.1.1.1.0 in
      let c12 = and_both (leb t.scids_to_advertise.count queue_slots) _ e.1.1.1.1.1.1.1.1.1.1.1.0 in
      let c13 = and_both (all identified (live t.scids)) _ e.1.1.1.1.1.1.1.1.1.1.1.1.0 in
      let c14 = and_both (all absent_zero (live t.scids)) _ e.1.1.1.1.1.1.1.1.1.1.1.1.1.0 in
      let c15 = and_both (tail_zero t.scids) _ e.1.1.1.1.1.1.1.1.1.1.1.1.1.1.0 in
      let c16 = and_both (queue_formed_of t.scids_to_advertise) _ e.1.1.1.1.1.1.1.1.1.1.1.1.1.1.1.0 in
      let few = lt-ltb t.dcids.count (2 * t.dcid_limit) (omega (arith, leb-true t.dcids.count (capacity_of t.dcid_limit) e.1.1.1.1.1.0, leb-true 1 t.dcid_limit c1.0)) in
      let i = items_from (live t.scids) (record { tokens = c9.0; ids = c13.0; absents = c14.0 }) in
      let j = items_from (live t.dcids) (record { tokens = c9.1; ids = c13.1; absents = c14.1 }) in
      let k : pairwise apart (live t.dcids) ≡ true = apart_is (live t.dcids) ∙ rw (e.1.1.1.1.1.1.0, e.1.1.1.1.1.1.1.0) in
      rw (c1.0, c1.1, c2.0, c2.1, c3.0, c3.1.0, c3.1.1.0, c4.0, c4.1, few, c10.0, c10.1, e.1.1.1.1.1.1.1.1.1.1.0, c12.0, c12.1, i, e.1.1.1.1.0, c15.0, j, k, c15.1, c16.0, c16.1)

  pub sixteen : well_formed t ≡ every (conjuncts t)
  sixteen = agree (well_formed t) (every (conjuncts t)) forward backward
