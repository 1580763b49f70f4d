-- docs/RULES.md, "Well-formed IDs": its sixteen conjuncts, one definition for each. That `well_formed` is exactly these is the theorem of proofs/Sixteen.antt.
use Rattle.std.specs.Prelude.{◌%◌, List, [], ◌∷◌, Bool, not, ◌&&◌, ◌||◌, eqb, leb}
use Rattle.lists.specs.Defs.{nought, all, pairwise}
use Rattle.values.specs.Limits.{max_dcid_limit, max_cids_count, min_scid_limit, table_slots, queue_slots, max_sequence, capacity_of}
use Rattle.values.specs.Cid.{id_formed, same_id}
use Rattle.values.specs.Token.{token_formed_of}
use Rattle.tables.specs.Table.{live}
use Rattle.tables.specs.declared.items.Item.{Item}
use Rattle.ids_state.specs.Formed.{tail_zero, rising_below, queue_formed_of}
use Rattle.ids_state.specs.declared.state.Ids.{Ids}

-- ---- of one item, and of two

-- 9: a token, but for sequence 0
abbrev pub tokened : Item → Bool
tokened x = x.token.present || nought x.seq

-- 13: the ID has its form
abbrev pub identified : Item → Bool
identified x = id_formed x.cid

-- 14: what is absent is zero
abbrev pub absent_zero : Item → Bool
absent_zero x = token_formed_of x.token && (x.has_path || nought x.path)

-- 7: other sequences; 8: other IDs
abbrev pub other_seq : Item → Item → Bool
other_seq x y = not (eqb x.seq y.seq)

abbrev pub other_cid : Item → Item → Bool
other_cid x y = not (same_id x.cid y.cid)

-- ---- the sixteen, in order

abbrev pub conjuncts : Ids → List Bool
conjuncts t =
    (leb 1 t.dcid_limit && leb t.dcid_limit max_dcid_limit)
    ∷ (leb min_scid_limit t.scid_limit && leb t.scid_limit max_cids_count)
    ∷ (eqb (t.scid_capacity % 2) 1 && leb (capacity_of t.scid_limit) t.scid_capacity && leb t.scid_capacity table_slots)
    ∷ (leb 1 t.scids.count && leb t.scids.count t.scid_capacity)
    ∷ rising_below t.scids t.next_scid_seq
    ∷ leb t.dcids.count (capacity_of t.dcid_limit)
    ∷ pairwise other_seq (live t.dcids)
    ∷ pairwise other_cid (live t.dcids)
    ∷ (all tokened (live t.scids) && all tokened (live t.dcids))
    ∷ (leb 1 t.next_scid_seq && leb t.next_scid_seq max_sequence)
    ∷ leb t.retire_prior_to t.next_scid_seq
    ∷ (leb t.scids_to_advertise.count queue_slots && leb t.dcids_to_retire.count queue_slots)
    ∷ (all identified (live t.scids) && all identified (live t.dcids))
    ∷ (all absent_zero (live t.scids) && all absent_zero (live t.dcids))
    ∷ (tail_zero t.scids && tail_zero t.dcids)
    ∷ (queue_formed_of t.scids_to_advertise && queue_formed_of t.dcids_to_retire)
    ∷ []
