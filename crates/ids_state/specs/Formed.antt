-- docs/RULES.md, "Well-formed IDs": the sixteen conjuncts, by their numbers there. (Of conjunct 1, the destination capacity is no field of the state.)
use Rattle.std.specs.Prelude.{ℕ, ◌*◌, ◌%◌, List, [], ◌∷◌, ◌++◌, map, Bool, not, ◌&&◌, ◌||◌, eqb, leb, ltb}
use Rattle.lists.specs.Defs.{nought, all, past, pairwise, rising}
use Rattle.values.specs.Limits.{max_dcid_limit, max_cids_count, min_scid_limit, table_slots, queue_slots, max_sequence, capacity_of}
use Rattle.values.specs.Cid.{id_formed, same_id}
use Rattle.values.specs.Token.{token_formed_of}
use Rattle.tables.specs.Table.{is_zero, live, seq_of}
use Rattle.tables.specs.declared.sequences.Queue.{Queue}
use Rattle.tables.specs.declared.items.Item.{Item}
use Rattle.tables.specs.declared.items.Table.{Table}
use Rattle.ids_state.specs.declared.state.Ids.{Ids}

-- 13: a length of at most 20, and zeros past it; 14: an absent token is zeros, an absent path is 0; 9: a token, but for sequence 0
abbrev pub item_formed_of : Item → Bool
item_formed_of x = id_formed x.cid && token_formed_of x.token && (x.has_path || nought x.path) && (x.token.present || nought x.seq)

-- 7, 8: neither the sequences nor the IDs are equal
abbrev pub apart : Item → Item → Bool
apart x y = not (eqb x.seq y.seq) && not (same_id x.cid y.cid)

-- 15: past the count stand zero items
abbrev pub tail_zero : Table → Bool
tail_zero t = past is_zero table_slots t.count t.items

-- 5: the sequences strictly rise, the last below next
abbrev pub seqs_of : Table → ℕ → List ℕ
seqs_of t next = map seq_of (live t) ++ (next ∷ [])

abbrev pub rising_below : Table → ℕ → Bool
rising_below t next = rising (seqs_of t next)

abbrev pub sources_formed : Table → ℕ → Bool
sources_formed t next = all item_formed_of (live t) && rising_below t next && tail_zero t

abbrev pub destinations_formed : Table → Bool
destinations_formed t = all item_formed_of (live t) && pairwise apart (live t) && tail_zero t

-- 16: past the count stand zeros
abbrev pub queue_formed_of : Queue → Bool
queue_formed_of q = past nought queue_slots q.count q.items

-- 1, 2, 3, 4, 6, 10, 11, 12
abbrev pub bounded : (dcid_limit scid_limit capacity sources destinations next rpt advertised retired : ℕ) → Bool
bounded dcid_limit scid_limit capacity sources destinations next rpt advertised retired =
    leb 1 dcid_limit
    && leb dcid_limit max_dcid_limit
    && leb min_scid_limit scid_limit
    && leb scid_limit max_cids_count
    && eqb (capacity % 2) 1
    && leb (capacity_of scid_limit) capacity
    && leb capacity table_slots
    && leb 1 sources
    && leb sources capacity
    && ltb destinations (2 * dcid_limit)
    && leb 1 next
    && leb next max_sequence
    && leb rpt next
    && leb advertised queue_slots
    && leb retired queue_slots

abbrev pub well_formed : Ids → Bool
well_formed t =
    bounded t.dcid_limit t.scid_limit t.scid_capacity t.scids.count t.dcids.count t.next_scid_seq t.retire_prior_to t.scids_to_advertise.count t.dcids_to_retire.count
    && (sources_formed t.scids t.next_scid_seq && destinations_formed t.dcids && queue_formed_of t.scids_to_advertise && queue_formed_of t.dcids_to_retire)
