-- A state with one group of fields changed, as the code changes it: ids_of (with_x l v) and put_x (x_of l) (ids_of v) compute to the same. Written by tools/records.
use Rattle.std.specs.Prelude.{ℕ, Bool}
use Rattle.tables.specs.declared.sequences.Queue.{Queue}
use Rattle.tables.specs.declared.items.Table.{Table}
use Rattle.ids_state.specs.declared.state.Ids.{Ids}

--| put_source (t : Table) (s : Ids) { scids = t }
abbrev pub put_source : Table → Ids → Ids
put_source t s = record { scids = t; dcids = s.dcids; scid_capacity = s.scid_capacity; dcid_limit = s.dcid_limit; scid_limit = s.scid_limit; zero_length_scid = s.zero_length_scid; zero_length_dcid = s.zero_length_dcid; next_scid_seq = s.next_scid_seq; retire_prior_to = s.retire_prior_to; largest_peer_retire_prior_to = s.largest_peer_retire_prior_to; scids_to_advertise = s.scids_to_advertise; dcids_to_retire = s.dcids_to_retire }

--| put_destination (t : Table) (s : Ids) { dcids = t }
abbrev pub put_destination : Table → Ids → Ids
put_destination t s = record { scids = s.scids; dcids = t; scid_capacity = s.scid_capacity; dcid_limit = s.dcid_limit; scid_limit = s.scid_limit; zero_length_scid = s.zero_length_scid; zero_length_dcid = s.zero_length_dcid; next_scid_seq = s.next_scid_seq; retire_prior_to = s.retire_prior_to; largest_peer_retire_prior_to = s.largest_peer_retire_prior_to; scids_to_advertise = s.scids_to_advertise; dcids_to_retire = s.dcids_to_retire }

--| put_advertise (q : Queue) (s : Ids) { scids_to_advertise = q }
abbrev pub put_advertise : Queue → Ids → Ids
put_advertise q s = record { scids = s.scids; dcids = s.dcids; scid_capacity = s.scid_capacity; dcid_limit = s.dcid_limit; scid_limit = s.scid_limit; zero_length_scid = s.zero_length_scid; zero_length_dcid = s.zero_length_dcid; next_scid_seq = s.next_scid_seq; retire_prior_to = s.retire_prior_to; largest_peer_retire_prior_to = s.largest_peer_retire_prior_to; scids_to_advertise = q; dcids_to_retire = s.dcids_to_retire }

--| put_retire (q : Queue) (s : Ids) { dcids_to_retire = q }
abbrev pub put_retire : Queue → Ids → Ids
put_retire q s = record { scids = s.scids; dcids = s.dcids; scid_capacity = s.scid_capacity; dcid_limit = s.dcid_limit; scid_limit = s.scid_limit; zero_length_scid = s.zero_length_scid; zero_length_dcid = s.zero_length_dcid; next_scid_seq = s.next_scid_seq; retire_prior_to = s.retire_prior_to; largest_peer_retire_prior_to = s.largest_peer_retire_prior_to; scids_to_advertise = s.scids_to_advertise; dcids_to_retire = q }

--| put_rpt (n : ℕ) (s : Ids) { retire_prior_to = n }
abbrev pub put_rpt : ℕ → Ids → Ids
put_rpt n s = record { scids = s.scids; dcids = s.dcids; scid_capacity = s.scid_capacity; dcid_limit = s.dcid_limit; scid_limit = s.scid_limit; zero_length_scid = s.zero_length_scid; zero_length_dcid = s.zero_length_dcid; next_scid_seq = s.next_scid_seq; retire_prior_to = n; largest_peer_retire_prior_to = s.largest_peer_retire_prior_to; scids_to_advertise = s.scids_to_advertise; dcids_to_retire = s.dcids_to_retire }

--| put_initial (t : Table) (z : Bool) (s : Ids) { dcids = t; zero_length_dcid = z }
abbrev pub put_initial : Table → Bool → Ids → Ids
put_initial t z s = record { scids = s.scids; dcids = t; scid_capacity = s.scid_capacity; dcid_limit = s.dcid_limit; scid_limit = s.scid_limit; zero_length_scid = s.zero_length_scid; zero_length_dcid = z; next_scid_seq = s.next_scid_seq; retire_prior_to = s.retire_prior_to; largest_peer_retire_prior_to = s.largest_peer_retire_prior_to; scids_to_advertise = s.scids_to_advertise; dcids_to_retire = s.dcids_to_retire }

--| put_limit (l c : ℕ) (s : Ids) { scid_limit = l; scid_capacity = c }
abbrev pub put_limit : ℕ → ℕ → Ids → Ids
put_limit l c s = record { scids = s.scids; dcids = s.dcids; scid_capacity = c; dcid_limit = s.dcid_limit; scid_limit = l; zero_length_scid = s.zero_length_scid; zero_length_dcid = s.zero_length_dcid; next_scid_seq = s.next_scid_seq; retire_prior_to = s.retire_prior_to; largest_peer_retire_prior_to = s.largest_peer_retire_prior_to; scids_to_advertise = s.scids_to_advertise; dcids_to_retire = s.dcids_to_retire }

--| put_lowered (t : Table) (q : Queue) (b : ℕ) (s : Ids) { dcids = t; dcids_to_retire = q; largest_peer_retire_prior_to = b }
abbrev pub put_lowered : Table → Queue → ℕ → Ids → Ids
put_lowered t q b s = record { scids = s.scids; dcids = t; scid_capacity = s.scid_capacity; dcid_limit = s.dcid_limit; scid_limit = s.scid_limit; zero_length_scid = s.zero_length_scid; zero_length_dcid = s.zero_length_dcid; next_scid_seq = s.next_scid_seq; retire_prior_to = s.retire_prior_to; largest_peer_retire_prior_to = b; scids_to_advertise = s.scids_to_advertise; dcids_to_retire = q }

--| put_issued (t : Table) (q : Queue) (n r : ℕ) (s : Ids) { scids = t; scids_to_advertise = q; next_scid_seq = n; retire_prior_to = r }
abbrev pub put_issued : Table → Queue → ℕ → ℕ → Ids → Ids
put_issued t q n r s = record { scids = t; dcids = s.dcids; scid_capacity = s.scid_capacity; dcid_limit = s.dcid_limit; scid_limit = s.scid_limit; zero_length_scid = s.zero_length_scid; zero_length_dcid = s.zero_length_dcid; next_scid_seq = n; retire_prior_to = r; largest_peer_retire_prior_to = s.largest_peer_retire_prior_to; scids_to_advertise = q; dcids_to_retire = s.dcids_to_retire }

--| put_source_rpt (t : Table) (r : ℕ) (s : Ids) { scids = t; retire_prior_to = r }
abbrev pub put_source_rpt : Table → ℕ → Ids → Ids
put_source_rpt t r s = record { scids = t; dcids = s.dcids; scid_capacity = s.scid_capacity; dcid_limit = s.dcid_limit; scid_limit = s.scid_limit; zero_length_scid = s.zero_length_scid; zero_length_dcid = s.zero_length_dcid; next_scid_seq = s.next_scid_seq; retire_prior_to = r; largest_peer_retire_prior_to = s.largest_peer_retire_prior_to; scids_to_advertise = s.scids_to_advertise; dcids_to_retire = s.dcids_to_retire }
