-- A view with one field changed. Written by tools/records.
use Rattle.std.specs.Prelude.{ℕ, List, Bool}
use Rattle.ids_rules.specs.Values.{Item}
use Rattle.ids_rules.specs.View.{View}

--| with each field of View

abbrev pub with_scids : List Item → View → View
with_scids new v = record { scids = new; dcids = v.dcids; dcid_limit = v.dcid_limit; scid_limit = v.scid_limit; scid_capacity = v.scid_capacity; zero_length_scid = v.zero_length_scid; zero_length_dcid = v.zero_length_dcid; next_scid_seq = v.next_scid_seq; retire_prior_to = v.retire_prior_to; largest_peer_retire_prior_to = v.largest_peer_retire_prior_to; scids_to_advertise = v.scids_to_advertise; dcids_to_retire = v.dcids_to_retire }

abbrev pub with_dcids : List Item → View → View
with_dcids new v = record { scids = v.scids; dcids = new; dcid_limit = v.dcid_limit; scid_limit = v.scid_limit; scid_capacity = v.scid_capacity; zero_length_scid = v.zero_length_scid; zero_length_dcid = v.zero_length_dcid; next_scid_seq = v.next_scid_seq; retire_prior_to = v.retire_prior_to; largest_peer_retire_prior_to = v.largest_peer_retire_prior_to; scids_to_advertise = v.scids_to_advertise; dcids_to_retire = v.dcids_to_retire }

abbrev pub with_dcid_limit : ℕ → View → View
with_dcid_limit new v = record { scids = v.scids; dcids = v.dcids; dcid_limit = new; scid_limit = v.scid_limit; scid_capacity = v.scid_capacity; zero_length_scid = v.zero_length_scid; zero_length_dcid = v.zero_length_dcid; next_scid_seq = v.next_scid_seq; retire_prior_to = v.retire_prior_to; largest_peer_retire_prior_to = v.largest_peer_retire_prior_to; scids_to_advertise = v.scids_to_advertise; dcids_to_retire = v.dcids_to_retire }

abbrev pub with_scid_limit : ℕ → View → View
with_scid_limit new v = record { scids = v.scids; dcids = v.dcids; dcid_limit = v.dcid_limit; scid_limit = new; scid_capacity = v.scid_capacity; zero_length_scid = v.zero_length_scid; zero_length_dcid = v.zero_length_dcid; next_scid_seq = v.next_scid_seq; retire_prior_to = v.retire_prior_to; largest_peer_retire_prior_to = v.largest_peer_retire_prior_to; scids_to_advertise = v.scids_to_advertise; dcids_to_retire = v.dcids_to_retire }

abbrev pub with_scid_capacity : ℕ → View → View
with_scid_capacity new v = record { scids = v.scids; dcids = v.dcids; dcid_limit = v.dcid_limit; scid_limit = v.scid_limit; scid_capacity = new; zero_length_scid = v.zero_length_scid; zero_length_dcid = v.zero_length_dcid; next_scid_seq = v.next_scid_seq; retire_prior_to = v.retire_prior_to; largest_peer_retire_prior_to = v.largest_peer_retire_prior_to; scids_to_advertise = v.scids_to_advertise; dcids_to_retire = v.dcids_to_retire }

abbrev pub with_zero_length_scid : Bool → View → View
with_zero_length_scid new v = record { scids = v.scids; dcids = v.dcids; dcid_limit = v.dcid_limit; scid_limit = v.scid_limit; scid_capacity = v.scid_capacity; zero_length_scid = new; zero_length_dcid = v.zero_length_dcid; next_scid_seq = v.next_scid_seq; retire_prior_to = v.retire_prior_to; largest_peer_retire_prior_to = v.largest_peer_retire_prior_to; scids_to_advertise = v.scids_to_advertise; dcids_to_retire = v.dcids_to_retire }

abbrev pub with_zero_length_dcid : Bool → View → View
with_zero_length_dcid new v = record { scids = v.scids; dcids = v.dcids; dcid_limit = v.dcid_limit; scid_limit = v.scid_limit; scid_capacity = v.scid_capacity; zero_length_scid = v.zero_length_scid; zero_length_dcid = new; next_scid_seq = v.next_scid_seq; retire_prior_to = v.retire_prior_to; largest_peer_retire_prior_to = v.largest_peer_retire_prior_to; scids_to_advertise = v.scids_to_advertise; dcids_to_retire = v.dcids_to_retire }

abbrev pub with_next_scid_seq : ℕ → View → View
with_next_scid_seq new v = record { scids = v.scids; dcids = v.dcids; dcid_limit = v.dcid_limit; scid_limit = v.scid_limit; scid_capacity = v.scid_capacity; zero_length_scid = v.zero_length_scid; zero_length_dcid = v.zero_length_dcid; next_scid_seq = new; retire_prior_to = v.retire_prior_to; largest_peer_retire_prior_to = v.largest_peer_retire_prior_to; scids_to_advertise = v.scids_to_advertise; dcids_to_retire = v.dcids_to_retire }

abbrev pub with_retire_prior_to : ℕ → View → View
with_retire_prior_to new v = record { scids = v.scids; dcids = v.dcids; dcid_limit = v.dcid_limit; scid_limit = v.scid_limit; scid_capacity = v.scid_capacity; zero_length_scid = v.zero_length_scid; zero_length_dcid = v.zero_length_dcid; next_scid_seq = v.next_scid_seq; retire_prior_to = new; largest_peer_retire_prior_to = v.largest_peer_retire_prior_to; scids_to_advertise = v.scids_to_advertise; dcids_to_retire = v.dcids_to_retire }

abbrev pub with_largest_peer_retire_prior_to : ℕ → View → View
with_largest_peer_retire_prior_to new v = record { scids = v.scids; dcids = v.dcids; dcid_limit = v.dcid_limit; scid_limit = v.scid_limit; scid_capacity = v.scid_capacity; zero_length_scid = v.zero_length_scid; zero_length_dcid = v.zero_length_dcid; next_scid_seq = v.next_scid_seq; retire_prior_to = v.retire_prior_to; largest_peer_retire_prior_to = new; scids_to_advertise = v.scids_to_advertise; dcids_to_retire = v.dcids_to_retire }

abbrev pub with_scids_to_advertise : List ℕ → View → View
with_scids_to_advertise new v = record { scids = v.scids; dcids = v.dcids; dcid_limit = v.dcid_limit; scid_limit = v.scid_limit; scid_capacity = v.scid_capacity; zero_length_scid = v.zero_length_scid; zero_length_dcid = v.zero_length_dcid; next_scid_seq = v.next_scid_seq; retire_prior_to = v.retire_prior_to; largest_peer_retire_prior_to = v.largest_peer_retire_prior_to; scids_to_advertise = new; dcids_to_retire = v.dcids_to_retire }

abbrev pub with_dcids_to_retire : List ℕ → View → View
with_dcids_to_retire new v = record { scids = v.scids; dcids = v.dcids; dcid_limit = v.dcid_limit; scid_limit = v.scid_limit; scid_capacity = v.scid_capacity; zero_length_scid = v.zero_length_scid; zero_length_dcid = v.zero_length_dcid; next_scid_seq = v.next_scid_seq; retire_prior_to = v.retire_prior_to; largest_peer_retire_prior_to = v.largest_peer_retire_prior_to; scids_to_advertise = v.scids_to_advertise; dcids_to_retire = new }
