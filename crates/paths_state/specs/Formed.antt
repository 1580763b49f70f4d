-- docs/RULES.md, "Well-formed paths": when a state of the paths is well formed. The numbers are those of its conjuncts.
use Rattle.std.specs.Prelude.{ℕ, List, [], Bool, false, not, ◌&&◌, ◌||◌, eqb, leb, replicate, take}
use Rattle.lists.specs.Defs.{all, nought, pairwise, past}
use Rattle.values.specs.Limits.{ip_len, max_lost, max_path_chals_recv, max_path_chals_sent, max_paths_limit}
use Rattle.values.specs.Address.{pair_formed_of, same_pair, zero_pair}
use Rattle.values.specs.Time.{moment_formed_of}
use Rattle.values.specs.declared.address.Address.{Address}
use Rattle.challenges.specs.Challenges.{is_zero as no_challenge, received_of, sent_of, standing}
use Rattle.challenges.specs.declared.received.Received.{Received}
use Rattle.challenges.specs.declared.sent.Challenge.{Challenge}
use Rattle.challenges.specs.declared.sent.Sent.{Sent}
use Rattle.paths_state.specs.declared.state.Path.{Path}
use Rattle.paths_state.specs.declared.state.Paths.{Paths}

-- ---- what is zero in every field

abbrev pub zero_path : Path
zero_path =
    record {
      pair = zero_pair;
      recv_chals = received_of [];
      sent_chals = sent_of [];
      max_datagram_size = 0;
      scid_seq = 0;
      dcid_seq = 0;
      lost_chal = 0;
      max_challenge_size = 0;
      anti_ampl_limit = 0;
      state = 0;
      has_scid = false;
      has_dcid = false;
      active = false;
      need_send_challenge = false;
      verified_peer_address = false;
      peer_verified_local_address = false;
      need_send_ping = false;
      listed = false;
    }

abbrev pub zero_paths : Paths
zero_paths = record { items = replicate max_paths_limit zero_path; count = 0; max_paths = 0; anti_ampl_factor = 0; is_multipath = false; is_server = false }

abbrev pub no_address : Address → Bool
no_address a = past nought ip_len 0 a.ip && nought a.flow && nought a.scope && nought a.port && nought a.kind

abbrev pub no_numbers : Path → Bool
no_numbers x =
    nought x.max_datagram_size
    && nought x.scid_seq
    && nought x.dcid_seq
    && nought x.lost_chal
    && nought x.max_challenge_size
    && nought x.anti_ampl_limit
    && nought x.state

abbrev pub no_marks : Path → Bool
no_marks x =
    not x.has_scid
    && not x.has_dcid
    && not x.active
    && not x.need_send_challenge
    && not x.verified_peer_address
    && not x.peer_verified_local_address
    && not x.need_send_ping
    && not x.listed

abbrev pub no_path : Path → Bool
no_path x =
    no_address x.pair.local
    && no_address x.pair.remote
    && past nought max_path_chals_recv 0 x.recv_chals.items
    && nought x.recv_chals.count
    && past no_challenge max_path_chals_sent 0 x.sent_chals.items
    && nought x.sent_chals.count
    && no_numbers x
    && no_marks x

-- ---- one path

-- 5 and 8: at most 8 received, and zeros past them
abbrev pub received_formed_of : Received → Bool
received_formed_of q = leb q.count max_path_chals_recv && past nought max_path_chals_recv q.count q.items

-- 7: the moment when it was sent, and its deadline
abbrev pub timed : Challenge → Bool
timed c = moment_formed_of c.sent.us && moment_formed_of c.deadline.us

-- 5, 7 and 8: at most 16 sent, each with moments of their form, and zeros past them
abbrev pub sent_formed_of : Sent → Bool
sent_formed_of s = leb s.count max_path_chals_sent && (all timed (standing s) && past no_challenge max_path_chals_sent s.count s.items)

-- 6: at most 33, and at 33 none stands
abbrev pub lost_formed : ℕ → ℕ → Bool
lost_formed lost stand = leb lost max_lost && (not (eqb lost max_lost) || nought stand)

-- 4: an absent sequence is 0
abbrev pub seq_formed : Bool → ℕ → Bool
seq_formed has seq = has || nought seq

-- 3 to 8
abbrev pub path_formed_of : Path → Bool
path_formed_of x =
    pair_formed_of x.pair
    && seq_formed x.has_scid x.scid_seq
    && seq_formed x.has_dcid x.dcid_seq
    && received_formed_of x.recv_chals
    && sent_formed_of x.sent_chals
    && lost_formed x.lost_chal x.sent_chals.count

-- 9: not both are listed with the same pair
abbrev pub apart : Path → Path → Bool
apart x y = not (x.listed && y.listed && same_pair x.pair y.pair)

-- ---- the state

-- the paths
abbrev pub live : Paths → List Path
live t = take t.count t.items

-- 1 and 2
abbrev pub bounded : ℕ → ℕ → Bool
bounded limit count = leb 1 limit && leb limit max_paths_limit && leb 1 count && leb count limit

-- 3 to 9 of the first n places, and 10: past them stand zero paths
abbrev pub table_formed_to : ℕ → Paths → Bool
table_formed_to n t = all path_formed_of (take n t.items) && pairwise apart (take n t.items) && past no_path max_paths_limit n t.items

-- of the paths
abbrev pub table_formed : Paths → Bool
table_formed t = table_formed_to t.count t

abbrev pub well_formed : Paths → Bool
well_formed t = bounded t.max_paths t.count && table_formed t
