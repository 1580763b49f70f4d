-- The state of one path, read as the path of the rules, and the one state that such a path stands for: what is absent is zero.
use Rattle.std.specs.Prelude.{Option as Optional, Some, None, ℕ, map}
use Rattle.std.proofs.Math.Option.{Option, none, some}
use Rattle.lists.specs.Defs.{given, maybe, present}
use Rattle.challenges.specs.declared.sent.Challenge as C
use Rattle.challenges.specs.Challenges.{waiting, standing, received_of, sent_of}
use Rattle.paths_state.specs.declared.state.Path as S
use Rattle.paths_rules.specs.State.{Challenge, Path}

-- an option of the code, as the rules have it
abbrev pub option_view : {A : Type 0} → Optional A → Option A
option_view None = none
option_view (Some a) = some a

-- ---- a challenge sent

abbrev pub chal_view : C.Challenge → Challenge
chal_view c = record { «data» = c.«data»; size = c.size; sent = c.sent.us; deadline = c.deadline.us }

abbrev pub chal_of : Challenge → C.Challenge
chal_of c = record { «data» = c.«data»; size = c.size; sent = record { us = c.sent }; deadline = record { us = c.deadline } }

-- ---- a path

abbrev pub path_view : S.Path → Path
path_view x =
    record {
      pair = x.pair;
      datagram = x.max_datagram_size;
      scid = given x.has_scid x.scid_seq;
      dcid = given x.has_dcid x.dcid_seq;
      active = x.active;
      rank = x.state;
      received = waiting x.recv_chals;
      sent = map chal_view (standing x.sent_chals);
      ask = x.need_send_challenge;
      lost = x.lost_chal;
      largest = x.max_challenge_size;
      verified = x.verified_peer_address;
      peer_verified = x.peer_verified_local_address;
      credit = x.anti_ampl_limit;
      ping = x.need_send_ping;
      listed = x.listed;
    }

abbrev pub seq_of : Option ℕ → ℕ
seq_of o = maybe o 0 (λ n. n)

abbrev pub path_of : Path → S.Path
path_of x =
    record {
      pair = x.pair;
      recv_chals = received_of x.received;
      sent_chals = sent_of (map chal_of x.sent);
      max_datagram_size = x.datagram;
      scid_seq = seq_of x.scid;
      dcid_seq = seq_of x.dcid;
      lost_chal = x.lost;
      max_challenge_size = x.largest;
      anti_ampl_limit = x.credit;
      state = x.rank;
      has_scid = present x.scid;
      has_dcid = present x.dcid;
      active = x.active;
      need_send_challenge = x.ask;
      verified_peer_address = x.verified;
      peer_verified_local_address = x.peer_verified;
      need_send_ping = x.ping;
      listed = x.listed;
    }
