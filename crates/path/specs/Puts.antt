-- The state of a path with some fields changed, as the code changes them. Each `put_x .. (path_of v)` computes to `path_of (with_x .. v)`. Written by tools/records.
use Rattle.std.specs.Prelude.{ℕ, Bool, true, false}
use Rattle.challenges.specs.declared.received.Received.{Received}
use Rattle.challenges.specs.declared.sent.Sent.{Sent}
use Rattle.paths_state.specs.declared.state.Path.{Path}

--| put_listed (v : Bool) (x : Path) { listed = v }
abbrev pub put_listed : Bool → Path → Path
put_listed v x = record { pair = x.pair; recv_chals = x.recv_chals; sent_chals = x.sent_chals; max_datagram_size = x.max_datagram_size; scid_seq = x.scid_seq; dcid_seq = x.dcid_seq; lost_chal = x.lost_chal; max_challenge_size = x.max_challenge_size; anti_ampl_limit = x.anti_ampl_limit; state = x.state; has_scid = x.has_scid; has_dcid = x.has_dcid; active = x.active; need_send_challenge = x.need_send_challenge; verified_peer_address = x.verified_peer_address; peer_verified_local_address = x.peer_verified_local_address; need_send_ping = x.need_send_ping; listed = v }

--| put_received (q : Received) (x : Path) { recv_chals = q }
abbrev pub put_received : Received → Path → Path
put_received q x = record { pair = x.pair; recv_chals = q; sent_chals = x.sent_chals; max_datagram_size = x.max_datagram_size; scid_seq = x.scid_seq; dcid_seq = x.dcid_seq; lost_chal = x.lost_chal; max_challenge_size = x.max_challenge_size; anti_ampl_limit = x.anti_ampl_limit; state = x.state; has_scid = x.has_scid; has_dcid = x.has_dcid; active = x.active; need_send_challenge = x.need_send_challenge; verified_peer_address = x.verified_peer_address; peer_verified_local_address = x.peer_verified_local_address; need_send_ping = x.need_send_ping; listed = x.listed }

-- a challenge is received
--| put_heard (q : Received) (x : Path) { recv_chals = q; peer_verified_local_address = true }
abbrev pub put_heard : Received → Path → Path
put_heard q x = record { pair = x.pair; recv_chals = q; sent_chals = x.sent_chals; max_datagram_size = x.max_datagram_size; scid_seq = x.scid_seq; dcid_seq = x.dcid_seq; lost_chal = x.lost_chal; max_challenge_size = x.max_challenge_size; anti_ampl_limit = x.anti_ampl_limit; state = x.state; has_scid = x.has_scid; has_dcid = x.has_dcid; active = x.active; need_send_challenge = x.need_send_challenge; verified_peer_address = x.verified_peer_address; peer_verified_local_address = true; need_send_ping = x.need_send_ping; listed = x.listed }

-- a challenge is sent
--| put_sent (s : Sent) (r : ℕ) (x : Path) { sent_chals = s; state = r; need_send_challenge = false }
abbrev pub put_sent : Sent → ℕ → Path → Path
put_sent s r x = record { pair = x.pair; recv_chals = x.recv_chals; sent_chals = s; max_datagram_size = x.max_datagram_size; scid_seq = x.scid_seq; dcid_seq = x.dcid_seq; lost_chal = x.lost_chal; max_challenge_size = x.max_challenge_size; anti_ampl_limit = x.anti_ampl_limit; state = r; has_scid = x.has_scid; has_dcid = x.has_dcid; active = x.active; need_send_challenge = false; verified_peer_address = x.verified_peer_address; peer_verified_local_address = x.peer_verified_local_address; need_send_ping = x.need_send_ping; listed = x.listed }

-- a response came, and the size is not reached
--| put_probed (s : Sent) (l r : ℕ) (x : Path) { sent_chals = s; lost_chal = 0; max_challenge_size = l; state = r; need_send_challenge = true; verified_peer_address = true }
abbrev pub put_probed : Sent → ℕ → ℕ → Path → Path
put_probed s l r x = record { pair = x.pair; recv_chals = x.recv_chals; sent_chals = s; max_datagram_size = x.max_datagram_size; scid_seq = x.scid_seq; dcid_seq = x.dcid_seq; lost_chal = 0; max_challenge_size = l; anti_ampl_limit = x.anti_ampl_limit; state = r; has_scid = x.has_scid; has_dcid = x.has_dcid; active = x.active; need_send_challenge = true; verified_peer_address = true; peer_verified_local_address = x.peer_verified_local_address; need_send_ping = x.need_send_ping; listed = x.listed }

-- a response came, and the size is reached
--| put_reached (s : Sent) (l : ℕ) (b : Bool) (r : ℕ) (x : Path) { sent_chals = s; lost_chal = 0; max_challenge_size = l; state = r; active = b; verified_peer_address = true }
abbrev pub put_reached : Sent → ℕ → Bool → ℕ → Path → Path
put_reached s l b r x = record { pair = x.pair; recv_chals = x.recv_chals; sent_chals = s; max_datagram_size = x.max_datagram_size; scid_seq = x.scid_seq; dcid_seq = x.dcid_seq; lost_chal = 0; max_challenge_size = l; anti_ampl_limit = x.anti_ampl_limit; state = r; has_scid = x.has_scid; has_dcid = x.has_dcid; active = b; need_send_challenge = x.need_send_challenge; verified_peer_address = true; peer_verified_local_address = x.peer_verified_local_address; need_send_ping = x.need_send_ping; listed = x.listed }
