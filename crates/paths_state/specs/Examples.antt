-- A state that is well formed, and states that each break one conjunct and no other, by computation.
use Rattle.std.specs.Prelude.{ℕ, ◌-◌, ◌^◌, ◌≡◌, refl, List, [], ◌∷◌, Bool, true, false, length, replicate}
use Rattle.lists.specs.Defs.{padded}
use Rattle.lists.specs.Every.{failing}
use Rattle.values.specs.declared.address.Address.{Address}
use Rattle.values.specs.declared.address.FourTuple.{FourTuple}
use Rattle.challenges.specs.Challenges.{received_of, sent_of, zero_challenge}
use Rattle.challenges.specs.declared.received.Received.{Received}
use Rattle.challenges.specs.declared.sent.Challenge.{Challenge}
use Rattle.challenges.specs.declared.sent.Sent.{Sent}
use Rattle.paths_state.specs.declared.state.Path.{Path}
use Rattle.paths_state.specs.declared.state.Paths.{Paths}
use Rattle.paths_state.specs.Formed.{well_formed, zero_path, zero_paths}
use Rattle.paths_state.specs.Conjuncts.{conjuncts}

-- ---- parts

abbrev address : ℕ → ℕ → ℕ → ℕ → Address
address kind host tail flow = record { ip = host ∷ 0 ∷ 0 ∷ 1 ∷ tail ∷ replicate 11 0; flow = flow; scope = 0; port = 443; kind = kind }

-- the pair to a host by IPv4; by IPv6, where every byte counts
abbrev pair : ℕ → FourTuple
pair host = record { local = address 4 10 0 0; remote = address 4 host 0 0 }

abbrev pair6 : ℕ → FourTuple
pair6 host = record { local = address 6 10 9 9; remote = address 6 host 9 9 }

abbrev challenge : ℕ → ℕ → Challenge
challenge sent deadline = record { «data» = 7; size = 1200; sent = record { us = sent }; deadline = record { us = deadline } }

-- pair, source sequence, challenges received and sent, lost count, listed
abbrev path : FourTuple → Bool → ℕ → Received → Sent → ℕ → Bool → Path
path a has seq r s l on =
    record {
      pair = a;
      recv_chals = r;
      sent_chals = s;
      max_datagram_size = 1200;
      scid_seq = seq;
      dcid_seq = 0;
      lost_chal = l;
      max_challenge_size = 0;
      anti_ampl_limit = 0;
      state = 9;
      has_scid = has;
      has_dcid = true;
      active = true;
      need_send_challenge = false;
      verified_peer_address = false;
      peer_verified_local_address = false;
      need_send_ping = false;
      listed = on;
    }

abbrev plain : FourTuple → Path
plain a = path a true 3 (received_of []) (sent_of []) 0 true

abbrev state : ℕ → List Path → Paths
state limit l = record { items = padded 8 zero_path l; count = length l; max_paths = limit; anti_ampl_factor = 3; is_multipath = false; is_server = true }

-- a state of one path with these lists
abbrev with : Received → Sent → ℕ → Paths
with r s l = state 4 (path (pair 1) true 3 r s l true ∷ [])

abbrev top : ℕ
top = 2 ^ 63

-- it is not well formed, and this conjunct alone does not hold
abbrev Breaks : ℕ → Paths → Type 0
Breaks n t = (well_formed t ≡ false) × (failing 1 (conjuncts t) ≡ n ∷ [])

-- ---- well formed: every limit is reached, a pair is listed once and stands unlisted too, a rank is any number

abbrev full : Paths
full =
    state 4
    (plain (pair 1)
    ∷ path (pair6 2) false 0 (received_of (replicate 8 5)) (sent_of (replicate 16 (challenge 0 (top - 1)))) 32 true
    ∷ path (pair 1) true 0 (received_of (5 ∷ [])) (sent_of []) 33 false
    ∷ [])

good : well_formed full ≡ true
good = refl

-- the all-zero state is not

all_zero : well_formed zero_paths ≡ false
all_zero = refl

-- ---- each breaks one conjunct

c1 : Breaks 1 (state 9 (plain (pair 1) ∷ []))
c1 = (refl, refl)

c2 : Breaks 2 (state 4 [])
c2 = (refl, refl)

c2_limit : Breaks 2 (state 1 (plain (pair 1) ∷ plain (pair 2) ∷ []))
c2_limit = (refl, refl)

c3_kind : Breaks 3 (state 4 (plain (record { local = address 5 10 0 0; remote = address 4 1 0 0 }) ∷ []))
c3_kind = (refl, refl)

c3_ip : Breaks 3 (state 4 (plain (record { local = address 4 10 0 0; remote = address 4 1 9 0 }) ∷ []))
c3_ip = (refl, refl)

c3_flow : Breaks 3 (state 4 (plain (record { local = address 4 10 0 9; remote = address 4 1 0 0 }) ∷ []))
c3_flow = (refl, refl)

c4 : Breaks 4 (state 4 (path (pair 1) false 3 (received_of []) (sent_of []) 0 true ∷ []))
c4 = (refl, refl)

c5_received : Breaks 5 (with (record { items = replicate 8 5; count = 9 }) (sent_of []) 0)
c5_received = (refl, refl)

c5_sent : Breaks 5 (with (received_of []) (record { items = replicate 16 (challenge 0 1); count = 17 }) 0)
c5_sent = (refl, refl)

c6_most : Breaks 6 (with (received_of []) (sent_of []) 34)
c6_most = (refl, refl)

c6_stands : Breaks 6 (with (received_of []) (sent_of (challenge 0 1 ∷ [])) 33)
c6_stands = (refl, refl)

c7_sent : Breaks 7 (with (received_of []) (sent_of (challenge top 1 ∷ [])) 0)
c7_sent = (refl, refl)

c7_deadline : Breaks 7 (with (received_of []) (sent_of (challenge 0 1 ∷ challenge 0 top ∷ [])) 0)
c7_deadline = (refl, refl)

c8_received : Breaks 8 (with (record { items = padded 8 0 (5 ∷ 5 ∷ []); count = 1 }) (sent_of []) 0)
c8_received = (refl, refl)

c8_sent : Breaks 8 (with (received_of []) (record { items = padded 16 zero_challenge (challenge 0 1 ∷ challenge 0 1 ∷ []); count = 1 }) 0)
c8_sent = (refl, refl)

c9 : Breaks 9 (state 4 (plain (pair 1) ∷ plain (pair 2) ∷ plain (pair 1) ∷ []))
c9 = (refl, refl)

c10 : Breaks 10 (record { items = padded 8 zero_path (plain (pair 1) ∷ plain (pair 2) ∷ []); count = 1; max_paths = 4; anti_ampl_factor = 3; is_multipath = false; is_server = true })
c10 = (refl, refl)
