-- Reading and building a path are inverse.
use Rattle.std.specs.Prelude.{ℕ, ◌≡◌, refl, List, [], ◌∷◌, map, Bool, true, false}
use Rattle.std.proofs.Common.{sym, ap, ◌∙◌, eqb-true}
use Rattle.std.proofs.Math.Option.{Option, none, some}
use Rattle.lists.specs.Defs.{given, present}
use Rattle.lists.specs.Held.{take_padded}
use Rattle.values.specs.Limits.{max_path_chals_recv, max_path_chals_sent}
use Rattle.challenges.specs.declared.sent.Challenge as C
use Rattle.challenges.specs.Challenges.{zero_challenge, standing, sent_of}
use Rattle.challenges.specs.Laws.{received_is, sent_is}
use Rattle.paths_state.specs.Formed.{seq_formed, path_formed_of}
use Rattle.paths_state.specs.Laws.{path_facts}
use Rattle.paths_state.specs.declared.state.Path as S
use Rattle.paths_rules.specs.State.{Challenge, Path}
use Rattle.path.specs.Reading.{chal_view, chal_of, path_view, path_of, seq_of}

pub chals_is : (l : List C.Challenge) → map chal_of (map chal_view l) ≡ l
chals_is [] = refl
chals_is (c ∷ l) = ap (λ (r : List C.Challenge). c ∷ r) (chals_is l)

pub chals_of : (l : List Challenge) → map chal_view (map chal_of l) ≡ l
chals_of [] = refl
chals_of (c ∷ l) = ap (λ (r : List Challenge). c ∷ r) (chals_of l)

pub given_of : (o : Option ℕ) → given (present o) (seq_of o) ≡ o
given_of none = refl
given_of (some n) = refl

pub present_is : (has : Bool) (n : ℕ) → present (given has n) ≡ has
present_is true n = refl
present_is false n = refl

pub seq_is : (has : Bool) (n : ℕ) → seq_formed has n ≡ true → seq_of (given has n) ≡ n
seq_is true n e = refl
seq_is false n e = sym (eqb-true n 0 e)

-- every path of the rules is read from its state
pub path_of_lem : (x : Path) → path_view (path_of x) ≡ x
path_of_lem x = λ i. record {
  pair = x.pair;
  datagram = x.datagram;
  scid = given_of x.scid i;
  dcid = given_of x.dcid i;
  active = x.active;
  rank = x.rank;
  received = take_padded max_path_chals_recv 0 x.received i;
  sent = (ap (map chal_view) (take_padded max_path_chals_sent zero_challenge (map chal_of x.sent)) ∙ chals_of x.sent) i;
  ask = x.ask;
  lost = x.lost;
  largest = x.largest;
  verified = x.verified;
  peer_verified = x.peer_verified;
  credit = x.credit;
  ping = x.ping;
  listed = x.listed;
}

-- a formed state is the one that its path stands for
pub path_is : (x : S.Path) → path_formed_of x ≡ true → path_of (path_view x) ≡ x
path_is x e = let f = path_facts x e in λ i. record {
  pair = x.pair;
  recv_chals = received_is x.recv_chals f.received i;
  sent_chals = (ap sent_of (chals_is (standing x.sent_chals)) ∙ sent_is x.sent_chals f.sent) i;
  max_datagram_size = x.max_datagram_size;
  scid_seq = seq_is x.has_scid x.scid_seq f.scid i;
  dcid_seq = seq_is x.has_dcid x.dcid_seq f.dcid i;
  lost_chal = x.lost_chal;
  max_challenge_size = x.max_challenge_size;
  anti_ampl_limit = x.anti_ampl_limit;
  state = x.state;
  has_scid = present_is x.has_scid x.scid_seq i;
  has_dcid = present_is x.has_dcid x.dcid_seq i;
  active = x.active;
  need_send_challenge = x.need_send_challenge;
  verified_peer_address = x.verified_peer_address;
  peer_verified_local_address = x.peer_verified_local_address;
  need_send_ping = x.need_send_ping;
  listed = x.listed;
}
