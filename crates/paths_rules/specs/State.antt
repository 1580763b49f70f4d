-- docs/RULES.md, "Well-formed paths": what a path holds.
use Rattle.std.specs.Prelude.{ℕ, List, Bool}
use Rattle.std.proofs.Math.Option.{Option}
use Rattle.values.specs.declared.address.FourTuple.{FourTuple}

-- a challenge sent: its data, the packet's size, when it was sent, and when it counts as lost
pub record Challenge : Type 0 where
  pub «data» : ℕ
  pub size : ℕ
  pub sent : ℕ
  pub deadline : ℕ

-- a path. `rank` is its state, `ask` says that a challenge is asked for, `datagram` is max_datagram_size, `peer_verified` says that the peer has
-- verified the local address
pub record Path : Type 0 where
  pub pair : FourTuple
  pub datagram : ℕ
  pub scid : Option ℕ
  pub dcid : Option ℕ
  pub active : Bool
  pub rank : ℕ
  pub received : List ℕ
  pub sent : List Challenge
  pub ask : Bool
  pub lost : ℕ
  pub largest : ℕ
  pub verified : Bool
  pub peer_verified : Bool
  pub credit : ℕ
  pub ping : Bool
  pub listed : Bool
