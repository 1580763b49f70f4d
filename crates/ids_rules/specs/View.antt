-- The view of a connection's IDs, and what a call answers.
use Rattle.std.specs.Prelude.{ℕ, List, Bool}
use Rattle.std.proofs.Math.Option.{Option}
use Rattle.values.specs.declared.cid.ConnectionId.{ConnectionId}
use Rattle.values.specs.declared.used.UsedSeq.{UsedSeq}
use Rattle.ids_rules.specs.Values.{Item}

pub record View : Type 0 where
  -- the source IDs, which we issued, and the destination IDs, which the peer issued
  pub scids : List Item
  pub dcids : List Item
  -- how many destination IDs the peer may keep issued, and how many source IDs the peer allows us
  pub dcid_limit : ℕ
  pub scid_limit : ℕ
  -- how many source items the table holds
  pub scid_capacity : ℕ
  -- the zero-length marks
  pub zero_length_scid : Bool
  pub zero_length_dcid : Bool
  -- the next source sequence
  pub next_scid_seq : ℕ
  -- our own Retire Prior To, and the largest of the peer
  pub retire_prior_to : ℕ
  pub largest_peer_retire_prior_to : ℕ
  -- the source sequences to advertise, and the destination sequences to retire
  pub scids_to_advertise : List ℕ
  pub dcids_to_retire : List ℕ

-- ---- what a call answers beside the refusal's number

-- every refusal, and a call that answers nothing else, has Nothing; Retired has the sequences that left the table, each with the path that used it
pub data Answer : Type 0 where
  Nothing : Answer
  Issued : (seq : ℕ) → Answer
  Freed : (path : Option ℕ) → Answer
  Retired : List UsedSeq → Answer
  Whole : Item → Answer
  Maybe : Option Item → Answer
  Found : (seq : ℕ) (path : Option ℕ) → Answer
  Number : ℕ → Answer
  Perhaps : Option ℕ → Answer
  Flag : Bool → Answer
  Frame : (seq retire_prior_to : ℕ) → ConnectionId → List ℕ → Answer

-- what comes of a call: the refusal's number, 0 where it is accepted; the answer; the view that follows
pub record Out : Type 0 where
  pub refusal : ℕ
  pub answer : Answer
  pub view : View

abbrev pub refused : ℕ → View → Out
refused n v = record { refusal = n; answer = Nothing; view = v }

abbrev pub accepted : Answer → View → Out
accepted a v = record { refusal = 0; answer = a; view = v }
