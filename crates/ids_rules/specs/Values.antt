-- docs/RULES.md, "Values": an item of the two tables.
use Rattle.std.specs.Prelude.{ℕ, List, Bool, false, not, ◌&&◌, ◌||◌, eqb, leb}
use Rattle.std.proofs.Math.Option.{Option, some}
use Rattle.lists.specs.Defs.{same, present, maybe}
use Rattle.values.specs.declared.cid.ConnectionId.{ConnectionId}
use Rattle.values.specs.Cid.{id_formed, same_id}

-- a reset token is 16 bytes, or absent; the path, if any, is the one that uses the ID
pub record Item : Type 0 where
  pub cid : ConnectionId
  pub seq : ℕ
  pub token : Option (List ℕ)
  pub path : Option ℕ

abbrev pub on_path : ℕ → Item → Item
on_path p x = record { cid = x.cid; seq = x.seq; token = x.token; path = some p }

abbrev pub seq_of : Item → ℕ
seq_of x = x.seq

abbrev pub has_seq : ℕ → Item → Bool
has_seq s x = eqb s x.seq

abbrev pub has_cid : ConnectionId → Item → Bool
has_cid c x = same_id x.cid c

abbrev pub unused : Item → Bool
unused x = not (present x.path)

-- the sequence is not below b; is below b
abbrev pub from : ℕ → Item → Bool
from b x = leb b x.seq

abbrev pub below : ℕ → Item → Bool
below b x = not (from b x)

-- equal ID or equal sequence
abbrev pub clashes : Item → Item → Bool
clashes x y = same_id x.cid y.cid || eqb x.seq y.seq

-- both are present, with equal bytes: an absent token differs from the one that a frame brings
abbrev pub shared_token : Option (List ℕ) → Option (List ℕ) → Bool
shared_token a b = maybe a false (λ s. maybe b false (same s))

-- ID, sequence and token are all equal
abbrev pub repeats : Item → Item → Bool
repeats x y = same_id x.cid y.cid && eqb x.seq y.seq && shared_token x.token y.token

-- every item but sequence 0 has a token; its ID has its form
abbrev pub item_formed_of : Item → Bool
item_formed_of x = id_formed x.cid && (eqb x.seq 0 || present x.token)
