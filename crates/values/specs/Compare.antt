-- What `==`, `<` and `<=` give of the values. They are derived, so that no function has the promise: it is stated here of what the derives compute.
use Rattle.std.specs.Prelude.{◌≡◌, eqb, leb, ltb}
use Rattle.std.proofs.Common.{rules}
use Rattle.std.specs.Ordering.{nat_cmp, partial_le, partial_lt}
use Rattle.values.specs.contracts.address.AddressPartialEq.TheImpl as address_partial_eq
use Rattle.values.specs.contracts.address.FourTuplePartialEq.TheImpl as pair_partial_eq
use Rattle.values.specs.contracts.cid.ConnectionIdPartialEq.TheImpl as id_partial_eq
use Rattle.values.specs.contracts.time.MomentPartialEq.TheImpl as moment_partial_eq
use Rattle.values.specs.contracts.time.MomentPartialOrd.TheImpl as moment_partial_ord
use Rattle.values.specs.contracts.time.MomentOrd.TheImpl as moment_ord
use Rattle.values.specs.declared.address.Address.{Address}
use Rattle.values.specs.declared.address.FourTuple.{FourTuple}
use Rattle.values.specs.declared.cid.ConnectionId.{ConnectionId}
use Rattle.values.specs.declared.time.Moment.{Moment}
use Rattle.values.specs.Address.{same_address, same_pair}
use Rattle.values.specs.Cid.{same_id}

pub address_eq : (a b : Address) → (address_partial_eq.ghosts).eq a b ≡ same_address a b
address_eq a b = search rules

pub pair_eq : (a b : FourTuple) → (pair_partial_eq.ghosts).eq a b ≡ same_pair a b
pair_eq a b = search rules

pub cid_eq : (a b : ConnectionId) → (id_partial_eq.ghosts).eq a b ≡ same_id a b
cid_eq a b = search rules

pub moment_eq : (a b : Moment) → (moment_partial_eq.ghosts).eq a b ≡ eqb a.us b.us
moment_eq a b = search rules

-- ---- the order of moments, as `<` and `<=` read it, and as `cmp` answers it

pub moment_before : (a b : Moment) → partial_lt (moment_partial_ord.ghosts).partial_cmp a b ≡ ltb a.us b.us
moment_before a b = search rules

pub moment_not_after : (a b : Moment) → partial_le (moment_partial_ord.ghosts).partial_cmp a b ≡ leb a.us b.us
moment_not_after a b = search rules

pub moment_cmp : (a b : Moment) → (moment_ord.ghosts).cmp a b ≡ nat_cmp a.us b.us
moment_cmp a b = search rules
