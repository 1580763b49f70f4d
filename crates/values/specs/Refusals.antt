-- docs/RULES.md, "Refusals": every refusal with its number and the transport error code of RFC 9000, 20.1 that it has on the wire.
use Rattle.std.specs.Prelude.{Result, Ok, Err, ⊤, Bool, true, false, ℕ, ◌≡◌, refl, List, [], ◌∷◌, eqb}
use Rattle.lists.specs.Defs.{first, maybe}
use Rattle.values.specs.declared.refusals.Refusal.{Refusal}
use Rattle.values.specs.declared.refusals.Refusal.TheVariants.{Malformed, InternalError, ConnectionIdLimitError, ProtocolViolation, Done, NoSlot, Spent, FarDeadline}

-- what comes of a test of forms
abbrev pub form_of : Bool → Result ⊤ Refusal
form_of true = Ok tt
form_of false = Err Malformed

abbrev pub number : Refusal → ℕ
number Malformed = 1
number InternalError = 2
number ConnectionIdLimitError = 3
number ProtocolViolation = 4
number Done = 5
number NoSlot = 6
number Spent = 7
number FarDeadline = 8

-- RFC 9000, 20.1
abbrev pub no_error : ℕ
no_error = 0x00

abbrev pub internal_error : ℕ
internal_error = 0x01

abbrev pub connection_id_limit_error : ℕ
connection_id_limit_error = 0x09

abbrev pub protocol_violation : ℕ
protocol_violation = 0x0a

abbrev pub code : Refusal → ℕ
code Malformed = internal_error
code InternalError = internal_error
code ConnectionIdLimitError = connection_id_limit_error
code ProtocolViolation = protocol_violation
code Done = no_error
code NoSlot = internal_error
code Spent = internal_error
code FarDeadline = internal_error

abbrev pub refusals : List Refusal
refusals = Malformed ∷ InternalError ∷ ConnectionIdLimitError ∷ ProtocolViolation ∷ Done ∷ NoSlot ∷ Spent ∷ FarDeadline ∷ []

-- the code of the refusal that has the number; INTERNAL_ERROR where none has
abbrev pub wire_code_of : ℕ → ℕ
wire_code_of n = maybe (first (λ (r : Refusal). eqb (number r) n) refusals) internal_error code

-- no refusal is left out of the list
pub complete : (r : Refusal) → wire_code_of (number r) ≡ code r
complete Malformed = refl
complete InternalError = refl
complete ConnectionIdLimitError = refl
complete ProtocolViolation = refl
complete Done = refl
complete NoSlot = refl
complete Spent = refl
complete FarDeadline = refl
