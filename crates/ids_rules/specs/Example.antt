-- A run with issues, a retire, a refused retire that takes the item out, and a malformed one that does not: the promises about source sequences are not vacuous.
use Rattle.std.specs.Prelude.{ℕ, ◌≡◌, refl, List, [], ◌∷◌, map, false, replicate}
use Rattle.std.proofs.Math.Option.{none, some}
use Rattle.values.specs.declared.cid.ConnectionId.{ConnectionId}
use Rattle.values.specs.Cid.{cid_new_of}
use Rattle.values.specs.Limits.{token_len}
use Rattle.ids_rules.specs.View.{View}
use Rattle.ids_rules.specs.Steps.{fresh}
use Rattle.ids_rules.specs.Calls.{Call, SetScidLimit, AddScid, RetireScid, run}
use Rattle.ids_rules.specs.Promise.{Starts, starts, Event, history, issues, remaining, sequences}

abbrev cid : ℕ → ConnectionId
cid n = cid_new_of (n ∷ [])

-- of length 21
abbrev long_cid : ConnectionId
long_cid = record { bytes = replicate 20 1; len = 21 }

abbrev start : View
start = fresh 2 (cid 0) 0 none

begins : Starts start
begins = starts 2 (cid 0) 0 none refl

abbrev add : ℕ → Call
add n = AddScid (cid n) (some (replicate token_len n)) false none false

abbrev calls : List Call
calls = SetScidLimit 4 ∷ add 1 ∷ add 2 ∷ add 3 ∷ add 4 ∷ RetireScid 0 (cid 9) ∷ RetireScid 2 (cid 2) ∷ RetireScid 1 long_cid ∷ add 5 ∷ RetireScid 2 (cid 9) ∷ []

-- the refusals: the fifth call meets the limit, the seventh is 4 and takes 2 out, the eighth is 1 and takes nothing out
answered : map (λ (e : Event). e.refusal) (history start calls) ≡ 0 ∷ 0 ∷ 0 ∷ 0 ∷ 3 ∷ 0 ∷ 4 ∷ 1 ∷ 0 ∷ 0 ∷ []
answered = refl

issued : issues (history start calls) ≡ 1 ∷ 2 ∷ 3 ∷ 4 ∷ []
issued = refl

left : (remaining (0 ∷ []) (history start calls) ≡ 1 ∷ 3 ∷ 4 ∷ []) × (sequences (run start calls) ≡ 1 ∷ 3 ∷ 4 ∷ [])
left = (refl, refl)
