-- A run of the code with every call that changes the IDs, some of them refused, by computation: the promises about source sequences are not vacuous, and
-- their numbers come out. Then the runs of ids_rules' BelowExample.antt, on the code: those about retired destination sequences.
use Rattle.std.specs.Prelude.{ℕ, ◌≡◌, refl, List, [], ◌∷◌, map, true, false, replicate}
use Rattle.values.specs.Cid.{cid_new_of}
use Rattle.values.specs.Limits.{token_len}
use Rattle.values.specs.Token.{zero_token}
use Rattle.values.specs.declared.cid.ConnectionId.{ConnectionId}
use Rattle.values.specs.declared.token.Token.{Token}
use Rattle.values.specs.declared.token.ResetToken.{ResetToken}
use Rattle.ids_rules.specs.Calls as C
use Rattle.tables.specs.Table.{live, seq_of}
use Rattle.ids_state.specs.declared.state.Ids.{Ids}
use Rattle.ids_rules.specs.Promise.{counted}
use Rattle.ids_rules.proofs.BelowExample.{late, long, answers}
use Rattle.ids.specs.Reading.{view, fresh_ids}
use Rattle.ids.specs.Runs.{CodeCall, SetInitialDcid, SetScidLimit, AddScid, RetireScid, AddDcid, MarkScidUsed, MarkDcidUsed, MarkScidToAdvertise, MarkDcidToRetire, Reads, Started, started, Event, refusal_in, calls, issues, history, remaining, source_seqs, none_below}
use Rattle.ids.specs.RunsProof.{complete, without_gap_lem, table_is_history_lem, none_below_lem}

abbrev cid : ℕ → ConnectionId
cid n = cid_new_of (n ∷ [])

-- of length 21
abbrev long_cid : ConnectionId
long_cid = record { bytes = replicate 20 1; len = 21 }

abbrev key : ℕ → Token
key n = record { bytes = replicate token_len n; present = true }

abbrev frame_key : ℕ → ResetToken
frame_key n = record { bytes = replicate token_len n }

abbrev pub state : Ids
state = (fresh_ids 2 (cid 50) 7 zero_token).ids

pub begins : Started state
begins = started 2 (cid 50) 7 zero_token refl

-- the ID n, without leave to retire
abbrev add : ℕ → CodeCall
add n = AddScid (cid n) (key n) true false 0 false

abbrev pub told : List CodeCall
told =
    SetScidLimit 4 ∷ add 1 ∷ add 2 ∷ add 3 ∷ add 4
    ∷ RetireScid 0 (cid 99) ∷ RetireScid 2 (cid 2) ∷ RetireScid 1 long_cid ∷ add 5 ∷ RetireScid 9 (cid 99)
    ∷ MarkScidUsed 3 5 ∷ MarkScidUsed 0 5 ∷ MarkScidToAdvertise 1 false
    ∷ SetInitialDcid (cid 60) zero_token true 7 ∷ AddDcid (cid 61) 1 (frame_key 61) 0 ∷ AddDcid (cid 62) 2 (frame_key 62) 1 ∷ AddDcid (cid 63) 1 (frame_key 63) 0
    ∷ MarkDcidUsed 1 5 ∷ MarkDcidUsed 0 5 ∷ MarkDcidToRetire 9 true
    ∷ Reads C.UnusedScids ∷ []

-- the fifth meets the limit; the seventh retires the ID of its own packet, is 4 and takes 2 out; the eighth is 1 and takes nothing out; 9 was never issued;
-- 0 is out; a sequence comes with another ID; and 0 was retired
pub answered : map (λ (e : Event). refusal_in e.returned) (history state told) ≡ 0 ∷ 0 ∷ 0 ∷ 0 ∷ 3 ∷ 0 ∷ 4 ∷ 1 ∷ 0 ∷ 4 ∷ 0 ∷ 2 ∷ 0 ∷ 0 ∷ 0 ∷ 0 ∷ 4 ∷ 0 ∷ 2 ∷ 0 ∷ 0 ∷ []
answered = refl

pub issued : issues state told ≡ 1 ∷ 2 ∷ 3 ∷ 4 ∷ []
issued = refl

pub left : (remaining (0 ∷ []) (history state told) ≡ 1 ∷ 3 ∷ 4 ∷ []) × (source_seqs (calls state told) ≡ 1 ∷ 3 ∷ 4 ∷ [])
left = (refl, refl)

pub queues : ((view (calls state told)).scids_to_advertise ≡ 2 ∷ 3 ∷ 4 ∷ []) × ((view (calls state told)).dcids_to_retire ≡ 0 ∷ 9 ∷ [])
queues = (refl, refl)

-- as the promises say
pub concluded : (issues state told ≡ counted 1 4) × (source_seqs (calls state told) ≡ remaining (0 ∷ []) (history state told))
concluded = (without_gap_lem state begins told, table_is_history_lem state begins told)

-- ---- retired destination sequences [10]

-- the published call of each call of the rules
abbrev published : List C.Call → List CodeCall
published cs = map (λ (c : C.Call). (complete c).call) cs

-- the long run is answered as on the rules, and after it none is below, as the promise says: the largest is 10, and 10 and 11 are left
pub long_answered : map (λ (e : Event). refusal_in e.returned) (history state (published long)) ≡ answers
long_answered = refl

pub long_left : (map seq_of (live (calls state (published long)).dcids) ≡ 10 ∷ 11 ∷ []) × ((calls state (published long)).largest_peer_retire_prior_to ≡ 10)
long_left = (refl, refl)

pub long_concluded : none_below (calls state (published long)) ≡ true
long_concluded = none_below_lem state begins (published long) [] refl

-- a later set_initial_dcid breaks it
pub late_below : none_below (calls state (published late)) ≡ false
late_below = refl
