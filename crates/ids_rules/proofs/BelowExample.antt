-- The promise about retired destination sequences [10] is not vacuous, and its premise is needed: a long run with every kind of call and every way in which add_dcid ends, as the
-- promise says of it after each call; and two calls, of which the second is set_initial_dcid, that it could not say it of.
use Rattle.std.specs.Prelude.{ℕ, ◌≡◌, refl, List, [], ◌∷◌, ◌++◌, map, true, false, length, drop, replicate}
use Rattle.std.proofs.Common.{sym}
use Rattle.std.proofs.Math.Option.{none, some}
use Rattle.lists.specs.Defs.{any}
use Rattle.values.specs.declared.cid.ConnectionId.{ConnectionId}
use Rattle.values.specs.Cid.{cid_new_of}
use Rattle.values.specs.Limits.{token_len}
use Rattle.ids_rules.specs.View.{View}
use Rattle.ids_rules.specs.Steps.{fresh}
use Rattle.ids_rules.specs.Calls.{Call, SetInitialDcid, SetScidLimit, AddScid, RetireScid, AddDcid, MarkScidUsed, MarkDcidUsed, MarkScidToAdvertise, MarkDcidToRetire, Ask, after, run}
use Rattle.ids_rules.specs.Calls.{GetScid, GetDcid, FindScid, UnusedScids, UnusedDcids, LowestUnusedDcidSeq, NextScidToAdvertise, NextDcidToRetire, CreateNewConnectionIdFrame, NeedSendCidControlFrames, ZeroLengthScid, ZeroLengthDcid, ScidCount, ScidAt, DcidCount, DcidAt}
use Rattle.ids_rules.specs.Laws.{never}
use Rattle.ids_rules.specs.Promise.{Starts, starts, Event, history, sets_initial, takes_frame, destinations, none_below, never_after}
use Rattle.ids_rules.proofs.Below.{none_below_lem, none_below_early_lem}

abbrev cid : ℕ → ConnectionId
cid n = cid_new_of (n ∷ [])

-- of length 21
abbrev long_cid : ConnectionId
long_cid = record { bytes = replicate 20 1; len = 21 }

abbrev token : List ℕ
token = replicate token_len 9

-- destination limit 2: at most three items, and eight that wait to be retired
abbrev pub start : View
start = fresh 2 (cid 50) 7 none

pub begins : Starts start
begins = starts 2 (cid 50) 7 none refl

-- the peer's sequence s, with the ID that belongs to it, and Retire Prior To b; the host's mark
abbrev peer : ℕ → ℕ → Call
peer s b = AddDcid (cid s) s token b

abbrev mark : ℕ → Call
mark s = MarkDcidToRetire s true

abbrev initial : Call
initial = SetInitialDcid (cid 0) (some token) (some 7)

-- ---- the premise is needed: a set_initial_dcid that comes later puts sequence 0 back

abbrev pub late : List Call
late = peer 5 5 ∷ initial ∷ []

pub below : (destinations (run start late) ≡ 0 ∷ []) × (none_below (run start late) ≡ false)
below = (refl, refl)

-- without the premise the promise is false
pub premise_needed : ((v : View) → Starts v → (cs : List Call) → none_below (run v cs) ≡ true) → ⊥
premise_needed h = never (sym (h start begins late))

-- ---- a long run

-- each part with its refusals
pub record Part : Type 0 where
  pub calls : List Call
  pub refusals : List ℕ

abbrev part : List Call → List ℕ → Part
part c r = record { calls = c; refusals = r }

abbrev pub parts : List Part
parts =
    -- the only set_initial_dcid, and the calls that leave the destination side
    part (initial ∷ SetScidLimit 3 ∷ AddScid (cid 51) (some token) true none false ∷ AddScid (cid 52) none true none false ∷ RetireScid 9 (cid 99) ∷ RetireScid 0 (cid 99) ∷ []) (0 ∷ 0 ∷ 0 ∷ 2 ∷ 4 ∷ 0 ∷ [])
    ∷ part (MarkScidUsed 1 5 ∷ MarkScidUsed 0 5 ∷ MarkScidToAdvertise 1 false ∷ []) (0 ∷ 2 ∷ 0 ∷ [])
    -- an ID; the same frame; another ID with its sequence; Retire Prior To above the sequence; an ID out of form; a third item; full
    ∷ part (peer 1 0 ∷ peer 1 0 ∷ AddDcid (cid 2) 1 token 0 ∷ peer 2 3 ∷ AddDcid long_cid 2 token 0 ∷ peer 2 0 ∷ peer 3 0 ∷ []) (0 ∷ 0 ∷ 4 ∷ 4 ∷ 1 ∷ 0 ∷ 3 ∷ [])
    -- 0 and 1 are retired, one in use and one not; both frames come again and wait; the mark of 0 goes, and its frame is queued once more
    ∷ part (MarkDcidUsed 1 5 ∷ peer 3 2 ∷ MarkDcidUsed 0 5 ∷ peer 0 0 ∷ peer 1 1 ∷ MarkDcidToRetire 0 false ∷ peer 0 0 ∷ []) (0 ∷ 0 ∷ 2 ∷ 0 ∷ 0 ∷ 0 ∷ 0 ∷ [])
    -- queued and not late: 9 is added. Then 2 and 3 go; and where nothing moves, a full table is refused with the largest raised to 9
    ∷ part (mark 9 ∷ peer 9 0 ∷ peer 10 3 ∷ peer 11 4 ∷ peer 12 9 ∷ []) (0 ∷ 0 ∷ 0 ∷ 0 ∷ 3 ∷ [])
    -- five wait, and three marks; then 9 moves, and the frame that moved it is refused with 4; a late one too, queued; and again: it waits
    ∷ part (mark 20 ∷ mark 21 ∷ mark 22 ∷ peer 13 10 ∷ peer 5 0 ∷ peer 5 0 ∷ []) (0 ∷ 0 ∷ 0 ∷ 4 ∷ 4 ∷ 0 ∷ [])
    -- 128 wait: one more is 6, by the host, late, and by a raised Retire Prior To; one that waits is none
    ∷ part (replicate 118 (mark 30)) (replicate 118 0)
    ∷ part (mark 31 ∷ peer 6 0 ∷ peer 14 14 ∷ peer 5 0 ∷ []) (6 ∷ 6 ∷ 6 ∷ 0 ∷ [])
    -- every call that reads
    ∷ part (map Ask (GetScid 1 ∷ GetDcid 9 ∷ FindScid (cid 51) ∷ UnusedScids ∷ UnusedDcids ∷ LowestUnusedDcidSeq ∷ NextScidToAdvertise ∷ NextDcidToRetire ∷ [])) (0 ∷ 2 ∷ 0 ∷ 0 ∷ 0 ∷ 0 ∷ 0 ∷ 0 ∷ [])
    ∷ part (map Ask (CreateNewConnectionIdFrame 1 ∷ NeedSendCidControlFrames ∷ ZeroLengthScid ∷ ZeroLengthDcid ∷ ScidCount ∷ ScidAt 0 ∷ DcidCount ∷ DcidAt 0 ∷ [])) (replicate 8 0)
    ∷ []

abbrev joined : {A : Type 0} → (Part → List A) → List Part → List A
joined f [] = []
joined f (p ∷ ps) = f p ++ joined f ps

abbrev pub long : List Call
long = joined (λ p. p.calls) parts

abbrev pub answers : List ℕ
answers = joined (λ p. p.refusals) parts

pub answered : map (λ (e : Event). e.refusal) (history start long) ≡ answers
answered = refl

-- the view after each call
abbrev views : View → List Call → List View
views v [] = v ∷ []
views v (c ∷ cs) = v ∷ views (after v c) cs

-- the premise holds, and after each call none is below, as the promise says; at the end the largest is 10
pub premise : (any sets_initial (drop 1 long) ≡ false) × (never_after sets_initial takes_frame long ≡ true)
premise = (refl, refl)

pub each : map none_below (views start long) ≡ replicate 173 true
each = refl

pub left : (destinations (run start long) ≡ 10 ∷ 11 ∷ []) × ((run start long).largest_peer_retire_prior_to ≡ 10) × (length (run start long).dcids_to_retire ≡ 128)
left = (refl, refl, refl)

pub concluded : none_below (run start long) ≡ true
concluded = none_below_lem start begins long [] refl

-- a client sets its peer's first ID three times before a frame comes: that is no first call, and the larger promise speaks of it
pub early : none_below (run start (initial ∷ initial ∷ Ask DcidCount ∷ initial ∷ peer 1 1 ∷ peer 0 0 ∷ [])) ≡ true
early = none_below_early_lem start begins (initial ∷ initial ∷ Ask DcidCount ∷ initial ∷ peer 1 1 ∷ peer 0 0 ∷ []) [] refl
