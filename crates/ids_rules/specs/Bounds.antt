-- Both sides of each check of every call, and the order of neighbouring checks: for each call a table of rows, a view, a call and the whole outcome, and a theorem that every row computes.
-- The views are well formed; not all are reached by calls.
use Rattle.std.specs.Prelude.{ℕ, ◌+◌, ◌-◌, ◌^◌, ◌≡◌, refl, List, [], ◌∷◌, ◌++◌, map, Bool, true, false, replicate}
use Rattle.std.proofs.Math.Option.{none, some}
use Rattle.values.specs.declared.cid.ConnectionId.{ConnectionId}
use Rattle.values.specs.Cid.{cid_new_of, zero_id}
use Rattle.values.specs.Limits.{token_len}
use Rattle.ids_rules.specs.Values.{Item, on_path}
use Rattle.ids_rules.specs.View.{View, Out, Answer, Nothing, Issued, Freed, Retired, Whole, Maybe, Found, Number, Perhaps, Flag, Frame, refused, accepted}
use Rattle.ids_rules.specs.With.{with_scids, with_dcids, with_dcid_limit, with_scid_limit, with_scid_capacity, with_zero_length_scid, with_zero_length_dcid, with_next_scid_seq, with_retire_prior_to, with_largest_peer_retire_prior_to, with_scids_to_advertise, with_dcids_to_retire}
use Rattle.ids_rules.specs.Steps.{fresh, fresh_call, zero_view}
use Rattle.ids_rules.specs.Well.{well}
use Rattle.ids_rules.specs.Calls.{Call, SetInitialDcid, SetScidLimit, AddScid, RetireScid, AddDcid, MarkScidUsed, MarkDcidUsed, MarkScidToAdvertise, MarkDcidToRetire, Ask, apply}
use Rattle.ids_rules.specs.Calls.{GetScid, GetDcid, FindScid, UnusedScids, UnusedDcids, LowestUnusedDcidSeq, NextScidToAdvertise, NextDcidToRetire, CreateNewConnectionIdFrame, NeedSendCidControlFrames, ZeroLengthScid, ZeroLengthDcid, ScidCount, ScidAt, DcidCount, DcidAt}

pub record Row : Type 0 where
  pub before : View
  pub call : Call
  pub out : Out

-- a refusal that changes nothing; one that leaves w; an acceptance that changes nothing; one that leaves w
abbrev pub stays : View → Call → ℕ → Row
stays v c n = record { before = v; call = c; out = refused n v }

abbrev pub leaves : View → Call → ℕ → View → Row
leaves v c n w = record { before = v; call = c; out = refused n w }

abbrev pub says : View → Call → Answer → Row
says v c a = record { before = v; call = c; out = accepted a v }

abbrev pub gives : View → Call → Answer → View → Row
gives v c a w = record { before = v; call = c; out = accepted a w }

-- ---- the words of the table

abbrev pub cid : ℕ → ConnectionId
cid n = cid_new_of (n ∷ [])

-- not of its form: too long, or not zero past its length; and of the largest length
abbrev long_cid : ConnectionId
long_cid = record { bytes = replicate 20 1; len = 21 }

abbrev dirty_cid : ConnectionId
dirty_cid = record { bytes = replicate 20 1; len = 19 }

abbrev full_cid : ConnectionId
full_cid = record { bytes = replicate 20 1; len = 20 }

abbrev token : List ℕ
token = replicate token_len 9

abbrev other_token : List ℕ
other_token = replicate token_len 8

-- the item with sequence s: with a token and no path; with neither; with a path
abbrev item : ℕ → Item
item s = record { cid = cid s; seq = s; token = some token; path = none }

abbrev bare : ℕ → Item
bare s = record { cid = cid s; seq = s; token = none; path = none }

abbrev busy : ℕ → ℕ → Item
busy s p = on_path p (item s)

-- ---- source views

-- sequence 0, on path 0; 0 and 1; 0, 1 and 2, which fills the table, and then own Retire Prior To is 1
abbrev first : Item
first = record { cid = cid 50; seq = 0; token = none; path = some 0 }

abbrev one : View
one = fresh 2 (cid 50) 0 none

abbrev two : View
two = with_scids (first ∷ item 1 ∷ []) (with_next_scid_seq 2 one)

abbrev three : View
three = with_scids (first ∷ item 1 ∷ item 2 ∷ []) (with_next_scid_seq 3 (with_retire_prior_to 1 one))

abbrev zero : View
zero = fresh 2 zero_id 0 none

abbrev sevens : ℕ → View → View
sevens n v = with_scids_to_advertise (replicate n 7) v

-- with token, advertise and leave to retire: the ID of sequence n
abbrev add : ℕ → Bool → Bool → Call
add n advertise retire_if_needed = AddScid (cid n) (some token) advertise none retire_if_needed

abbrev add_bare : Bool → Bool → Call
add_bare advertise retire_if_needed = AddScid (cid 1) none advertise none retire_if_needed

-- ---- fresh, and the limit

-- the limit 0, 1, 16, 17; an ID that is too long, not zero past its length, of length 20, empty
pub fresh_rows : map (λ (n : ℕ). fresh_call n (cid 50) 0 none) (0 ∷ 1 ∷ 16 ∷ 17 ∷ []) ≡ refused 1 zero_view ∷ accepted Nothing (with_dcid_limit 1 one) ∷ accepted Nothing (with_dcid_limit 16 one) ∷ refused 1 zero_view ∷ []
fresh_rows = refl

pub fresh_ids_lem : map (λ (c : ConnectionId). fresh_call 2 c 0 none) (long_cid ∷ dirty_cid ∷ full_cid ∷ zero_id ∷ [])
    ≡ refused 1 zero_view ∷ refused 1 zero_view ∷ accepted Nothing (fresh 2 full_cid 0 none) ∷ accepted Nothing (with_zero_length_scid true (with_scids (record { cid = zero_id; seq = 0; token = none; path = some 0 } ∷ []) one)) ∷ []
fresh_ids_lem = refl

abbrev pub limit_rows : List Row
limit_rows =
    says one (SetScidLimit 0) Nothing
    ∷ says one (SetScidLimit 1) Nothing
    ∷ says one (SetScidLimit 2) Nothing
    ∷ gives one (SetScidLimit 3) Nothing (with_scid_limit 3 (with_scid_capacity 5 one))
    ∷ gives one (SetScidLimit 15) Nothing (with_scid_limit 15 (with_scid_capacity 29 one))
    ∷ gives one (SetScidLimit 16) Nothing (with_scid_limit 16 (with_scid_capacity 31 one))
    ∷ gives one (SetScidLimit 17) Nothing (with_scid_limit 16 (with_scid_capacity 31 one))
    ∷ gives one (SetScidLimit (2 ^ 64 - 1)) Nothing (with_scid_limit 16 (with_scid_capacity 31 one))
    -- the capacity never falls
    ∷ gives (with_scid_limit 3 (with_scid_capacity 5 one)) (SetScidLimit 2) Nothing (with_scid_capacity 5 one)
    ∷ []

-- ---- add_scid

abbrev pub add_scid_rows : List Row
add_scid_rows =
    -- zero-length 2, before 7
    stays (with_next_scid_seq (2 ^ 62) zero) (add 1 false false) 2
    -- 7: before 3, before 2 for want of a token, before 6
    ∷ stays (with_next_scid_seq (2 ^ 62) two) (add 2 false false) 7
    ∷ stays (with_next_scid_seq (2 ^ 62) one) (add_bare false false) 7
    ∷ stays (with_next_scid_seq (2 ^ 62) (sevens 128 one)) (add 1 true false) 7
    ∷ gives (with_next_scid_seq (2 ^ 62 - 1) one) (add 1 false false) (Issued (2 ^ 62 - 1))
    (with_scids (first ∷ record { cid = cid 1; seq = 2 ^ 62 - 1; token = some token; path = none } ∷ []) (with_next_scid_seq (2 ^ 62) one))
    -- below the limit, with leave or without, Retire Prior To stays; at it, above it: 3 without leave, before 2 for want of a token
    ∷ gives one (add 1 false false) (Issued 1) two
    ∷ gives one (add 1 false true) (Issued 1) two
    ∷ stays two (add 2 false false) 3
    ∷ stays two (add_bare false false) 3
    ∷ stays three (add 3 false false) 3
    ∷ gives (with_scid_limit 3 (with_scid_capacity 5 two)) (add 2 false false) (Issued 2) (with_scid_limit 3 (with_scid_capacity 5 (with_retire_prior_to 0 three)))
    -- with leave: the lowest not below Retire Prior To, plus 1; none: 2, with or without a token
    ∷ gives two (add 2 false true) (Issued 2) three
    ∷ gives (with_retire_prior_to 1 two) (add 2 false true) (Issued 2) (with_retire_prior_to 2 three)
    ∷ stays (with_retire_prior_to 2 two) (add 2 false true) 2
    ∷ stays (with_retire_prior_to 2 two) (add_bare false true) 2
    -- no token: 2, before full, before 6; the raised Retire Prior To stays
    ∷ stays one (add_bare false false) 2
    ∷ leaves two (add_bare false true) 2 (with_retire_prior_to 1 two)
    ∷ leaves three (add_bare false true) 2 (with_retire_prior_to 2 three)
    ∷ leaves (sevens 128 two) (add_bare true true) 2 (with_retire_prior_to 1 (sevens 128 two))
    -- full: 3, before 6; the raised Retire Prior To stays
    ∷ leaves three (add 3 false true) 3 (with_retire_prior_to 2 three)
    ∷ leaves (sevens 128 three) (add 3 true true) 3 (with_retire_prior_to 2 (sevens 128 three))
    ∷ gives (with_scid_capacity 5 three) (add 3 false true) (Issued 3) (with_scid_capacity 5 (with_scids (first ∷ item 1 ∷ item 2 ∷ item 3 ∷ []) (with_next_scid_seq 4 (with_retire_prior_to 2 three))))
    -- 6 leaves the old Retire Prior To; without advertise there is none
    ∷ stays (sevens 128 one) (add 1 true false) 6
    ∷ stays (sevens 128 two) (add 2 true true) 6
    ∷ gives (sevens 127 two) (add 2 true true) (Issued 2) (with_scids_to_advertise (replicate 127 7 ++ (2 ∷ [])) three)
    ∷ gives (sevens 128 two) (add 2 false true) (Issued 2) (sevens 128 three)
    -- with advertise one more mark; without, every earlier one out
    ∷ gives (with_scids_to_advertise (1 ∷ 7 ∷ 1 ∷ []) one) (add 1 true false) (Issued 1) (with_scids_to_advertise (1 ∷ 7 ∷ 1 ∷ 1 ∷ []) two)
    ∷ gives (with_scids_to_advertise (1 ∷ 7 ∷ 1 ∷ []) one) (add 1 false false) (Issued 1) (with_scids_to_advertise (7 ∷ []) two)
    -- an ID that was issued before, an empty one; a path
    ∷ gives one (add 50 false false) (Issued 1) (with_scids (first ∷ record { cid = cid 50; seq = 1; token = some token; path = none } ∷ []) (with_next_scid_seq 2 one))
    ∷ gives one (AddScid zero_id (some token) false (some 4) false) (Issued 1) (with_scids (first ∷ record { cid = zero_id; seq = 1; token = some token; path = some 4 } ∷ []) (with_next_scid_seq 2 one))
    ∷ []

-- ---- retire_scid

abbrev pub retire_scid_rows : List Row
retire_scid_rows =
    -- next and above: 4, also where one item is left; below it
    stays two (RetireScid 2 (cid 99)) 4
    ∷ stays one (RetireScid 1 (cid 99)) 4
    ∷ gives two (RetireScid 1 (cid 99)) (Freed none) (with_scids (first ∷ []) two)
    -- the only item: 2, before the packet's ID
    ∷ stays one (RetireScid 0 (cid 99)) 2
    ∷ stays one (RetireScid 0 (cid 50)) 2
    -- absent: no path, with one item left or more
    ∷ says (with_scids (item 1 ∷ []) two) (RetireScid 0 (cid 99)) (Freed none)
    ∷ says (with_scids (first ∷ item 2 ∷ []) three) (RetireScid 1 (cid 99)) (Freed none)
    -- the packet's own: 4, the item out and Retire Prior To as before, also where none is left at or above it
    ∷ leaves two (RetireScid 0 (cid 50)) 4 (with_scids (item 1 ∷ []) two)
    ∷ leaves (with_retire_prior_to 2 two) (RetireScid 0 (cid 50)) 4 (with_scids (item 1 ∷ []) (with_retire_prior_to 2 two))
    -- none left at or above Retire Prior To: 2, the item out; else the lowest such
    ∷ leaves (with_retire_prior_to 2 two) (RetireScid 0 (cid 99)) 2 (with_scids (item 1 ∷ []) (with_retire_prior_to 2 two))
    ∷ gives (with_retire_prior_to 1 two) (RetireScid 0 (cid 99)) (Freed (some 0)) (with_scids (item 1 ∷ []) (with_retire_prior_to 1 two))
    ∷ gives two (RetireScid 0 (cid 99)) (Freed (some 0)) (with_scids (item 1 ∷ []) (with_retire_prior_to 1 two))
    ∷ gives three (RetireScid 1 (cid 99)) (Freed none) (with_scids (first ∷ item 2 ∷ []) (with_retire_prior_to 2 three))
    ∷ gives three (RetireScid 2 (cid 99)) (Freed none) (with_scids (first ∷ item 1 ∷ []) three)
    -- a mark outlives its item
    ∷ gives (with_scids_to_advertise (1 ∷ []) two) (RetireScid 1 (cid 99)) (Freed none) (with_scids (first ∷ []) (with_scids_to_advertise (1 ∷ []) two))
    ∷ []

-- ---- destination views, of limit 2, capacity 3

-- items, the largest Retire Prior To, the retire queue
abbrev holds : List Item → ℕ → List ℕ → View
holds l r q = with_dcids l (with_largest_peer_retire_prior_to r (with_dcids_to_retire q one))

abbrev old : ℕ → List ℕ
old n = replicate n 1000

-- the peer's sequence s, with the ID that belongs to it, and Retire Prior To b
abbrev peer : ℕ → ℕ → Call
peer s b = AddDcid (cid s) s token b

abbrev zero_item : Item
zero_item = record { cid = zero_id; seq = 0; token = some token; path = none }

abbrev pub initial_rows : List Row
initial_rows =
    -- the table is emptied, the queues and the largest stay; the mark is that of the new ID
    gives (with_scids_to_advertise (1 ∷ []) (holds (item 4 ∷ busy 5 6 ∷ []) 4 (3 ∷ []))) (SetInitialDcid (cid 0) none (some 3)) Nothing
    (with_scids_to_advertise (1 ∷ []) (holds (record { cid = cid 0; seq = 0; token = none; path = some 3 } ∷ []) 4 (3 ∷ [])))
    ∷ gives one (SetInitialDcid zero_id (some token) none) Nothing (with_zero_length_dcid true (holds (zero_item ∷ []) 0 []))
    ∷ gives (with_zero_length_dcid true (holds (zero_item ∷ []) 0 [])) (SetInitialDcid (cid 0) (some token) none) Nothing (holds (item 0 ∷ []) 0 [])
    ∷ []

abbrev pub add_dcid_rows : List Row
add_dcid_rows =
    -- zero-length: 4, also for a repeat
    stays (with_zero_length_dcid true (holds (zero_item ∷ []) 0 [])) (peer 1 0) 4
    ∷ stays (with_zero_length_dcid true (holds (zero_item ∷ []) 0 [])) (AddDcid zero_id 0 token 0) 4
    -- equal ID or sequence: sequence, ID or token differs, a token is absent: 4. None differs: success, before Retire Prior To is read and before a late sequence is queued
    ∷ stays (holds (item 1 ∷ []) 0 []) (AddDcid (cid 1) 2 token 0) 4
    ∷ stays (holds (item 1 ∷ []) 0 []) (AddDcid (cid 2) 1 token 0) 4
    ∷ stays (holds (item 1 ∷ []) 0 []) (AddDcid (cid 1) 1 other_token 0) 4
    ∷ stays (holds (bare 0 ∷ []) 0 []) (peer 0 0) 4
    ∷ stays (holds (item 1 ∷ item 2 ∷ []) 0 []) (AddDcid (cid 1) 2 token 0) 4
    ∷ says (holds (item 1 ∷ busy 2 5 ∷ []) 0 []) (peer 2 0) (Retired [])
    ∷ says (holds (item 1 ∷ []) 0 []) (peer 1 5) (Retired [])
    ∷ says (holds (item 1 ∷ []) 9 []) (peer 1 0) (Retired [])
    -- Retire Prior To above the sequence: 4, before 6; equal to it
    ∷ stays (holds (item 1 ∷ []) 0 []) (peer 2 3) 4
    ∷ stays (holds (item 1 ∷ []) 9 (old 128)) (peer 2 3) 4
    ∷ gives (holds (item 1 ∷ []) 0 []) (peer 3 3) (Retired []) (holds (item 3 ∷ []) 3 (1 ∷ []))
    -- late: below the largest, not equal to it, and not queued, whatever else is; before full
    ∷ gives (holds (item 9 ∷ []) 9 []) (peer 8 0) (Retired []) (holds (item 9 ∷ []) 9 (8 ∷ []))
    ∷ gives (holds (item 9 ∷ []) 9 (7 ∷ 9 ∷ [])) (peer 8 0) (Retired []) (holds (item 9 ∷ []) 9 (7 ∷ 9 ∷ 8 ∷ []))
    ∷ gives (holds (item 9 ∷ []) 8 []) (peer 8 0) (Retired []) (holds (item 9 ∷ item 8 ∷ []) 8 [])
    ∷ gives (holds (item 9 ∷ item 10 ∷ item 11 ∷ []) 9 []) (peer 8 0) (Retired []) (holds (item 9 ∷ item 10 ∷ item 11 ∷ []) 9 (8 ∷ []))
    -- late and queued [10], at any place of the queue and more than once, with Retire Prior To up to the sequence, with another ID or token than it came with: success, nothing changed;
    -- before 6, before 4 for too many, before full
    ∷ says (holds (item 9 ∷ []) 9 (8 ∷ [])) (peer 8 0) (Retired [])
    ∷ says (holds (item 9 ∷ []) 9 (7 ∷ 8 ∷ 7 ∷ 8 ∷ [])) (peer 8 8) (Retired [])
    ∷ says (holds (item 9 ∷ []) 9 (7 ∷ 9 ∷ 8 ∷ [])) (AddDcid (cid 77) 8 other_token 0) (Retired [])
    ∷ says (holds (item 9 ∷ []) 9 (old 127 ++ (8 ∷ []))) (peer 8 0) (Retired [])
    ∷ says (holds (item 9 ∷ []) 9 (old 8 ++ (8 ∷ []))) (peer 8 0) (Retired [])
    ∷ says (holds (item 9 ∷ item 10 ∷ item 11 ∷ []) 9 (8 ∷ [])) (peer 8 0) (Retired [])
    -- after 4 for a zero-length ID, for an ID that is held, for Retire Prior To above the sequence
    ∷ stays (with_zero_length_dcid true (holds (item 9 ∷ []) 9 (8 ∷ []))) (peer 8 0) 4
    ∷ stays (holds (item 9 ∷ []) 9 (8 ∷ [])) (AddDcid (cid 9) 8 token 0) 4
    ∷ stays (holds (item 9 ∷ []) 9 (8 ∷ [])) (peer 8 9) 4
    -- queued and not late: equal to the largest, above it, and above one that the frame raises: added
    ∷ gives (holds (item 9 ∷ []) 8 (8 ∷ [])) (peer 8 0) (Retired []) (holds (item 9 ∷ item 8 ∷ []) 8 (8 ∷ []))
    ∷ gives (holds (item 9 ∷ []) 7 (8 ∷ [])) (peer 8 0) (Retired []) (holds (item 9 ∷ item 8 ∷ []) 7 (8 ∷ []))
    ∷ gives (holds (item 1 ∷ item 9 ∷ []) 0 (8 ∷ [])) (peer 8 8) (Retired []) (holds (item 9 ∷ item 8 ∷ []) 8 (8 ∷ 1 ∷ []))
    -- what is moved is below the frame's Retire Prior To: one less is, equal is not
    ∷ gives (holds (item 7 ∷ item 8 ∷ item 6 ∷ []) 0 []) (peer 9 8) (Retired []) (holds (item 8 ∷ item 9 ∷ []) 8 (7 ∷ 6 ∷ []))
    -- late: 6 at 128, before 4 above 4 x limit, with the sequence queued
    ∷ stays (holds (item 9 ∷ []) 9 (old 128)) (peer 8 0) 6
    ∷ leaves (holds (item 9 ∷ []) 9 (old 127)) (peer 8 0) 4 (holds (item 9 ∷ []) 9 (old 127 ++ (8 ∷ [])))
    ∷ leaves (holds (item 9 ∷ []) 9 (old 8)) (peer 8 0) 4 (holds (item 9 ∷ []) 9 (old 8 ++ (8 ∷ [])))
    ∷ gives (holds (item 9 ∷ []) 9 (old 7)) (peer 8 0) (Retired []) (holds (item 9 ∷ []) 9 (old 7 ++ (8 ∷ [])))
    -- Retire Prior To above the largest: 6 above 128 with nothing moved, before 4 above 4 x limit with all moved, also where nothing moved
    ∷ stays (holds (item 1 ∷ item 2 ∷ []) 0 (old 127)) (peer 9 9) 6
    ∷ leaves (holds (item 1 ∷ item 2 ∷ []) 0 (old 126)) (peer 9 9) 4 (holds [] 9 (old 126 ++ (1 ∷ 2 ∷ [])))
    ∷ leaves (holds (item 1 ∷ busy 2 6 ∷ []) 0 (old 7)) (peer 9 9) 4 (holds [] 9 (old 7 ++ (1 ∷ 2 ∷ [])))
    ∷ gives (holds (item 1 ∷ item 2 ∷ []) 0 (old 6)) (peer 9 9) (Retired []) (holds (item 9 ∷ []) 9 (old 6 ++ (1 ∷ 2 ∷ [])))
    ∷ leaves (holds (item 9 ∷ []) 0 (old 9)) (peer 10 9) 4 (holds (item 9 ∷ []) 9 (old 9))
    -- equal to the largest: nothing moves, and the queue is not looked at
    ∷ gives (holds (item 9 ∷ []) 9 (old 9)) (peer 10 9) (Retired []) (holds (item 9 ∷ item 10 ∷ []) 9 (old 9))
    ∷ gives (holds (item 1 ∷ []) 9 (old 128)) (peer 10 9) (Retired []) (holds (item 1 ∷ item 10 ∷ []) 9 (old 128))
    -- the queue comes before full
    ∷ leaves (holds (item 9 ∷ item 10 ∷ item 11 ∷ []) 0 (old 9)) (peer 12 9) 4 (holds (item 9 ∷ item 10 ∷ item 11 ∷ []) 9 (old 9))
    -- full: 3, after the retiring, which leaves the largest raised
    ∷ stays (holds (item 1 ∷ item 2 ∷ item 3 ∷ []) 0 []) (peer 4 0) 3
    ∷ leaves (holds (item 1 ∷ item 2 ∷ item 3 ∷ []) 0 []) (peer 4 1) 3 (holds (item 1 ∷ item 2 ∷ item 3 ∷ []) 1 [])
    ∷ gives (holds (item 1 ∷ item 2 ∷ item 3 ∷ []) 0 []) (peer 4 2) (Retired []) (holds (item 2 ∷ item 3 ∷ item 4 ∷ []) 2 (1 ∷ []))
    ∷ gives (holds (item 1 ∷ item 2 ∷ []) 0 []) (peer 4 0) (Retired []) (holds (item 1 ∷ item 2 ∷ item 4 ∷ []) 0 [])
    -- pairs in table order, of those in use alone
    ∷ gives (holds (busy 3 6 ∷ item 2 ∷ busy 1 5 ∷ []) 0 (7 ∷ [])) (peer 9 9) (Retired (record { seq = 3; path = 6 } ∷ record { seq = 1; path = 5 } ∷ [])) (holds (item 9 ∷ []) 9 (7 ∷ 3 ∷ 2 ∷ 1 ∷ []))
    -- the largest numbers
    ∷ says (holds [] (2 ^ 64 - 1) ((2 ^ 64 - 2) ∷ [])) (peer (2 ^ 64 - 2) 0) (Retired [])
    ∷ gives (holds (busy 1 5 ∷ []) 0 []) (peer (2 ^ 64 - 1) (2 ^ 64 - 1)) (Retired (record { seq = 1; path = 5 } ∷ [])) (holds (item (2 ^ 64 - 1) ∷ []) (2 ^ 64 - 1) (1 ∷ []))
    ∷ []

-- ---- marks

abbrev pub mark_rows : List Row
mark_rows =
    stays two (MarkScidUsed 2 5) 2
    ∷ gives two (MarkScidUsed 1 5) Nothing (with_scids (first ∷ busy 1 5 ∷ []) two)
    ∷ gives two (MarkScidUsed 0 5) Nothing (with_scids (on_path 5 first ∷ item 1 ∷ []) two)
    ∷ stays (holds (item 1 ∷ []) 0 []) (MarkDcidUsed 0 5) 2
    ∷ gives (holds (item 1 ∷ busy 2 4 ∷ []) 0 []) (MarkDcidUsed 1 5) Nothing (holds (busy 1 5 ∷ busy 2 4 ∷ []) 0 [])
    ∷ gives (holds (item 1 ∷ busy 2 4 ∷ []) 0 []) (MarkDcidUsed 2 5) Nothing (holds (item 1 ∷ busy 2 5 ∷ []) 0 [])
    -- on: 6 at 128; a repeat, a sequence that is unknown
    ∷ stays (sevens 128 one) (MarkScidToAdvertise 3 true) 6
    ∷ gives (sevens 127 one) (MarkScidToAdvertise 3 true) Nothing (with_scids_to_advertise (replicate 127 7 ++ (3 ∷ [])) one)
    ∷ gives (with_scids_to_advertise (7 ∷ 3 ∷ []) one) (MarkScidToAdvertise 7 true) Nothing (with_scids_to_advertise (7 ∷ 3 ∷ 7 ∷ []) one)
    -- off: every equal one out, also at 128
    ∷ gives (sevens 128 one) (MarkScidToAdvertise 7 false) Nothing one
    ∷ gives (with_scids_to_advertise (7 ∷ 3 ∷ 7 ∷ []) one) (MarkScidToAdvertise 7 false) Nothing (with_scids_to_advertise (3 ∷ []) one)
    ∷ says (with_scids_to_advertise (7 ∷ 3 ∷ 7 ∷ []) one) (MarkScidToAdvertise 4 false) Nothing
    ∷ stays (holds [] 0 (old 128)) (MarkDcidToRetire 3 true) 6
    ∷ gives (holds [] 0 (old 127)) (MarkDcidToRetire 3 true) Nothing (holds [] 0 (old 127 ++ (3 ∷ [])))
    ∷ gives (holds (item 3 ∷ []) 0 (3 ∷ [])) (MarkDcidToRetire 3 true) Nothing (holds (item 3 ∷ []) 0 (3 ∷ 3 ∷ []))
    ∷ gives (holds [] 0 (old 128)) (MarkDcidToRetire 1000 false) Nothing (holds [] 0 [])
    ∷ gives (holds [] 0 (7 ∷ 3 ∷ 7 ∷ [])) (MarkDcidToRetire 7 false) Nothing (holds [] 0 (3 ∷ []))
    ∷ says (holds [] 0 (7 ∷ 3 ∷ 7 ∷ [])) (MarkDcidToRetire 4 false) Nothing
    ∷ []

-- ---- calls that read

-- a view with source items 0 and 1, destination items 4, 2 and 1, of which 1 is on path 6, and both queues
abbrev pub read : View
read = with_scids (first ∷ busy 1 5 ∷ []) (with_scids_to_advertise (7 ∷ 8 ∷ []) (with_dcids (item 4 ∷ item 2 ∷ busy 1 6 ∷ []) (with_dcids_to_retire (9 ∷ 3 ∷ []) two)))

-- a view with both zero-length marks
abbrev pub blank : View
blank = with_zero_length_dcid true (with_dcids (zero_item ∷ []) zero)

abbrev pub query_rows : List Row
query_rows =
    stays read (Ask (GetScid 2)) 2
    ∷ says read (Ask (GetScid 1)) (Whole (busy 1 5))
    ∷ stays read (Ask (GetDcid 3)) 2
    ∷ says read (Ask (GetDcid 2)) (Whole (item 2))
    -- the first with that ID; none is no refusal
    ∷ says read (Ask (FindScid (cid 1))) (Found 1 (some 5))
    ∷ says (with_scids (item 0 ∷ record { cid = cid 0; seq = 1; token = some token; path = some 5 } ∷ []) two) (Ask (FindScid (cid 0))) (Found 0 none)
    ∷ says read (Ask (FindScid (cid 3))) Nothing
    ∷ says read (Ask UnusedScids) (Number 0)
    ∷ says two (Ask UnusedScids) (Number 1)
    -- with the zero-length mark no destination ID is counted, and the lowest is
    ∷ says read (Ask UnusedDcids) (Number 2)
    ∷ says blank (Ask UnusedDcids) (Number 0)
    ∷ says read (Ask LowestUnusedDcidSeq) (Perhaps (some 2))
    ∷ says blank (Ask LowestUnusedDcidSeq) (Perhaps (some 0))
    ∷ says (holds (busy 1 6 ∷ []) 0 []) (Ask LowestUnusedDcidSeq) (Perhaps none)
    ∷ says read (Ask NextScidToAdvertise) (Perhaps (some 7))
    ∷ says one (Ask NextScidToAdvertise) (Perhaps none)
    ∷ says read (Ask NextDcidToRetire) (Perhaps (some 9))
    ∷ says one (Ask NextDcidToRetire) (Perhaps none)
    -- no such item, no token: 2; else own Retire Prior To of now, above the sequence too
    ∷ stays read (Ask (CreateNewConnectionIdFrame 2)) 2
    ∷ stays read (Ask (CreateNewConnectionIdFrame 0)) 2
    ∷ says read (Ask (CreateNewConnectionIdFrame 1)) (Frame 1 0 (cid 1) token)
    ∷ says (with_retire_prior_to 2 read) (Ask (CreateNewConnectionIdFrame 1)) (Frame 1 2 (cid 1) token)
    -- one queue is enough
    ∷ says read (Ask NeedSendCidControlFrames) (Flag true)
    ∷ says (sevens 1 one) (Ask NeedSendCidControlFrames) (Flag true)
    ∷ says (holds [] 0 (7 ∷ [])) (Ask NeedSendCidControlFrames) (Flag true)
    ∷ says one (Ask NeedSendCidControlFrames) (Flag false)
    -- the two marks are two
    ∷ says zero (Ask ZeroLengthScid) (Flag true)
    ∷ says zero (Ask ZeroLengthDcid) (Flag false)
    ∷ says (with_zero_length_dcid true one) (Ask ZeroLengthScid) (Flag false)
    ∷ says (with_zero_length_dcid true one) (Ask ZeroLengthDcid) (Flag true)
    ∷ says read (Ask ScidCount) (Number 2)
    ∷ says read (Ask DcidCount) (Number 3)
    ∷ says one (Ask DcidCount) (Number 0)
    -- the last place, and past the count
    ∷ says read (Ask (ScidAt 0)) (Maybe (some first))
    ∷ says read (Ask (ScidAt 1)) (Maybe (some (busy 1 5)))
    ∷ says read (Ask (ScidAt 2)) (Maybe none)
    ∷ says read (Ask (DcidAt 0)) (Maybe (some (item 4)))
    ∷ says read (Ask (DcidAt 2)) (Maybe (some (busy 1 6)))
    ∷ says read (Ask (DcidAt 3)) (Maybe none)
    ∷ []

-- ---- 1 comes first: an ID not of its form, in each call that takes one

abbrev pub malformed_rows : List Row
malformed_rows =
    stays one (SetInitialDcid long_cid none none) 1
    ∷ stays one (SetInitialDcid dirty_cid none none) 1
    ∷ gives one (SetInitialDcid full_cid none none) Nothing (holds (record { cid = full_cid; seq = 0; token = none; path = none } ∷ []) 0 [])
    ∷ stays zero (AddScid long_cid (some token) false none false) 1
    ∷ stays zero (AddScid dirty_cid (some token) false none false) 1
    ∷ stays one (RetireScid 9 long_cid) 1
    ∷ stays one (RetireScid 9 dirty_cid) 1
    ∷ stays blank (AddDcid long_cid 0 token 1) 1
    ∷ stays blank (AddDcid dirty_cid 0 token 1) 1
    ∷ stays one (Ask (FindScid long_cid)) 1
    ∷ stays one (Ask (FindScid dirty_cid)) 1
    ∷ []

-- ---- the theorems: every row of a table computes

abbrev pub outcome : Row → Out
outcome r = apply r.before r.call

abbrev pub expected : Row → Out
expected r = r.out

abbrev pub Computes : List Row → Type 0
Computes l = map outcome l ≡ map expected l

pub limit_bounds : Computes limit_rows
limit_bounds = refl

pub add_scid_bounds : Computes add_scid_rows
add_scid_bounds = refl

pub retire_scid_bounds : Computes retire_scid_rows
retire_scid_bounds = refl

pub initial_bounds : Computes initial_rows
initial_bounds = refl

pub add_dcid_bounds : Computes add_dcid_rows
add_dcid_bounds = refl

pub mark_bounds : Computes mark_rows
mark_bounds = refl

pub query_bounds : Computes query_rows
query_bounds = refl

pub malformed_bounds : Computes malformed_rows
malformed_bounds = refl

-- ---- well formed: a view at each bound, and views that break one conjunct and no other. Two parts follow from the rest and have none: source limit
-- at most 16, from 2 x limit - 1 <= capacity <= 31; and next at least 1, from an item below next

-- the items 0 to n - 1
abbrev count : ℕ → List Item
count n = map item (up_to n [])
  where
    up_to : ℕ → List ℕ → List ℕ
    up_to ℕ.zero l = l
    up_to (ℕ.suc n) l = up_to n (n ∷ l)

abbrev pub at_bounds : List View
at_bounds =
    with_dcid_limit 1 one ∷ with_dcid_limit 16 one ∷ with_scid_limit 16 (with_scid_capacity 31 one) ∷ with_scid_capacity 31 one
    ∷ with_next_scid_seq 3 (with_scids (count 3) one) ∷ with_next_scid_seq 5 (with_scids (bare 0 ∷ item 4 ∷ []) one) ∷ with_next_scid_seq (2 ^ 62) one ∷ with_retire_prior_to 1 one
    ∷ with_dcids (count 3) one ∷ with_dcids (bare 0 ∷ []) one ∷ with_scids (record { cid = full_cid; seq = 0; token = none; path = none } ∷ []) one ∷ sevens 128 one ∷ with_dcids_to_retire (replicate 128 7) one ∷ []

abbrev pub broken : List View
broken =
    with_dcid_limit 0 one ∷ with_dcid_limit 17 one ∷ with_scid_limit 1 one ∷ with_scid_capacity 4 one ∷ with_scid_limit 3 one ∷ with_scid_capacity 33 one
    ∷ with_scids [] one ∷ with_next_scid_seq 4 (with_scids (count 4) one) ∷ with_next_scid_seq 3 (with_scids (item 0 ∷ item 2 ∷ item 1 ∷ []) one) ∷ with_next_scid_seq 3 (with_scids (item 0 ∷ item 2 ∷ item 2 ∷ []) one)
    ∷ with_next_scid_seq 4 (with_scids (bare 0 ∷ item 4 ∷ []) one) ∷ with_next_scid_seq 5 (with_scids (bare 0 ∷ bare 4 ∷ []) one) ∷ with_next_scid_seq (2 ^ 62 + 1) one ∷ with_retire_prior_to 2 one
    ∷ with_dcids (count 4) one ∷ with_dcids (item 1 ∷ record { cid = cid 2; seq = 1; token = some token; path = none } ∷ []) one
    ∷ with_dcids (item 1 ∷ record { cid = cid 1; seq = 2; token = some token; path = none } ∷ []) one ∷ with_dcids (bare 1 ∷ []) one
    ∷ with_dcids (record { cid = long_cid; seq = 1; token = some token; path = none } ∷ []) one ∷ with_scids (record { cid = dirty_cid; seq = 0; token = none; path = none } ∷ []) one
    ∷ sevens 129 one ∷ with_dcids_to_retire (replicate 129 7) one ∷ []

pub at_bounds_well : map well at_bounds ≡ replicate 13 true
at_bounds_well = refl

pub broken_not_well : map well broken ≡ replicate 22 false
broken_not_well = refl

-- a call on such a view is 1, and nothing is changed; so is one on what a refused fresh gives
pub broken_refused : map (λ (v : View). apply v (SetScidLimit 5)) (zero_view ∷ broken) ≡ map (refused 1) (zero_view ∷ broken)
broken_refused = refl
