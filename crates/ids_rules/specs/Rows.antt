-- What a call leaves alone, and what it does not look at: rows of every call from views in which no field is as fresh makes it, compared in every field,
-- under each pair of the zero-length marks; fresh with all that it takes; and the largest number wherever a call takes one.
use Rattle.std.specs.Prelude.{ℕ, ◌+◌, ◌-◌, ◌^◌, ◌≡◌, refl, List, [], ◌∷◌, ◌++◌, Bool, true, false, replicate}
use Rattle.std.proofs.Math.Option.{Option, none, some}
use Rattle.values.specs.Cid.{zero_id}
use Rattle.values.specs.Limits.{token_len}
use Rattle.ids_rules.specs.Values.{Item}
use Rattle.ids_rules.specs.View.{View, Nothing, Issued, Freed, Retired, Whole, Maybe, Found, Number, Perhaps, Flag, Frame, refused, accepted}
use Rattle.ids_rules.specs.Steps.{fresh_call}
use Rattle.ids_rules.specs.Calls.{SetInitialDcid, SetScidLimit, AddScid, RetireScid, AddDcid, MarkScidUsed, MarkDcidUsed, MarkScidToAdvertise, MarkDcidToRetire, Ask}
use Rattle.ids_rules.specs.Calls.{GetScid, GetDcid, FindScid, UnusedScids, UnusedDcids, LowestUnusedDcidSeq, NextScidToAdvertise, NextDcidToRetire, CreateNewConnectionIdFrame, NeedSendCidControlFrames, ZeroLengthScid, ZeroLengthDcid, ScidCount, ScidAt, DcidCount, DcidAt}
use Rattle.ids_rules.specs.Bounds.{Row, stays, leaves, says, gives, cid, Computes}

-- ---- the words of the rows

-- a view, its fields in their order: the tables; the limits and the capacity; the two marks; next, own Retire Prior To, the largest; the queues
abbrev of : List Item → List Item → ℕ → ℕ → ℕ → Bool → Bool → ℕ → ℕ → ℕ → List ℕ → List ℕ → View
of scids dcids dcid_limit scid_limit scid_capacity zero_scid zero_dcid next rpt largest advertise retire = record {
  scids = scids;
  dcids = dcids;
  dcid_limit = dcid_limit;
  scid_limit = scid_limit;
  scid_capacity = scid_capacity;
  zero_length_scid = zero_scid;
  zero_length_dcid = zero_dcid;
  next_scid_seq = next;
  retire_prior_to = rpt;
  largest_peer_retire_prior_to = largest;
  scids_to_advertise = advertise;
  dcids_to_retire = retire;
}

abbrev token : ℕ → List ℕ
token n = replicate token_len n

abbrev top : ℕ
top = 2 ^ 64 - 1

-- our item with sequence s, and the peer's: each has an ID and a token that no other has
abbrev ours : ℕ → Option ℕ → Item
ours s p = record { cid = cid (10 + s); seq = s; token = some (token (20 + s)); path = p }

abbrev theirs : ℕ → Option ℕ → Item
theirs s p = record { cid = cid (40 + s); seq = s; token = some (token (60 + s)); path = p }

-- an item that a call puts in place: ID 90, token 91
abbrev put : ℕ → Option ℕ → Item
put s p = record { cid = cid 90; seq = s; token = some (token 91); path = p }

-- in both tables items with a path and without one, sequence 4, and one below the Retire Prior To that concerns the table; in both queues a sequence
-- twice, and one that no table has
abbrev S : List Item
S = ours 2 (some 11) ∷ ours 4 none ∷ ours 5 (some 12) ∷ []

abbrev D : List Item
D = theirs 9 (some 13) ∷ theirs 4 none ∷ theirs 7 (some 14) ∷ theirs 6 none ∷ []

abbrev A : List ℕ
A = 5 ∷ 7 ∷ 4 ∷ 7 ∷ []

abbrev R : List ℕ
R = 4 ∷ 1 ∷ 31 ∷ 4 ∷ []

-- no field is as in a fresh view, but for the marks, which are given; and the same with the table of source items at its limit
abbrev pub many : Bool → Bool → View
many a b = of S D 5 4 9 a b 7 3 5 A R

abbrev pub tight : Bool → Bool → View
tight a b = of S D 5 3 9 a b 7 3 5 A R

-- for each pair of marks
abbrev marks : (Bool → Bool → List Row) → List Row
marks f = f false false ++ f false true ++ f true false ++ f true true

-- ---- calls that look at neither mark

abbrev pub acts : Bool → Bool → List Row
acts a b =
    gives (many a b) (SetScidLimit 6) Nothing (of S D 5 6 11 a b 7 3 5 A R)
    ∷ gives (many a b) (SetScidLimit 2) Nothing (of S D 5 2 9 a b 7 3 5 A R)
    -- the mark of the peer's first ID becomes that of the one given; ours stays
    ∷ gives (many a b) (SetInitialDcid (cid 90) (some (token 91)) (some 15)) Nothing (of S (put 0 (some 15) ∷ []) 5 4 9 a false 7 3 5 A R)
    ∷ gives (many a b) (SetInitialDcid zero_id none none) Nothing (of S (record { cid = zero_id; seq = 0; token = none; path = none } ∷ []) 5 4 9 a true 7 3 5 A R)
    -- not issued; absent; in use, unused, below own Retire Prior To; the packet's own
    ∷ stays (many a b) (RetireScid 7 (cid 99)) 4
    ∷ says (many a b) (RetireScid 3 (cid 99)) (Freed none)
    ∷ gives (many a b) (RetireScid 5 (cid 99)) (Freed (some 12)) (of (ours 2 (some 11) ∷ ours 4 none ∷ []) D 5 4 9 a b 7 4 5 A R)
    ∷ gives (many a b) (RetireScid 4 (cid 99)) (Freed none) (of (ours 2 (some 11) ∷ ours 5 (some 12) ∷ []) D 5 4 9 a b 7 5 5 A R)
    ∷ gives (many a b) (RetireScid 2 (cid 99)) (Freed (some 11)) (of (ours 4 none ∷ ours 5 (some 12) ∷ []) D 5 4 9 a b 7 4 5 A R)
    ∷ leaves (many a b) (RetireScid 4 (cid 14)) 4 (of (ours 2 (some 11) ∷ ours 5 (some 12) ∷ []) D 5 4 9 a b 7 3 5 A R)
    ∷ leaves (of S D 5 4 9 a b 7 6 5 A R) (RetireScid 4 (cid 99)) 2 (of (ours 2 (some 11) ∷ ours 5 (some 12) ∷ []) D 5 4 9 a b 7 6 5 A R)
    ∷ stays (of (ours 4 none ∷ []) D 5 4 9 a b 7 3 5 A R) (RetireScid 4 (cid 99)) 2
    -- a sequence of both tables, one on a path already, a path that another item is on; a sequence of the other table alone
    ∷ gives (many a b) (MarkScidUsed 4 15) Nothing (of (ours 2 (some 11) ∷ ours 4 (some 15) ∷ ours 5 (some 12) ∷ []) D 5 4 9 a b 7 3 5 A R)
    ∷ gives (many a b) (MarkScidUsed 2 15) Nothing (of (ours 2 (some 15) ∷ ours 4 none ∷ ours 5 (some 12) ∷ []) D 5 4 9 a b 7 3 5 A R)
    ∷ gives (many a b) (MarkScidUsed 4 11) Nothing (of (ours 2 (some 11) ∷ ours 4 (some 11) ∷ ours 5 (some 12) ∷ []) D 5 4 9 a b 7 3 5 A R)
    ∷ stays (many a b) (MarkScidUsed 9 15) 2
    ∷ gives (many a b) (MarkDcidUsed 4 15) Nothing (of S (theirs 9 (some 13) ∷ theirs 4 (some 15) ∷ theirs 7 (some 14) ∷ theirs 6 none ∷ []) 5 4 9 a b 7 3 5 A R)
    ∷ gives (many a b) (MarkDcidUsed 7 15) Nothing (of S (theirs 9 (some 13) ∷ theirs 4 none ∷ theirs 7 (some 15) ∷ theirs 6 none ∷ []) 5 4 9 a b 7 3 5 A R)
    ∷ gives (many a b) (MarkDcidUsed 4 13) Nothing (of S (theirs 9 (some 13) ∷ theirs 4 (some 13) ∷ theirs 7 (some 14) ∷ theirs 6 none ∷ []) 5 4 9 a b 7 3 5 A R)
    ∷ stays (many a b) (MarkDcidUsed 5 15) 2
    -- to the end of its own queue, and out of it alone
    ∷ gives (many a b) (MarkScidToAdvertise 4 true) Nothing (of S D 5 4 9 a b 7 3 5 (5 ∷ 7 ∷ 4 ∷ 7 ∷ 4 ∷ []) R)
    ∷ gives (many a b) (MarkScidToAdvertise 4 false) Nothing (of S D 5 4 9 a b 7 3 5 (5 ∷ 7 ∷ 7 ∷ []) R)
    ∷ stays (of S D 5 4 9 a b 7 3 5 (replicate 128 7) R) (MarkScidToAdvertise 4 true) 6
    ∷ gives (of S D 5 4 9 a b 7 3 5 A (replicate 128 7)) (MarkScidToAdvertise 4 true) Nothing (of S D 5 4 9 a b 7 3 5 (5 ∷ 7 ∷ 4 ∷ 7 ∷ 4 ∷ []) (replicate 128 7))
    ∷ gives (many a b) (MarkDcidToRetire 4 true) Nothing (of S D 5 4 9 a b 7 3 5 A (4 ∷ 1 ∷ 31 ∷ 4 ∷ 4 ∷ []))
    ∷ gives (many a b) (MarkDcidToRetire 4 false) Nothing (of S D 5 4 9 a b 7 3 5 A (1 ∷ 31 ∷ []))
    ∷ stays (of S D 5 4 9 a b 7 3 5 A (replicate 128 7)) (MarkDcidToRetire 4 true) 6
    ∷ gives (of S D 5 4 9 a b 7 3 5 (replicate 128 7) R) (MarkDcidToRetire 4 true) Nothing (of S D 5 4 9 a b 7 3 5 (replicate 128 7) (4 ∷ 1 ∷ 31 ∷ 4 ∷ 4 ∷ []))
    ∷ []

pub marks_compute : Computes (marks acts)
marks_compute = refl

-- ---- add_scid looks at our mark, add_dcid at the peer's: the other changes nothing

abbrev pub adds_ours : Bool → List Row
adds_ours b =
    stays (many true b) (AddScid (cid 90) (some (token 91)) true (some 15) true) 2
    -- below the limit, with advertise and without
    ∷ gives (many false b) (AddScid (cid 90) (some (token 91)) true (some 15) true) (Issued 7) (of (S ++ (put 7 (some 15) ∷ [])) D 5 4 9 false b 8 3 5 (5 ∷ 7 ∷ 4 ∷ 7 ∷ 7 ∷ []) R)
    ∷ gives (many false b) (AddScid (cid 90) (some (token 91)) false none false) (Issued 7) (of (S ++ (put 7 none ∷ [])) D 5 4 9 false b 8 3 5 (5 ∷ 4 ∷ []) R)
    -- a path, a token and an ID that another item has
    ∷ gives (many false b) (AddScid (cid 14) (some (token 24)) false (some 11) false) (Issued 7)
    (of (S ++ (record { cid = cid 14; seq = 7; token = some (token 24); path = some 11 } ∷ [])) D 5 4 9 false b 8 3 5 (5 ∷ 4 ∷ []) R)
    ∷ stays (many false b) (AddScid (cid 90) none true (some 15) true) 2
    -- at the limit: 3 without leave; with leave own Retire Prior To is raised, also where it is then 2 or 3, and not where it is 6
    ∷ stays (tight false b) (AddScid (cid 90) (some (token 91)) true (some 15) false) 3
    ∷ gives (tight false b) (AddScid (cid 90) (some (token 91)) true (some 15) true) (Issued 7) (of (S ++ (put 7 (some 15) ∷ [])) D 5 3 9 false b 8 5 5 (5 ∷ 7 ∷ 4 ∷ 7 ∷ 7 ∷ []) R)
    ∷ leaves (tight false b) (AddScid (cid 90) none true (some 15) true) 2 (of S D 5 3 9 false b 7 5 5 A R)
    ∷ leaves (of S D 5 2 3 false b 7 3 5 A R) (AddScid (cid 90) (some (token 91)) true (some 15) true) 3 (of S D 5 2 3 false b 7 5 5 A R)
    ∷ stays (of S D 5 3 9 false b 7 3 5 (replicate 128 7) R) (AddScid (cid 90) (some (token 91)) true (some 15) true) 6
    ∷ stays (of S D 5 4 9 false b (2 ^ 62) 3 5 A R) (AddScid (cid 90) (some (token 91)) true (some 15) true) 7
    ∷ stays (of S D 5 3 9 false b 7 6 5 A R) (AddScid (cid 90) (some (token 91)) true (some 15) true) 2
    ∷ []

abbrev pub adds_theirs : Bool → List Row
adds_theirs a =
    stays (many a true) (AddDcid (cid 90) 10 (token 91) 8) 4
    -- added; with a raised Retire Prior To; late and not queued, late and queued; queued and not late
    ∷ gives (many a false) (AddDcid (cid 90) 10 (token 91) 0) (Retired []) (of S (D ++ (put 10 none ∷ [])) 5 4 9 a false 7 3 5 A R)
    ∷ gives (many a false) (AddDcid (cid 90) 10 (token 91) 8) (Retired (record { seq = 7; path = 14 } ∷ [])) (of S (theirs 9 (some 13) ∷ put 10 none ∷ []) 5 4 9 a false 7 3 8 A (4 ∷ 1 ∷ 31 ∷ 4 ∷ 4 ∷ 7 ∷ 6 ∷ []))
    ∷ gives (many a false) (AddDcid (cid 90) 0 (token 91) 0) (Retired []) (of S D 5 4 9 a false 7 3 5 A (4 ∷ 1 ∷ 31 ∷ 4 ∷ 0 ∷ []))
    ∷ says (many a false) (AddDcid (cid 90) 1 (token 91) 0) (Retired [])
    ∷ gives (many a false) (AddDcid (cid 90) 31 (token 91) 0) (Retired []) (of S (D ++ (put 31 none ∷ [])) 5 4 9 a false 7 3 5 A R)
    -- a repeat of an item in use, with a path and a higher Retire Prior To; another token; the token of another ID, of ours, an ID of ours
    ∷ says (many a false) (AddDcid (cid 47) 7 (token 67) 7) (Retired [])
    ∷ stays (many a false) (AddDcid (cid 47) 7 (token 66) 7) 4
    ∷ gives (many a false) (AddDcid (cid 12) 10 (token 64) 0) (Retired []) (of S (D ++ (record { cid = cid 12; seq = 10; token = some (token 64); path = none } ∷ [])) 5 4 9 a false 7 3 5 A R)
    ∷ gives (many a false) (AddDcid (cid 90) 5 (token 22) 0) (Retired []) (of S (D ++ (record { cid = cid 90; seq = 5; token = some (token 22); path = none } ∷ [])) 5 4 9 a false 7 3 5 A R)
    -- Retire Prior To above the sequence; full; too many to retire, late and raised; 128
    ∷ stays (many a false) (AddDcid (cid 90) 10 (token 91) 11) 4
    ∷ stays (of S (theirs 9 (some 13) ∷ theirs 4 none ∷ theirs 7 (some 14) ∷ []) 2 4 9 a false 7 3 5 A R) (AddDcid (cid 90) 10 (token 91) 0) 3
    ∷ leaves (of S (theirs 9 (some 13) ∷ theirs 8 none ∷ theirs 7 (some 14) ∷ []) 2 4 9 a false 7 3 5 A R) (AddDcid (cid 90) 10 (token 91) 6) 3
    (of S (theirs 9 (some 13) ∷ theirs 8 none ∷ theirs 7 (some 14) ∷ []) 2 4 9 a false 7 3 6 A R)
    ∷ leaves (of S D 5 4 9 a false 7 3 5 A (replicate 20 31)) (AddDcid (cid 90) 0 (token 91) 0) 4 (of S D 5 4 9 a false 7 3 5 A (replicate 20 31 ++ (0 ∷ [])))
    ∷ leaves (of S D 5 4 9 a false 7 3 5 A (replicate 20 31)) (AddDcid (cid 90) 10 (token 91) 6) 4
    (of S (theirs 9 (some 13) ∷ theirs 7 (some 14) ∷ theirs 6 none ∷ []) 5 4 9 a false 7 3 6 A (replicate 20 31 ++ (4 ∷ [])))
    ∷ stays (of S D 5 4 9 a false 7 3 5 A (replicate 128 31)) (AddDcid (cid 90) 0 (token 91) 0) 6
    ∷ stays (of S D 5 4 9 a false 7 3 5 A (replicate 128 31)) (AddDcid (cid 90) 10 (token 91) 6) 6
    -- a token that is absent is not one of zeros
    ∷ stays (of S (record { cid = cid 40; seq = 0; token = none; path = some 13 } ∷ []) 5 4 9 a false 7 3 5 A R) (AddDcid (cid 40) 0 (token 0) 0) 4
    ∷ []

pub add_rows : Computes (adds_ours false ++ adds_ours true ++ adds_theirs false ++ adds_theirs true)
add_rows = refl

-- ---- reads, under each pair of marks

abbrev pub reads : Bool → Bool → List Row
reads a b =
    says (many a b) (Ask (GetScid 4)) (Whole (ours 4 none))
    ∷ says (many a b) (Ask (GetScid 2)) (Whole (ours 2 (some 11)))
    ∷ stays (many a b) (Ask (GetScid 9)) 2
    ∷ says (many a b) (Ask (GetDcid 4)) (Whole (theirs 4 none))
    ∷ stays (many a b) (Ask (GetDcid 5)) 2
    ∷ says (many a b) (Ask (FindScid (cid 15))) (Found 5 (some 12))
    ∷ says (many a b) (Ask (FindScid (cid 44))) Nothing
    ∷ says (many a b) (Ask (FindScid zero_id)) Nothing
    ∷ says (many a b) (Ask UnusedScids) (Number 1)
    ∷ says (of (ours 2 none ∷ ours 4 none ∷ ours 5 (some 12) ∷ []) D 5 4 9 a b 7 3 5 A R) (Ask UnusedScids) (Number 2)
    ∷ says (many a b) (Ask LowestUnusedDcidSeq) (Perhaps (some 4))
    ∷ says (many a b) (Ask NextScidToAdvertise) (Perhaps (some 5))
    ∷ says (many a b) (Ask NextDcidToRetire) (Perhaps (some 4))
    ∷ says (many a b) (Ask (CreateNewConnectionIdFrame 2)) (Frame 2 3 (cid 12) (token 22))
    ∷ says (many a b) (Ask (CreateNewConnectionIdFrame 4)) (Frame 4 3 (cid 14) (token 24))
    ∷ stays (many a b) (Ask (CreateNewConnectionIdFrame 9)) 2
    ∷ says (many a b) (Ask NeedSendCidControlFrames) (Flag true)
    ∷ says (of S D 5 4 9 a b 7 3 5 A []) (Ask NeedSendCidControlFrames) (Flag true)
    ∷ says (of S D 5 4 9 a b 7 3 5 [] R) (Ask NeedSendCidControlFrames) (Flag true)
    ∷ says (of S D 5 4 9 a b 7 3 5 [] []) (Ask NeedSendCidControlFrames) (Flag false)
    ∷ says (of S D 5 4 9 a b 7 3 5 [] R) (Ask NextScidToAdvertise) (Perhaps none)
    ∷ says (of S D 5 4 9 a b 7 3 5 A []) (Ask NextDcidToRetire) (Perhaps none)
    ∷ says (many a b) (Ask ZeroLengthScid) (Flag a)
    ∷ says (many a b) (Ask ZeroLengthDcid) (Flag b)
    ∷ says (many a b) (Ask ScidCount) (Number 3)
    ∷ says (many a b) (Ask (ScidAt 1)) (Maybe (some (ours 4 none)))
    ∷ says (many a b) (Ask (ScidAt 3)) (Maybe none)
    ∷ says (many a b) (Ask DcidCount) (Number 4)
    ∷ says (many a b) (Ask (DcidAt 3)) (Maybe (some (theirs 6 none)))
    ∷ says (many a b) (Ask (DcidAt 4)) (Maybe none)
    ∷ []

pub read_rows : Computes (marks reads)
read_rows = refl

-- the one read that looks at a mark: the peer's
pub unused_rows : Computes (
    says (many false false) (Ask UnusedDcids) (Number 2)
    ∷ says (many true false) (Ask UnusedDcids) (Number 2)
    ∷ says (many false true) (Ask UnusedDcids) (Number 0)
    ∷ says (many true true) (Ask UnusedDcids) (Number 0)
    ∷ [])
unused_rows = refl

-- ---- fresh with path 7 and a token; with an empty ID; with the largest path; with the largest limit

pub fresh_rows : fresh_call 5 (cid 90) 7 (some (token 91)) ∷ fresh_call 5 zero_id 7 (some (token 91)) ∷ fresh_call 5 (cid 90) top none ∷ fresh_call top (cid 90) 7 (some (token 91)) ∷ []
    ≡ accepted Nothing (of (put 0 (some 7) ∷ []) [] 5 2 3 false false 1 0 0 [] [])
    ∷ accepted Nothing (of (record { cid = zero_id; seq = 0; token = some (token 91); path = some 7 } ∷ []) [] 5 2 3 true false 1 0 0 [] [])
    ∷ accepted Nothing (of (record { cid = cid 90; seq = 0; token = none; path = some top } ∷ []) [] 5 2 3 false false 1 0 0 [] [])
    ∷ refused 1 (of [] [] 0 0 0 false false 0 0 0 [] [])
    ∷ []
fresh_rows = refl

-- ---- 2^64 - 1, wherever a call takes a number, with a view that holds it wherever the peer or the host puts it

abbrev far : Item
far = record { cid = cid 80; seq = top; token = some (token 81); path = some top }

abbrev pub high : View
high = of (ours 2 (some top) ∷ ours 4 none ∷ []) (far ∷ theirs 4 none ∷ []) 5 4 9 false false 7 3 5 (top ∷ 4 ∷ []) (top ∷ 4 ∷ [])

abbrev pub top_rows : List Row
top_rows =
    gives (many false false) (SetInitialDcid (cid 90) (some (token 91)) (some top)) Nothing (of S (put 0 (some top) ∷ []) 5 4 9 false false 7 3 5 A R)
    ∷ gives (many false false) (SetScidLimit top) Nothing (of S D 5 16 31 false false 7 3 5 A R)
    ∷ gives (many false false) (AddScid (cid 90) (some (token 91)) false (some top) false) (Issued 7) (of (S ++ (put 7 (some top) ∷ [])) D 5 4 9 false false 8 3 5 (5 ∷ 4 ∷ []) R)
    ∷ stays (many false false) (RetireScid top (cid 99)) 4
    ∷ gives high (RetireScid 2 (cid 99)) (Freed (some top)) (of (ours 4 none ∷ []) (far ∷ theirs 4 none ∷ []) 5 4 9 false false 7 4 5 (top ∷ 4 ∷ []) (top ∷ 4 ∷ []))
    ∷ gives (many false false) (AddDcid (cid 90) top (token 91) 0) (Retired []) (of S (D ++ (put top none ∷ [])) 5 4 9 false false 7 3 5 A R)
    ∷ gives (many false false) (AddDcid (cid 90) top (token 91) top) (Retired (record { seq = 9; path = 13 } ∷ record { seq = 7; path = 14 } ∷ []))
    (of S (put top none ∷ []) 5 4 9 false false 7 3 top A (4 ∷ 1 ∷ 31 ∷ 4 ∷ 9 ∷ 4 ∷ 7 ∷ 6 ∷ []))
    ∷ stays (many false false) (AddDcid (cid 90) 10 (token 91) top) 4
    ∷ says high (AddDcid (cid 80) top (token 81) top) (Retired [])
    ∷ gives high (AddDcid (cid 90) 10 (token 91) 10) (Retired []) (of (ours 2 (some top) ∷ ours 4 none ∷ []) (far ∷ put 10 none ∷ []) 5 4 9 false false 7 3 10 (top ∷ 4 ∷ []) (top ∷ 4 ∷ 4 ∷ []))
    ∷ stays (many false false) (MarkScidUsed top 15) 2
    ∷ gives (many false false) (MarkScidUsed 4 top) Nothing (of (ours 2 (some 11) ∷ ours 4 (some top) ∷ ours 5 (some 12) ∷ []) D 5 4 9 false false 7 3 5 A R)
    ∷ stays (many false false) (MarkDcidUsed top 15) 2
    ∷ gives high (MarkDcidUsed top 15) Nothing
    (of (ours 2 (some top) ∷ ours 4 none ∷ []) (record { cid = cid 80; seq = top; token = some (token 81); path = some 15 } ∷ theirs 4 none ∷ []) 5 4 9 false false 7 3 5 (top ∷ 4 ∷ []) (top ∷ 4 ∷ []))
    ∷ gives high (MarkDcidUsed 4 top) Nothing (of (ours 2 (some top) ∷ ours 4 none ∷ []) (far ∷ theirs 4 (some top) ∷ []) 5 4 9 false false 7 3 5 (top ∷ 4 ∷ []) (top ∷ 4 ∷ []))
    ∷ gives (many false false) (MarkScidToAdvertise top true) Nothing (of S D 5 4 9 false false 7 3 5 (5 ∷ 7 ∷ 4 ∷ 7 ∷ top ∷ []) R)
    ∷ gives high (MarkScidToAdvertise top false) Nothing (of (ours 2 (some top) ∷ ours 4 none ∷ []) (far ∷ theirs 4 none ∷ []) 5 4 9 false false 7 3 5 (4 ∷ []) (top ∷ 4 ∷ []))
    ∷ gives (many false false) (MarkDcidToRetire top true) Nothing (of S D 5 4 9 false false 7 3 5 A (4 ∷ 1 ∷ 31 ∷ 4 ∷ top ∷ []))
    ∷ gives high (MarkDcidToRetire top false) Nothing (of (ours 2 (some top) ∷ ours 4 none ∷ []) (far ∷ theirs 4 none ∷ []) 5 4 9 false false 7 3 5 (top ∷ 4 ∷ []) (4 ∷ []))
    ∷ stays (many false false) (Ask (GetScid top)) 2
    ∷ stays (many false false) (Ask (GetDcid top)) 2
    ∷ says high (Ask (GetDcid top)) (Whole far)
    ∷ stays (many false false) (Ask (CreateNewConnectionIdFrame top)) 2
    ∷ says (many false false) (Ask (ScidAt top)) (Maybe none)
    ∷ says (many false false) (Ask (DcidAt top)) (Maybe none)
    ∷ says high (Ask (FindScid (cid 12))) (Found 2 (some top))
    ∷ says high (Ask NextScidToAdvertise) (Perhaps (some top))
    ∷ says high (Ask NextDcidToRetire) (Perhaps (some top))
    ∷ []

pub top_rows_lem : Computes top_rows
top_rows_lem = refl
