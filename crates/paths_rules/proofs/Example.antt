-- Periods with both totals above 0, by computation: the premises of the law of the allowance hold, and its numbers come out.
use Rattle.std.specs.Prelude.{ℕ, ◌-◌, ◌*◌, ◌^◌, ◌≤◌, ◌≡◌, refl, List, [], ◌∷◌, Bool, true, false, cond, ◌||◌, eqb}
use Rattle.std.proofs.Common.{sym, ap, ◌∙◌, arith, eq-eqb}
use Rattle.std.proofs.Math.Option.{none, some}
use Rattle.paths_rules.specs.Table.{Table, Answer, Nothing, Inserted, Responded, Number, Flag, Maybe, Place, Whole, Found, path_at, fresh}
use Rattle.paths_rules.specs.Calls.{Call, On, Insert, Timeout, Ping, Ask, Len, Look, Get, Allowed, Receive, Send, Respond, Credit, Charge, SetDcid, SetActive}
use Rattle.paths_rules.specs.Calls.{Verify, apply, after, run}
use Rattle.paths_rules.specs.Promise.{starts, total_credit, total_charge, Lasts, Within, Begins, first, inserted}
use Rattle.paths_rules.proofs.Promised.{demand3}
use Rattle.paths_rules.specs.Words.{pair_a, pair_b, pair_c, server}

-- ---- a test that computes whether a period lasts

abbrev answered : ℕ → Answer → Bool
answered p Nothing = false
answered p (Inserted q) = eqb q p
answered p (Responded b l) = false
answered p (Number n) = false
answered p (Flag b) = false
answered p (Maybe o) = false
answered p (Place a) = false
answered p (Whole x) = false
answered p (Found q x) = false

abbrev pub lasting : ℕ → Table → List Call → Bool
lasting p t [] = true
lasting p t (c ∷ cs) = cond ((path_at p t).verified || answered p (apply t c).answer) false (lasting p (after t c) cs)

pub lasting_is : (p : ℕ) (cs : List Call) (t : Table) → lasting p t cs ≡ true → Lasts p t cs
lasting_is p [] t e = tt
lasting_is p (c ∷ cs) t e = test (path_at p t).verified (answered p (apply t c).answer) refl refl (lasting_is p cs (after t c)) e
  where
    test : (u v : Bool) → (path_at p t).verified ≡ u → answered p (apply t c).answer ≡ v → (lasting p (after t c) cs ≡ true → Lasts p (after t c) cs)
        → cond (u || v) false (lasting p (after t c) cs) ≡ true → Lasts p t (c ∷ cs)
    test true v h k r e = let z : ◌≡◌ {A = ℕ} 0 1 = cc in absurd (omega arith)
    test false true h k r e = let z : ◌≡◌ {A = ℕ} 0 1 = cc in absurd (omega arith)
    test false false h k r e =
        (h, λ a. (let w : true ≡ false = sym (eq-eqb p p refl) ∙ sym (ap (answered p) a) ∙ k in let z : ◌≡◌ {A = ℕ} 0 1 = cc in omega arith), r e)

-- ---- a period that an insertion begins, after an eviction: the evicted path had credit. Three of its calls are refused: a challenge whose moment is
-- past 2^63-1, a read of an unknown path, and an insertion with no path unused

abbrev before : List Call
before = On 0 (Credit 5) ∷ Insert pair_b 1200 ∷ Insert pair_b 1200 ∷ On 1 (Credit 100) ∷ []

abbrev pub table : Table
table = after (run server before) (Insert pair_c 1200)

pub begins : Begins 3 1 table
begins = inserted server (starts pair_a 1200 3 refl) before pair_c 1200 1 refl

abbrev pub calls : List Call
calls = On 1 (SetDcid (some 4)) ∷ On 1 (Credit 1200) ∷ On 2 (Credit 4) ∷ On 1 (Charge 1000) ∷ On 1 (Send 77 1200 50) ∷ On 1 (Send 78 1200 (2 ^ 63)) ∷ Timeout 25050
    ∷ On 1 (Receive 5) ∷ On 0 Verify ∷ Ping none ∷ On 1 (Credit 1) ∷ On 1 (Charge 2603) ∷ On 7 (Look Get) ∷ On 2 (SetActive true) ∷ Insert pair_a 1200 ∷ Ask Len
    ∷ On 1 (Look (Allowed 5)) ∷ On 1 (Credit 10) ∷ []

pub lasts : Lasts 1 table calls
lasts = lasting_is 1 calls table refl

pub within : Within 1 table calls
within = omega arith

pub totals : (total_credit 1 calls ≡ 1211) × (total_charge 1 calls ≡ 3603) × ((path_at 1 (run table calls)).credit ≡ 30)
totals = (refl, refl, refl)

pub concluded : (total_charge 1 calls ≤ 3 * total_credit 1 calls) × ((path_at 1 (run table calls)).credit ≡ 30)
concluded = let d = demand3 3 1 table begins calls lasts within in (d.0, d.1 (omega arith))

-- ---- the first period, path 0 of a fresh table

abbrev pub first_calls : List Call
first_calls = On 0 (Credit 400) ∷ On 0 (Charge 1000) ∷ On 1 (Charge 9) ∷ On 0 (Respond 5 0) ∷ On 0 (Charge 200) ∷ []

pub first_lasts : Lasts 0 server first_calls
first_lasts = lasting_is 0 first_calls server refl

pub first_concluded : (total_charge 0 first_calls ≤ 3 * total_credit 0 first_calls) × ((path_at 0 (run server first_calls)).credit ≡ 0)
first_concluded = let d = demand3 3 0 server (first server (starts pair_a 1200 3 refl)) first_calls first_lasts (omega arith) in (d.0, d.1 (omega arith))

-- ---- factor x credited passes 2^64: the credit stops at 2^64-1, the first conclusion holds, and the second asks nothing

abbrev pub large_calls : List Call
large_calls = On 0 (Credit (2 ^ 63)) ∷ On 0 (Credit 1) ∷ On 0 (Charge (2 ^ 64 - 2)) ∷ []

pub large_lasts : Lasts 0 server large_calls
large_lasts = lasting_is 0 large_calls server refl

pub large : (3 * total_credit 0 large_calls ≡ 27670116110564327427) × (total_charge 0 large_calls ≡ 18446744073709551614) × ((path_at 0 (run server large_calls)).credit ≡ 1)
large = (refl, refl, refl)

pub large_concluded : total_charge 0 large_calls ≤ 3 * total_credit 0 large_calls
large_concluded = (demand3 3 0 server (first server (starts pair_a 1200 3 refl)) large_calls large_lasts (omega arith)).0

-- ---- factor x credited is exactly 2^64-1: both conclusions hold, and the last byte may be charged

abbrev pub edge_calls : List Call
edge_calls = On 0 (Credit 6148914691236517204) ∷ On 0 (Credit 1) ∷ On 0 (Charge (2 ^ 64 - 2)) ∷ []

pub edge_lasts : Lasts 0 server edge_calls
edge_lasts = lasting_is 0 edge_calls server refl

pub edge : (3 * total_credit 0 edge_calls ≡ 2 ^ 64 - 1) × (total_charge 0 edge_calls ≡ 2 ^ 64 - 2)
edge = (refl, refl)

pub edge_concluded : (total_charge 0 edge_calls ≤ 3 * total_credit 0 edge_calls) × ((path_at 0 (run server edge_calls)).credit ≡ 1)
edge_concluded = let d = demand3 3 0 server (first server (starts pair_a 1200 3 refl)) edge_calls edge_lasts (omega arith) in (d.0, d.1 (omega arith))

-- ---- and with factor 4 exactly 2^64: the first holds still, and the second no longer, since the credit stopped at 2^64-1

abbrev pub quick : Table
quick = fresh pair_a 1200 3 4 true

abbrev pub over_calls : List Call
over_calls = On 0 (Credit (2 ^ 62 - 1)) ∷ On 0 (Credit 1) ∷ On 0 (Charge (2 ^ 64 - 2)) ∷ []

pub over_lasts : Lasts 0 quick over_calls
over_lasts = lasting_is 0 over_calls quick refl

pub over : (4 * total_credit 0 over_calls ≡ 2 ^ 64) × (4 * total_credit 0 over_calls - total_charge 0 over_calls ≡ 2) × ((path_at 0 (run quick over_calls)).credit ≡ 1)
over = (refl, refl, refl)

pub over_concluded : total_charge 0 over_calls ≤ 4 * total_credit 0 over_calls
over_concluded = (demand3 4 0 quick (first quick (starts pair_a 1200 3 refl)) over_calls over_lasts (omega arith)).0
