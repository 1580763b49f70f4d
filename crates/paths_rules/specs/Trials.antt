-- docs/RULES.md, "Worked trials", 9 to 15, on the definitions: one table, and one theorem.
use Rattle.std.specs.Prelude.{ℕ, ◌-◌, ◌^◌, ◌≡◌, refl, List, [], ◌∷◌, ◌++◌, map, true, false, length}
use Rattle.std.proofs.Math.Option.{none, some}
use Rattle.paths_rules.specs.Path.{rank_failed, rank_unknown, rank_validating, rank_validating_mtu, rank_validated}
use Rattle.paths_rules.specs.Table.{Table, Out, Answer, Nothing, Inserted, Responded, Number, Maybe, path_at}
use Rattle.paths_rules.specs.Calls.{Call, On, Insert, Timeout, Ask, IdOf, Look, Allowed, Receive, Send, Respond, Credit, Charge, Verify, apply, run}
use Rattle.paths_rules.specs.Words.{pair_a, pair_b, pair_c, server, two}

-- what a trial looks at after its last call: the answer, how many paths, and of path p rank, received, lost and credit
pub record Seen : Type 0 where
  pub refusal : ℕ
  pub answer : Answer
  pub count : ℕ
  pub rank : ℕ
  pub received : List ℕ
  pub lost : ℕ
  pub credit : ℕ

abbrev pub seen : ℕ → Out → Seen
seen p o = record {
  refusal = o.refusal;
  answer = o.answer;
  count = length o.table.paths;
  rank = (path_at p o.table).rank;
  received = (path_at p o.table).received;
  lost = (path_at p o.table).lost;
  credit = (path_at p o.table).credit;
}

-- from a table, the calls before and the last call: what is seen of path p
pub record Row : Type 0 where
  pub trial : ℕ
  pub start : Table
  pub path : ℕ
  pub before : List Call
  pub last : Call
  pub sees : Seen

-- ---- the words of the table

abbrev row : ℕ → Table → ℕ → List Call → Call → Seen → Row
row n t p b c s = record { trial = n; start = t; path = p; before = b; last = c; sees = s }

-- accepted with an answer: count, rank and credit of a path with empty lists and lost count 0
abbrev plain : Answer → ℕ → ℕ → ℕ → Seen
plain a k r c = record { refusal = 0; answer = a; count = k; rank = r; received = []; lost = 0; credit = c }

abbrev sees : Answer → ℕ → List ℕ → ℕ → Seen
sees a r l n = record { refusal = 0; answer = a; count = 2; rank = r; received = l; lost = n; credit = 0 }

abbrev receiving : List ℕ → List Call
receiving l = map (λ (d : ℕ). On 0 (Receive d)) l

-- each challenge sent at the last deadline and timed out at its own: seven of the eight, which end at 25000 x 127
abbrev seven : List Call
seven = On 1 (Send 7 1200 0) ∷ Timeout 25000 ∷ On 1 (Send 6 1200 25000) ∷ Timeout 75000 ∷ On 1 (Send 5 1200 75000) ∷ Timeout 175000 ∷ On 1 (Send 4 1200 175000) ∷ Timeout 375000
    ∷ On 1 (Send 3 1200 375000) ∷ Timeout 775000 ∷ On 1 (Send 2 1200 775000) ∷ Timeout 1575000 ∷ On 1 (Send 1 1200 1575000) ∷ Timeout 3175000 ∷ []

abbrev full : List Call
full = Insert pair_b 1200 ∷ Insert pair_b 1200 ∷ []

-- ---- the table

abbrev pub table : List Row
table =
    row 9 two 1 (On 1 (Send 5 1199 100) ∷ []) (On 1 (Respond 5 300)) (plain (Responded false (200 ∷ [])) 2 rank_validating_mtu 0)
    ∷ row 9 two 1 (On 1 (Send 5 1200 100) ∷ []) (On 1 (Respond 5 300)) (plain (Responded true (200 ∷ [])) 2 rank_validated 0)
    ∷ row 10 two 0 (receiving (1 ∷ 2 ∷ 3 ∷ 4 ∷ 5 ∷ 6 ∷ 7 ∷ [])) (On 0 (Receive 8)) (sees Nothing rank_validated (1 ∷ 2 ∷ 3 ∷ 4 ∷ 5 ∷ 6 ∷ 7 ∷ 8 ∷ []) 0)
    ∷ row 10 two 0 (receiving (1 ∷ 2 ∷ 3 ∷ 4 ∷ 5 ∷ 6 ∷ 7 ∷ 8 ∷ [])) (On 0 (Receive 9)) (sees Nothing rank_validated (2 ∷ 3 ∷ 4 ∷ 5 ∷ 6 ∷ 7 ∷ 8 ∷ 9 ∷ []) 0)
    ∷ row 11 server 0 [] (On 0 (Credit 1200)) (plain Nothing 1 rank_validated 3600)
    ∷ row 11 server 0 (On 0 (Credit 1200) ∷ []) (On 0 (Charge 3600)) (plain Nothing 1 rank_validated 0)
    ∷ row 11 server 0 (On 0 (Credit 1200) ∷ On 0 (Charge 3600) ∷ []) (On 0 (Look (Allowed 5))) (plain (Number 0) 1 rank_validated 0)
    ∷ row 11 server 0 (On 0 (Credit 1200) ∷ On 0 (Charge 3600) ∷ On 0 Verify ∷ []) (On 0 (Look (Allowed 5))) (plain (Number 5) 1 rank_validated 0)
    ∷ row 12 server 0 [] (Ask (IdOf pair_a)) (plain (Maybe (some 0)) 1 rank_validated 0)
    ∷ row 12 server 1 [] (Insert pair_b 1200) (plain (Inserted 1) 2 rank_unknown 0)
    ∷ row 12 server 2 (Insert pair_b 1200 ∷ []) (Insert pair_b 1200) (plain (Inserted 2) 3 rank_unknown 0)
    ∷ row 12 server 2 full (Ask (IdOf pair_b)) (plain (Maybe (some 2)) 3 rank_unknown 0)
    ∷ row 12 server 1 full (Insert pair_c 1200) (plain (Inserted 1) 3 rank_unknown 0)
    ∷ row 12 server 2 (full ++ (Insert pair_c 1200 ∷ [])) (Ask (IdOf pair_b)) (plain (Maybe none) 3 rank_unknown 0)
    ∷ row 12 server 1 (full ++ (Insert pair_c 1200 ∷ [])) (Ask (IdOf pair_c)) (plain (Maybe (some 1)) 3 rank_unknown 0)
    ∷ row 13 two 1 seven (On 1 (Send 0 1200 3175000)) (sees Nothing rank_validating [] 7)
    ∷ row 13 two 1 (seven ++ (On 1 (Send 0 1200 3175000) ∷ [])) (Timeout 6374999) (sees Nothing rank_validating [] 7)
    ∷ row 13 two 1 (seven ++ (On 1 (Send 0 1200 3175000) ∷ [])) (Timeout 6375000) (sees Nothing rank_failed [] 8)
    ∷ row 14 server 0 [] (On 0 (Credit (2 ^ 63))) (plain Nothing 1 rank_validated (2 ^ 64 - 1))
    ∷ row 15 two 1 [] (On 1 (Respond 0 0)) (plain (Responded false []) 2 rank_unknown 0)
    ∷ row 15 two 1 (On 1 (Respond 0 0) ∷ []) (On 1 (Look (Allowed 5))) (plain (Number 0) 2 rank_unknown 0)
    ∷ []

-- ---- the theorem: each row sees what it says

abbrev pub outcome : Row → Seen
outcome r = seen r.path (apply (run r.start r.before) r.last)

abbrev pub expected : Row → Seen
expected r = r.sees

pub trials : map outcome table ≡ map expected table
trials = refl
