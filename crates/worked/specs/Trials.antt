-- docs/RULES.md, "Worked trials", 1 to 15: one table over both sets of rules, one theorem that every row computes, and that no trial is missing.
use Rattle.std.specs.Prelude.{ℕ, ◌≡◌, refl, List, [], ◌∷◌, ◌++◌, map, true}
use Rattle.lists.specs.Defs.{all, has}
use Rattle.ids_rules.specs.Trials as I
use Rattle.paths_rules.specs.Trials as P

-- a row of the IDs or of the paths, and what it sees
pub data Row : Type 0 where
  OfIds : I.Row → Row
  OfPaths : P.Row → Row

pub data Seen : Type 0 where
  SeenIds : I.Seen → Seen
  SeenPaths : P.Seen → Seen

abbrev pub table : List Row
table = map OfIds I.table ++ map OfPaths P.table

abbrev pub outcome : Row → Seen
outcome (OfIds r) = SeenIds (I.outcome r)
outcome (OfPaths r) = SeenPaths (P.outcome r)

abbrev pub expected : Row → Seen
expected (OfIds r) = SeenIds (I.expected r)
expected (OfPaths r) = SeenPaths (P.expected r)

-- every row of the table computes to what it says
pub trials : map outcome table ≡ map expected table
trials = refl

-- the trial that a row belongs to
abbrev pub number : Row → ℕ
number (OfIds r) = r.trial
number (OfPaths r) = r.trial

-- each trial has a row
pub complete : all (λ (n : ℕ). has n (map number table)) (1 ∷ 2 ∷ 3 ∷ 4 ∷ 5 ∷ 6 ∷ 7 ∷ 8 ∷ 9 ∷ 10 ∷ 11 ∷ 12 ∷ 13 ∷ 14 ∷ 15 ∷ []) ≡ true
complete = refl
