-- The table's rule is one computed test over its nine entries; past the table no refusal has the number.
use Rattle.std.specs.Prelude.{ℕ, ◌<◌, ◌≤◌, ◌≡◌, refl, List, [], ◌∷◌, Bool, false, eqb, get_or}
use Rattle.std.proofs.Common.{arith, eqb-true, ne_eqb, rules}
use Rattle.lists.specs.Rule.{rule_at}
use Rattle.values.specs.Refusals.{wire_code_of}
use Rattle.values.proofs.calls.wire_code.Goals as goal

abbrev codes : List ℕ
codes = 1 ∷ 1 ∷ 1 ∷ 9 ∷ 10 ∷ 0 ∷ 1 ∷ 1 ∷ 1 ∷ []

right : ℕ → ℕ → Bool
right n x = eqb x (wire_code_of n)

table_right : (n : ℕ) → n < 9 → get_or codes n 0 ≡ wire_code_of n
unfolding right
table_right n h = eqb-true (get_or codes n 0) (wire_code_of n) (rule_at right codes refl n h)

past_table : (n : ℕ) → 9 ≤ n → 1 ≡ wire_code_of n
past_table n h = simp (apart 1 (omega arith), apart 2 (omega arith), apart 3 (omega arith), apart 4 (omega arith), apart 5 (omega arith), apart 6 (omega arith), apart 7 (omega arith), apart 8 (omega arith))
  where
    apart : (k : ℕ) → k < 9 → eqb k n ≡ false
    apart k q = ne_eqb k n (λ e. omega arith)

pub returns-then-number-lt9 : goal.returns-then-number-lt9
returns-then-number-lt9 c = table_right c.args.number (search rules)

pub returns : goal.returns
returns c = past_table c.args.number (search rules)
