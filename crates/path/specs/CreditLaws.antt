-- The credit of a path: a sum that stops at the largest.
use Rattle.std.specs.Prelude.{ℕ, ◌+◌, min, ◌≡◌}
use Rattle.std.proofs.Common.{arith}
use Rattle.paths_rules.specs.Path.{top}

-- a product that stops there is as good as the whole one
pub sum_stops : (credit product : ℕ) → min (credit + min product top) top ≡ min (credit + product) top
sum_stops credit product = omega arith
