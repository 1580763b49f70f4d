-- A period of the code with both totals above 0, by computation: the premises of the law of the allowance hold, and its numbers come out.
use Rattle.std.specs.Prelude.{◌*◌, ◌≤◌, ◌≡◌, refl, List, [], ◌∷◌, true, false}
use Rattle.std.proofs.Common.{arith}
use Rattle.paths_rules.specs.Words.{pair_a, pair_b, pair_c}
use Rattle.paths_state.specs.declared.state.Paths.{Paths}
use Rattle.paths.specs.Runs.{CodeCall, InsertPath, IncAntiAmplLimit, DecAntiAmplLimit, SetScidSeq, MarkVerified, fresh_paths, started, made, calls, allowance, total_credit, total_charge, Lasts, Within, Begins, inserted}
use Rattle.paths.specs.RunsProof.{demand3, some_not_none}

-- an insertion begins it, after an eviction: the evicted path had credit
abbrev server : Paths
server = (fresh_paths pair_a 1200 3 3 true).paths

abbrev before : List CodeCall
before = IncAntiAmplLimit 0 5 ∷ InsertPath pair_b 1200 ∷ InsertPath pair_b 1200 ∷ IncAntiAmplLimit 1 100 ∷ []

abbrev pub state : Paths
state = made (calls server before) (InsertPath pair_c 1200)

pub begins : Begins 3 1 state
begins = inserted server (started pair_a 1200 3 refl) before pair_c 1200 1 refl

-- one of its calls is refused: an absent sequence that is not 0
abbrev pub period : List CodeCall
period = IncAntiAmplLimit 1 1200 ∷ DecAntiAmplLimit 2 4 ∷ SetScidSeq 1 false 7 ∷ DecAntiAmplLimit 1 1000 ∷ MarkVerified 0 ∷ DecAntiAmplLimit 1 2500 ∷ []

pub lasts : Lasts 1 state period
lasts = (refl, some_not_none, (refl, some_not_none, (refl, some_not_none, (refl, some_not_none, (refl, some_not_none, (refl, some_not_none, tt))))))

pub within : Within 1 state period
within = omega arith

pub totals : (total_credit 1 period ≡ 1200) × (total_charge 1 period ≡ 3500) × (allowance 1 (calls state period) ≡ 100)
totals = (refl, refl, refl)

pub concluded : (total_charge 1 period ≤ 3 * total_credit 1 period) × (allowance 1 (calls state period) ≡ 100)
concluded = let d = demand3 3 1 state begins period lasts within in (d.0, d.1 (omega arith))
