-- The rank of each state.
use Rattle.std.specs.Prelude.{ℕ}
use Rattle.paths_rules.specs.Path.{rank_failed, rank_unknown, rank_validated, rank_validating, rank_validating_mtu}
use Rattle.path.specs.declared.states.PathState.{PathState}
use Rattle.path.specs.declared.states.PathState.TheVariants.{Failed, Unknown, Validated, Validating, ValidatingMtu}

abbrev pub rank : PathState → ℕ
rank Failed = rank_failed
rank Unknown = rank_unknown
rank Validating = rank_validating
rank ValidatingMtu = rank_validating_mtu
rank Validated = rank_validated
