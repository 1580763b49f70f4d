-- The path that was found, changed.
use Rattle.std.specs.Prelude.{refl, true}
use Rattle.std.proofs.Common.{rules}
use Rattle.paths.specs.ActLaws.{puts_excused}
use Rattle.paths_rules.specs.Calls.{Credit}
use Rattle.paths.proofs.acts.inc_anti_ampl_limit_at.Goals as goal

pub returns : goal.returns
returns c = puts_excused c.args.t true c.args.id (Credit c.args.length) _ (λ x. x.path.now) _ _ (λ x k. search rules) c.found.ensures c.left_or_excused.ensures refl
