-- The path that was found, changed.
use Rattle.std.specs.Prelude.{refl, true}
use Rattle.std.proofs.Common.{rules}
use Rattle.paths.specs.ActLaws.{puts}
use Rattle.paths_rules.specs.Calls.{Verify}
use Rattle.paths.proofs.acts.mark_verified_at.Goals as goal

pub returns : goal.returns
returns c = puts c.args.t true c.args.id Verify _ (λ x. x.path.now) _ _ (λ x k. search rules) c.found.ensures c.left.ensures refl
