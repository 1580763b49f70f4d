-- The path that was found.
use Rattle.paths.specs.CallLaws.{got}
use Rattle.paths.proofs.calls.get.Goals as goal

pub returns : goal.returns
returns c = got c.args.t c.args.id (λ x. x.path.now) _ _ c.found.ensures c.from.ensures
