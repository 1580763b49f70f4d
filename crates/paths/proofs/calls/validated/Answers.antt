-- What is seen of the path that was found.
use Rattle.std.specs.Prelude.{refl}
use Rattle.std.proofs.Common.{rules}
use Rattle.paths.specs.CallLaws.{read_map}
use Rattle.paths.specs.Reading as X
use Rattle.paths_rules.specs.Calls.{Validated}
use Rattle.paths_rules.specs.Path.{validated}
use Rattle.values.specs.Results as Y
use Rattle.paths.proofs.calls.validated.Goals as goal

pub returns : goal.returns
returns c = read_map c.args.t c.args.id Y.flagged_of X.flagged_of Validated validated refl refl refl (λ x. x.path.now) _ _ _ _ c.found.ensures c.map.ensures.cases c.from.ensures (λ x v k. search rules)
