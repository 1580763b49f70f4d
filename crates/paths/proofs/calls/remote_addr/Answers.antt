-- What is seen of the path that was found.
use Rattle.std.specs.Prelude.{refl}
use Rattle.std.proofs.Common.{rules}
use Rattle.paths.specs.CallLaws.{read_map}
use Rattle.paths.specs.Reading as X
use Rattle.paths.specs.Results.{address_result}
use Rattle.paths_rules.specs.Calls.{RemoteAddr}
use Rattle.paths.proofs.calls.remote_addr.Goals as goal

pub returns : goal.returns
returns c = read_map c.args.t c.args.id address_result X.address_of RemoteAddr (λ v. v.pair.remote) refl refl refl (λ x. x.path.now) _ _ _ _ c.found.ensures c.map.ensures.cases c.from.ensures (λ x v k. search rules)
