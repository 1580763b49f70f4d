-- What is seen of the path that was found.
use Rattle.std.specs.Prelude.{refl}
use Rattle.std.proofs.Common.{rules}
use Rattle.paths.specs.CallLaws.{read_map}
use Rattle.paths.specs.Reading as X
use Rattle.paths_rules.specs.Calls.{NeedsFrames}
use Rattle.paths_rules.specs.Path.{needs_frames}
use Rattle.values.specs.Results as Y
use Rattle.paths.proofs.calls.need_send_validation_frames.Goals as goal

pub returns : goal.returns
returns c = read_map c.args.t c.args.id Y.flagged_of X.flagged_of NeedsFrames (needs_frames c.args.t.is_server) refl refl refl (λ x. x.path.now) _ _ _ _ c.found.ensures c.map.ensures.cases c.from.ensures (λ x v k. search rules)
