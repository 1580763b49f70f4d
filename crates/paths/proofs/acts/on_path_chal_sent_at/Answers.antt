-- The path that was found, changed.
use Rattle.std.proofs.Common.{rules}
use Rattle.values.specs.Time.{moment_formed_of}
use Rattle.paths.specs.ActLaws.{puts_sent}
use Rattle.paths.proofs.acts.on_path_chal_sent_at.Goals as goal

pub returns : goal.returns
returns c = puts_sent c.args.t (moment_formed_of c.args.sent.us) c.args.id c.args.«data» c.args.size c.args.sent.us _ (λ x. x.0.path.now) _ _ _ (λ x k. search rules) c.sending.ensures c.left.ensures
