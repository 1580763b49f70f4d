-- The path that was found, changed.
use Rattle.std.specs.Prelude.{refl}
use Rattle.std.proofs.Common.{rules}
use Rattle.lists.specs.Defs.{given}
use Rattle.paths_state.specs.Formed.{seq_formed}
use Rattle.paths.specs.ActLaws.{given_is, puts}
use Rattle.paths_rules.specs.Calls.{SetDcid}
use Rattle.paths.proofs.acts.set_dcid_seq_at.Goals as goal

pub returns : goal.returns
returns c = puts c.args.t (seq_formed c.args.has_seq c.args.seq) c.args.id (SetDcid (given c.args.has_seq c.args.seq)) _ (λ x. x.path.now) _ _ (λ x k. search (rules, given_is)) c.found_if-x.ensures c.left.ensures refl
