use Rattle.std.proofs.Common.{ap, ◌∙◌}
use Rattle.lists.specs.Defs.{nought}
use Rattle.lists.specs.Tests.{zero_or}
use Rattle.values.proofs.time.MomentGather.gather.Goals as goal

pub returns : goal.returns
returns c = ap nought c.moment_bits.ensures ∙ zero_or c.args.self.us c.args.other.us
