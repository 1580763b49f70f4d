use Rattle.lists.specs.Tests.{zero_or}
use Rattle.values.proofs.gather.U8Gather.gather.Goals as goal

pub returns : goal.returns
returns c = zero_or c.args.self c.args.other
