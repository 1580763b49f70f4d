use Rattle.lists.specs.Whole.{past_replicate}
use Rattle.values.proofs.gather.ArrayGather.nothing.Goals as goal

pub returns : goal.returns
returns g c = past_replicate g.T.Gather.is_nothing g.row.N _ c.nothing.ensures
