use Rattle.std.specs.Prelude.{refl}
use Rattle.std.proofs.Common.{arith, rules}
use Rattle.lists.specs.Whole.{joined_more, joined_done}
use Rattle.values.proofs.gather.ArrayGather.gather.Goals as goal

pub loop-i-init : goal.loop-i-init
loop-i-init g c = (search rules, refl)

pub loop-i-preserved : goal.loop-i-preserved
loop-i-preserved g c =
    let o = c.loop-i in
    joined_more g.T.Gather.is_nothing c.args.self c.args.other g.row.N (search rules) (search rules) o.both o.i o.invariant _ _ c.gather.result (omega arith) c.gather.ensures

pub returns : goal.returns
returns g c =
    let o = c.loop-i in
    joined_done g.T.Gather.is_nothing c.args.self c.args.other g.row.N (search rules) (search rules) o.both o.i o.invariant (omega arith)
