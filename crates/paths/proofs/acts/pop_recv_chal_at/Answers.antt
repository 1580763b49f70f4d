-- The path that was found, changed.
use Rattle.paths.specs.ActLaws.{puts_popped, puts_unpopped}
use Rattle.paths.proofs.acts.pop_recv_chal_at.Goals as goal

pub returns-in-Ok : goal.returns-in-Ok
returns-in-Ok c = puts_popped c.args.t c.args.id _ c.in-Ok.ensures _ c.popped.ensures _ c.waiting_front.ensures c.from.ensures

pub returns-in-Err : goal.returns-in-Err
returns-in-Err c = puts_unpopped c.args.t c.args.id _ c.in-Err.e c.in-Err.ensures c.from-in-Err.ensures _
