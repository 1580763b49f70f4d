-- The step on the queue is that of the call.
use Rattle.std.specs.Prelude.{true}
use Rattle.std.proofs.Common.{◌∙◌}
use Rattle.ids.specs.CallLaws.{chosen}
use Rattle.ids.specs.MarkLaws.{advertise_is}
use Rattle.ids.specs.ReadLaws.{passes}
use Rattle.ids.specs.Reading.{view, done_at, done_of}
use Rattle.ids.specs.ReadingLaws.{advertise_well}
use Rattle.ids_rules.specs.Calls.{step, MarkScidToAdvertise}
use Rattle.ids.proofs.calls.mark_scid_to_advertise.Goals as goal

pub queue_step-a-requires : goal.queue_step-a-requires
queue_step-a-requires c = advertise_well c.args.s c.in-Ok.ensures.1

pub returns-in-Ok : goal.returns-in-Ok
returns-in-Ok c =
    let s = c.args.s in
    let w = c.in-Ok.ensures in
    advertise_is s w.1 c.args.seq c.args.on c.queue_step-a.result c.queue_step-a.ensures ∙ chosen s true (done_of (step (view s) (MarkScidToAdvertise c.args.seq c.args.on))) (done_at 1 s) true (passes w.1)
