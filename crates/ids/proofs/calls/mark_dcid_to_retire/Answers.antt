-- The step on the queue is that of the call.
use Rattle.std.specs.Prelude.{true}
use Rattle.std.proofs.Common.{◌∙◌}
use Rattle.ids.specs.CallLaws.{chosen}
use Rattle.ids.specs.MarkLaws.{retire_is}
use Rattle.ids.specs.ReadLaws.{passes}
use Rattle.ids.specs.Reading.{view, done_at, done_of}
use Rattle.ids.specs.ReadingLaws.{retire_well}
use Rattle.ids_rules.specs.Calls.{step, MarkDcidToRetire}
use Rattle.ids.proofs.calls.mark_dcid_to_retire.Goals as goal

pub queue_step-a-requires : goal.queue_step-a-requires
queue_step-a-requires c = retire_well c.args.s c.in-Ok.ensures.1

pub returns-in-Ok : goal.returns-in-Ok
returns-in-Ok c =
    let s = c.args.s in
    let w = c.in-Ok.ensures in
    retire_is s w.1 c.args.seq c.args.on c.queue_step-a.result c.queue_step-a.ensures ∙ chosen s true (done_of (step (view s) (MarkDcidToRetire c.args.seq c.args.on))) (done_at 1 s) true (passes w.1)
