-- Each return is one way through the definition.
use Rattle.std.proofs.Common.{ap}
use Rattle.ids.specs.Acts.{retired_in}
use Rattle.ids.specs.AddLaws.{late_6, late_4, late_0}
use Rattle.ids.specs.ReadingLaws.{retire_well}
use Rattle.ids.proofs.adds.late_step.Goals as goal

pub returns-then-s-ge-QUEUE_SLOTS : goal.returns-then-s-ge-QUEUE_SLOTS
returns-then-s-ge-QUEUE_SLOTS c = late_6 c.args.f.ids.now c.args.f.well c.args.seq c.if-s-ge-QUEUE_SLOTS.true _ c.unchanged.ensures

pub queue_push-queued-requires : goal.queue_push-queued-requires
queue_push-queued-requires c = (retire_well c.args.f.ids.now c.args.f.well, c.if-s-ge-QUEUE_SLOTS.false)

pub returns-then-s-queued : goal.returns-then-s-queued
returns-then-s-queued c =
    late_4 c.args.f.ids.now c.args.f.well c.args.seq c.if-s-ge-QUEUE_SLOTS.false _ c.queue_push-queued.ensures _ c.if-s-queued.true (ap (retired_in c.args.f.ids.now) c.no_pairs.ensures)

pub returns : goal.returns
returns c =
    late_0 c.args.f.ids.now c.args.f.well c.args.seq c.if-s-ge-QUEUE_SLOTS.false _ c.queue_push-queued.ensures _ c.if-s-queued.false (ap (retired_in c.args.f.ids.now) c.no_pairs-2.ensures)
