-- The state's test passed: the step on the queue is the definition's.
use Rattle.std.specs.Prelude.{true, ◌&&◌, Bool}
use Rattle.std.proofs.Common.{ap, ◌∙◌}
use Rattle.ids.specs.Acts.{done_leaves}
use Rattle.ids.specs.CallLaws.{chosen}
use Rattle.ids.specs.MarkLaws.{retire_is}
use Rattle.ids.specs.Reading.{view, done_at, done_of}
use Rattle.ids.specs.ReadingLaws.{retire_well}
use Rattle.ids_rules.specs.Calls.{step, MarkDcidToRetire}
use Rattle.ids.proofs.acts.mark_dcid_to_retire_at.Goals as goal

pub queue_step-requires : goal.queue_step-requires
queue_step-requires c = retire_well c.args.s c.in-Ok.ensures.1

pub returns-in-Ok : goal.returns-in-Ok
returns-in-Ok c =
    let w = c.in-Ok.ensures.1 in
    done_leaves _ _ _ (retire_is c.args.s w c.args.seq c.args.on _ c.queue_step.ensures ∙ chosen c.args.s true (done_of (step (view c.args.s) (MarkDcidToRetire c.args.seq c.args.on))) (done_at 1 c.args.s) true (ap (λ (b : Bool). b && true) w))
