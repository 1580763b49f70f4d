-- The state's test passed: the step on the table is the definition's.
use Rattle.std.specs.Prelude.{true, ◌&&◌, Bool}
use Rattle.std.proofs.Common.{ap, ◌∙◌}
use Rattle.ids.specs.Acts.{done_leaves}
use Rattle.ids.specs.CallLaws.{chosen}
use Rattle.ids.specs.MarkLaws.{dcid_used_is}
use Rattle.ids.specs.Reading.{view, done_at, done_of}
use Rattle.ids.specs.ReadingLaws.{destination_well}
use Rattle.ids_rules.specs.Calls.{step, MarkDcidUsed}
use Rattle.ids.proofs.acts.mark_dcid_used_at.Goals as goal

pub used_step-requires : goal.used_step-requires
used_step-requires c = destination_well c.args.s c.in-Ok.ensures.1

pub returns-in-Ok : goal.returns-in-Ok
returns-in-Ok c =
    let w = c.in-Ok.ensures.1 in
    done_leaves _ _ _ (dcid_used_is c.args.s w c.args.seq c.args.path _ c.used_step.ensures ∙ chosen c.args.s true (done_of (step (view c.args.s) (MarkDcidUsed c.args.seq c.args.path))) (done_at 1 c.args.s) true (ap (λ (b : Bool). b && true) w))
