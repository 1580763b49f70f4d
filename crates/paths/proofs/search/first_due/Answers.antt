-- One more path is looked at.
use Rattle.std.proofs.Common.{◌∙◌}
use Rattle.paths.specs.ReadingLaws.{tidy, live_formed}
use Rattle.paths.specs.TableLaws.{timer_more}
use Rattle.paths.proofs.search.first_due.Goals as goal

pub invariant_of-due : goal.invariant_of-due
invariant_of-due c =
    let t = c.args.t.paths.now in
    let e = c.loop-x.invariant.0 in
    record { well = rw e (live_formed t (tidy t c.args.t.well) _ c.loop-x.x-index (rw e at c.loop-x-test.true)) }

pub loop-x-preserved : goal.loop-x-preserved
loop-x-preserved c =
    let o = c.loop-x in
    (o.invariant.0, c.earlier-best.ensures ∙ timer_more _ c.live-x-items.result.now o.x-index c.loop-x-test.true _ _ o.invariant.1 c.due.ensures)
