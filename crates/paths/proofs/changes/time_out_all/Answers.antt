-- One more path times out, or stays.
use Rattle.std.proofs.Common.{sym, ◌∙◌, arith}
use Rattle.path.specs.TimeoutLaws.{timeout_stays}
use Rattle.paths.specs.ReadingLaws.{tidy}
use Rattle.paths.specs.TableLaws.{each_formed, each_more, each_stays, each_done}
use Rattle.paths_rules.specs.Path.{timeout}
use Rattle.paths.proofs.changes.time_out_all.Goals as goal
use Rattle.paths.proofs.changes.time_out_all.Goals.{then-overdue, else-overdue}

pub invariant_of-x : goal.invariant_of-x
invariant_of-x c =
    let o = c.loop-i in
    let t = c.args.t.now in
    record { well = each_formed t (tidy t c.requires) (timeout c.args.now.us) _ o.i o.t c.loop-i-test.true o.invariant }

pub loop-i-preserved : goal.loop-i-preserved
loop-i-preserved c =
    let o = c.loop-i in
    let t = c.args.t.now in
    let w = tidy t c.requires in
    let f = timeout c.args.now.us in
    let k = each_formed t w f _ o.i o.t c.loop-i-test.true o.invariant in
    elim c.if-overdue.branch [
      | then-overdue w' ↦ w'.t-is ∙ each_more t w f _ o.i o.t c.loop-i-test.true o.invariant _ w'.timed_out.ensures
      | else-overdue w' ↦ w'.t-is ∙ each_stays t w f _ o.i o.t c.loop-i-test.true o.invariant (timeout_stays c.args.now.us _ k (sym c.overdue.ensures ∙ w'.if-overdue.false))
    ]

pub returns : goal.returns
returns c =
    let o = c.loop-i in
    each_done c.args.t.now (tidy c.args.t.now c.requires) (timeout c.args.now.us) o.i o.t (omega arith) o.invariant
