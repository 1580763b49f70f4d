-- One more path is pinged, or stays.
use Rattle.std.proofs.Common.{sym, ◌∙◌, arith}
use Rattle.paths.specs.ReadingLaws.{tidy}
use Rattle.paths.specs.TableLaws.{each_done, pinged_more, pinged_stays}
use Rattle.paths_rules.specs.Table.{ping_in_use_of}
use Rattle.paths.proofs.changes.ping_all.Goals as goal
use Rattle.paths.proofs.changes.ping_all.Goals.{then-in_use, else-in_use}

pub loop-i-preserved : goal.loop-i-preserved
loop-i-preserved c =
    let o = c.loop-i in
    let t = c.args.t.now in
    elim c.if-in_use.branch [
      | then-in_use w ↦ w.t-is ∙ pinged_more t (tidy c.args.t.now c.requires) _ o.i o.t c.loop-i-test.true o.invariant (sym c.in_use.ensures ∙ w.if-in_use.true)
      | else-in_use w ↦ w.t-is ∙ pinged_stays t (tidy c.args.t.now c.requires) _ o.i o.t c.loop-i-test.true o.invariant (sym c.in_use.ensures ∙ w.if-in_use.false)
    ]

pub returns : goal.returns
returns c =
    let o = c.loop-i in
    each_done c.args.t.now (tidy c.args.t.now c.requires) ping_in_use_of o.i o.t (omega arith) o.invariant
