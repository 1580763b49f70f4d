use Rattle.std.proofs.Common.{sym, ◌∙◌}
use Rattle.lists.specs.Bools.{and_left}
use Rattle.path.specs.TimeoutLaws.{going_first, going_less, going_lost, going_next, going_done, timeout_stays}
use Rattle.path.proofs.timeouts.timed_out.Goals as goal

pub returns-then-not-probing : goal.returns-then-not-probing
returns-then-not-probing c =
    sym (timeout_stays c.args.now.us c.args.x.path.now c.args.x.well (and_left _ _ (sym c.probing.ensures ∙ c.if-not-probing.true)))

pub loop-now-init : goal.loop-now-init
loop-now-init c = going_first c.args.now.us c.args.x.path.now c.args.x.well

pub front_late-requires : goal.front_late-requires
front_late-requires c = c.loop-now.invariant.known.well

pub front_lost-u-requires : goal.front_lost-u-requires
front_lost-u-requires c =
    let o = c.loop-now in
    (o.invariant.known, going_lost c.args.now.us c.args.x.path.now o.u o.invariant (sym c.front_late.ensures ∙ c.loop-now-test.true))

pub loop-now-smaller : goal.loop-now-smaller
loop-now-smaller c =
    let o = c.loop-now in
    going_less c.args.now.us c.args.x.path.now o.u o.invariant (sym c.front_late.ensures ∙ c.loop-now-test.true) _ c.front_lost-u.ensures

pub loop-now-preserved : goal.loop-now-preserved
loop-now-preserved c =
    let o = c.loop-now in
    going_next c.args.now.us c.args.x.path.now o.u o.invariant (sym c.front_late.ensures ∙ c.loop-now-test.true) _ c.front_lost-u.ensures

pub returns : goal.returns
returns c =
    let o = c.loop-now in
    going_done c.args.now.us c.args.x.path.now o.u o.invariant (sym c.probing.ensures ∙ c.if-not-probing.false) (sym c.front_late.ensures ∙ c.loop-now-test.false)
