use Rattle.std.proofs.Common.{sym, ap, ◌∙◌, arith, Bool, ◌&&◌, ◌+◌, drop}
use Rattle.lists.specs.Defs.{all}
use Rattle.lists.specs.Tests.{all_more, all_done}
use Rattle.values.proofs.gather.all_nothing.Goals as goal

pub loop-x-init : goal.loop-x-init
loop-x-init g c = (omega arith, sym (ap (λ (b : Bool). b && all g.T.Gather.is_nothing c.args.items.now) c.nothing-sum.ensures))

pub loop-x-preserved : goal.loop-x-preserved
loop-x-preserved g c =
    let p = g.T.Gather.is_nothing in
    let o = c.loop-x in
    let x = c.x-item.result in
    let l = c.args.items.now in (
      omega arith,
      o.invariant.1 ∙ all_more p x l o.x-index (p o.sum) c.loop-x-test.true
          ∙ ap (λ (b : Bool). b && all p (drop (o.x-index + 1) l)) (ap (λ (y : g.row.T.Denot). p o.sum && p y) (sym c.x-item.is) ∙ sym c.gather-sum.ensures),
    )

pub returns : goal.returns
returns g c =
    let p = g.T.Gather.is_nothing in
    let o = c.loop-x in
    c.is_none.ensures ∙ sym (o.invariant.1 ∙ all_done p c.args.items.now o.x-index (p o.sum) c.loop-x-test.false)
