-- One more path is held against those after it.
use Rattle.std.specs.Prelude.{◌&&◌, ◌+◌, Bool, true, drop, get_or}
use Rattle.std.proofs.Common.{ap, sym, ◌∙◌}
use Rattle.std.proofs.lemmas.List.{take_rest}
use Rattle.lists.specs.Defs.{all, pairwise}
use Rattle.lists.specs.Tests.{pair_start}
use Rattle.paths_state.specs.Formed.{apart}
use Rattle.paths_state.proofs.test.all_differ.Goals as goal

pub loop-i-preserved : goal.loop-i-preserved
loop-i-preserved c =
    let l = c.args.paths.now in
    let i = c.loop-i.i in
    let e = c.differs_from.ensures ∙ ap (all (apart (get_or l i _))) (take_rest l (i + 1)) in
    c.loop-i.invariant
    ∙ pair_start apart _ l i true c.loop-i-test.true
    ∙ ap (λ (b : Bool). b && pairwise apart (drop (i + 1) l)) (sym e ∙ c.if-not-differs_from.false)

pub returns-then-not-differs_from : goal.returns-then-not-differs_from
returns-then-not-differs_from c =
    let l = c.args.paths.now in
    let i = c.loop-i.i in
    let e = c.differs_from.ensures ∙ ap (all (apart (get_or l i _))) (take_rest l (i + 1)) in
    sym
    (c.loop-i.invariant
    ∙ pair_start apart _ l i true c.loop-i-test.true
    ∙ ap (λ (b : Bool). b && pairwise apart (drop (i + 1) l)) (sym e ∙ c.if-not-differs_from.true))
