use Rattle.std.proofs.Common.{rules, tests, ◌∙◌}
use Rattle.std.proofs.lemmas.Iterator.{YieldsList-from_slice}
use Rattle.std.proofs.lemmas.Iterator.Search.{all_from_yields_List}
use Rattle.paths_state.specs.Formed.{timed}
use Rattle.paths_state.specs.Laws.{all_is}
use Rattle.paths_state.proofs.form.all_timed.Goals as goal

pub returns : goal.returns
returns c =
    all_from_yields_List timed _ _ _ c.all.ensures.ran (YieldsList-from_slice c.args.challenges.now c.iter.ensures.rest) (λ x b q k. search (rules, tests))
    ∙ all_is timed c.args.challenges.now
