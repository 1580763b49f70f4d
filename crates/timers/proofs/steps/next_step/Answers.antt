-- The chain gives the moments that are set, and picks the first least of them.
use Rattle.std.proofs.Common.{◌∙◌, rules, tests}
use Rattle.std.proofs.lemmas.Iterator.{YieldsList-from_slice}
use Rattle.std.proofs.lemmas.Iterator.Consumers.{reduce_from_yields_List, YieldsList-from_filter_map}
use Rattle.timers.proofs.Laws.{next_of}
use Rattle.values.specs.Time.{deadline_view, moved_of}
use Rattle.values.specs.declared.time.Deadline.{Deadline}
use Rattle.timers.proofs.steps.next_step.Goals as goal

pub returns : goal.returns
returns c =
    let l = c.args.t.table.now.expires in
    reduce_from_yields_List _ c.filter_map.result c.min.result c.min.ensures.ran
    (YieldsList-from_filter_map _ (λ (d : Deadline). moved_of (deadline_view d)) (YieldsList-from_slice l cc) c.filter_map.ensures.closure (λ x r q k. search (rules, tests)))
    ∙ next_of l
