-- The item at the place is the one of which the view has what it stands for.
use Rattle.std.specs.Prelude.{true}
use Rattle.std.proofs.Common.{ap, ◌∙◌}
use Rattle.std.proofs.Math.Option.{none}
use Rattle.ids.specs.CallLaws.{chosen}
use Rattle.ids.specs.ReadLaws.{passes, at_ok}
use Rattle.ids.specs.Reading.{view, item_at_of, item_answer_of}
use Rattle.ids_rules.specs.Calls.{reply, ScidAt}
use Rattle.ids_state.proofs.Laws.{facts}
use Rattle.ids_state.specs.declared.state.Ids.{Ids}
use Rattle.tables.specs.Table.{live}
use Rattle.ids.proofs.calls.try_scid_at.Goals as goal

pub returns : goal.returns
returns c =
    let s = c.args.s.now in
    let w = c.in_ok-ids.ensures in
    let e = c.live.ensures ∙ ap (λ (u : Ids). live u.scids) w.0 in
    at_ok c.live.result.now (live s.scids) e (facts s w.1).source_items c.args.place c.get.result (c.get.ensures.lookup.0, c.get.ensures.lookup.1) c.copied.result c.copied.ensures
    ∙ chosen s true (item_answer_of (reply (view s) (ScidAt c.args.place))) (item_at_of 1 none) true (passes w.1)
