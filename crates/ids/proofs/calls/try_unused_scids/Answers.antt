-- What is unused of the view is what is free of the items.
use Rattle.std.specs.Prelude.{true, List, length}
use Rattle.std.proofs.Common.{sym, ap, ◌∙◌}
use Rattle.ids.specs.CallLaws.{chosen}
use Rattle.ids.specs.ReadLaws.{passes}
use Rattle.ids.specs.Carry.{count_view, unused_view}
use Rattle.ids.specs.Reading.{item_view, view, counted_of}
use Rattle.ids_rules.specs.Calls.{reply, UnusedScids}
use Rattle.ids_rules.specs.Values.{unused}
use Rattle.ids_state.specs.declared.state.Ids.{Ids}
use Rattle.lists.specs.Defs.{keep}
use Rattle.tables.specs.Table.{live, free}
use Rattle.tables.specs.declared.items.Item.{Item}
use Rattle.values.specs.Answers.{counted_at}
use Rattle.ids.proofs.calls.try_unused_scids.Goals as goal

pub returns : goal.returns
returns c =
    let s = c.args.s.now in
    let w = c.in_ok-checked.ensures in
    ap (counted_at 0) (c.count_free.ensures ∙ ap (λ (l : List Item). length (keep free l)) (c.live.ensures ∙ ap (λ (u : Ids). live u.scids) w.0) ∙ sym (count_view item_view unused free unused_view (live s.scids)))
    ∙ chosen s true (counted_of (reply (view s) UnusedScids)) (counted_at 1 0) true (passes w.1)
