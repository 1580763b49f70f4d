-- What is unused of the view is what is free of the items.
use Rattle.std.specs.Prelude.{true, List, ℕ}
use Rattle.std.proofs.Common.{sym, ap, ◌∙◌}
use Rattle.std.proofs.Math.Option.{none}
use Rattle.ids.specs.CallLaws.{chosen}
use Rattle.ids.specs.ReadLaws.{passes, numbered_is}
use Rattle.ids.specs.Carry.{unused_view, seqs_kept}
use Rattle.ids.specs.Reading.{view, numbered_of}
use Rattle.ids_rules.specs.Calls.{reply, LowestUnusedDcidSeq}
use Rattle.ids_rules.specs.Values.{unused}
use Rattle.ids_state.specs.declared.state.Ids.{Ids}
use Rattle.lists.specs.Defs.{least, picked, optional}
use Rattle.tables.specs.Table.{live, free, seq_of}
use Rattle.tables.specs.declared.items.Item.{Item}
use Rattle.values.specs.Answers.{numbered_at}
use Rattle.ids.proofs.calls.try_lowest_unused_dcid_seq.Goals as goal

pub returns : goal.returns
returns c =
    let s = c.args.s.now in
    let w = c.in_ok-checked.ensures in
    let e = c.live.ensures ∙ ap (λ (u : Ids). live u.dcids) w.0 in
    numbered_is c.lowest_free.result _ (c.lowest_free.ensures ∙ ap (λ (l : List Item). optional (least (picked seq_of free l))) e)
    ∙ sym (ap (λ (l : List ℕ). numbered_at 0 (least l)) (seqs_kept unused free unused_view (live s.dcids)))
    ∙ chosen s true (numbered_of (reply (view s) LowestUnusedDcidSeq)) (numbered_at 1 none) true (passes w.1)
