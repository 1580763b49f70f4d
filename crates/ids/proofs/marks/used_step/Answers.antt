-- The place that the search gives is one of the table.
use Rattle.std.proofs.Common.{ap, ◌∙◌}
use Rattle.lists.specs.Defs.{first_with, optional}
use Rattle.tables.specs.Laws.{place_in}
use Rattle.tables.specs.Table.{has_seq}
use Rattle.tables.specs.declared.items.Item.{Item}
use Rattle.std.specs.Prelude.{List}
use Rattle.ids.proofs.marks.used_step.Goals as goal

pub set_path-requires : goal.set_path-requires
set_path-requires c =
    let e = c.seek_seq.ensures ∙ ap (λ (l : List Item). optional (first_with (has_seq c.args.seq) l)) c.live.ensures in
    (c.requires, place_in c.args.t (has_seq c.args.seq) c.seek_seq.result e c.in-Some.i c.requires c.in-Some.is)
