-- What the chain gives is the place of the first item that passes.
use Rattle.std.proofs.Common.{sym, ◌∙◌, rules, tests}
use Rattle.std.proofs.lemmas.Iterator.{YieldsList-from_slice}
use Rattle.std.proofs.lemmas.Iterator.Search.{position_from_yields_List}
use Rattle.lists.specs.Search.{first_position}
use Rattle.tables.specs.Table.{has_seq}
use Rattle.tables.proofs.lookup.seek_seq.Goals as goal

pub returns : goal.returns
returns c =
    let l = c.args.items.now in
    position_from_yields_List (has_seq c.args.seq) _ _ _ c.position.ensures.ran (YieldsList-from_slice l cc) (λ x b q k. search (rules, tests)) ∙ sym (first_position (has_seq c.args.seq) l)
