-- What the chain gives is the least of the sequences that pass.
use Rattle.std.proofs.Common.{rules, tests}
use Rattle.std.proofs.lemmas.Iterator.{YieldsList-from_slice, YieldsList-from_map}
use Rattle.std.proofs.lemmas.Iterator.Consumers.{YieldsList-at, YieldsList-from_filter, min_from_yields_List}
use Rattle.lists.specs.Search.{picked_reduce}
use Rattle.tables.specs.Table.{seq_of, at_least}
use Rattle.tables.proofs.lookup.lowest_from.Goals as goal

pub returns : goal.returns
returns c =
    let l = c.args.items.now in
    let p = at_least c.args.bound in
    picked_reduce seq_of p l c.min.result
    (min_from_yields_List c.map.result _ c.min.ensures.ran
    (YieldsList-from_map _ seq_of (YieldsList-at c.map.ensures.source (YieldsList-from_filter _ p (YieldsList-at c.filter.ensures.source (YieldsList-from_slice l cc)) c.filter.ensures.closure (λ x b q k. search (rules, tests)))) c.map.ensures.closure (λ x r q k. search rules)))
