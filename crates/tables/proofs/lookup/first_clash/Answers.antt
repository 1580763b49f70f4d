-- What the chain gives is the answer at the first item that has one.
use Rattle.std.proofs.Common.{rules, tests}
use Rattle.tables.specs.Laws.{found_first}
use Rattle.tables.proofs.lookup.first_clash.Goals as goal

pub returns : goal.returns
returns c = found_first c.args.x.now c.args.items.now c.find_map.result (search (rules, tests))
