-- What the search gives is the place of the first path that passes.
use Rattle.std.proofs.Common.{rules, tests}
use Rattle.std.proofs.lemmas.Iterator.{YieldsList-from_slice}
use Rattle.std.proofs.lemmas.Iterator.Search.{position_from_yields_List}
use Rattle.paths.specs.TableLaws.{passes, found_first}
use Rattle.paths_rules.specs.Path.{listed_as}
use Rattle.paths_state.specs.Formed.{live}
use Rattle.paths.proofs.search.first_listed.Goals as goal

pub returns-clause-first : goal.returns-clause-first
returns-clause-first c =
    let t = c.args.t.paths.now in
    found_first t (listed_as c.args.pair) _ (position_from_yields_List (passes (listed_as c.args.pair)) _ _ _ c.position.ensures.ran (YieldsList-from_slice (live t) cc) (λ x b q k. search (rules, tests)))
