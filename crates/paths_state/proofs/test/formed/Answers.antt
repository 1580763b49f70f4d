-- The bounds hold: then each of the three tests is a part of `well_formed`.
use Rattle.std.specs.Prelude.{◌≡◌, ◌&&◌, Bool, drop, length}
use Rattle.std.proofs.Common.{arith, rules, tests, ap, ap₂, sym, ◌∙◌}
use Rattle.std.proofs.lemmas.Iterator.{YieldsList-from_slice}
use Rattle.std.proofs.lemmas.Iterator.Search.{all_from_yields_List}
use Rattle.lists.specs.Defs.{pairwise}
use Rattle.lists.specs.Held.{long}
use Rattle.lists.specs.Tests.{past_all}
use Rattle.values.specs.Limits.{max_paths_limit}
use Rattle.paths_state.specs.Formed.{apart, live, no_path, path_formed_of, table_formed}
use Rattle.paths_state.specs.Laws.{all_is, bounds_of}
use Rattle.paths_state.proofs.test.formed.Goals as goal

pub split_at-requires : goal.split_at-requires
split_at-requires c =
    let b = bounds_of c.args.t.now.max_paths c.args.t.now.count (sym c.within.ensures ∙ c.if-not-within.false) in
    let l : length c.args.t.now.items ≡ max_paths_limit = search (rules, long) in
    omega (arith, b.few, b.limit_most)

pub returns : goal.returns
returns c =
    let t = c.args.t.now in
    let l : length t.items ≡ max_paths_limit = search (rules, long) in
    let f = all_from_yields_List path_formed_of _ _ _ c.all.ensures.ran (YieldsList-from_slice (live t) (c.iter.ensures.rest ∙ c.split_at.ensures.front)) (λ x b q k. search (rules, tests)) in
    let z = all_from_yields_List no_path _ _ _ c.all-2.ensures.ran (YieldsList-from_slice (drop t.count t.items) (c.iter-2.ensures.rest ∙ c.split_at.ensures.back)) (λ x b q k. search (rules, tests)) in
    let d : c.all_differ.result ≡ pairwise apart (live t) = c.all_differ.ensures ∙ ap (pairwise apart) c.split_at.ensures.front in
    ap₂ ◌&&◌ (ap₂ ◌&&◌ (f ∙ all_is path_formed_of (live t)) d) (z ∙ all_is no_path (drop t.count t.items) ∙ sym (past_all no_path max_paths_limit t.count t.items l))
    ∙ sym (ap (λ (b : Bool). b && table_formed t) (sym c.within.ensures ∙ c.if-not-within.false))
