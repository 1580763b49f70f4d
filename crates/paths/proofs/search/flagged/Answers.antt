-- The first one stands in the table; or there is none.
use Rattle.std.specs.Prelude.{refl, true}
use Rattle.std.proofs.Common.{◌≡◌, Some, get_or, sym, ap, ◌∙◌, arith}
use Rattle.lists.specs.Defs.{first_with, optional}
use Rattle.paths_state.specs.declared.state.Paths.{Paths}
use Rattle.paths_state.specs.Formed as S
use Rattle.paths_rules.specs.Calls.{step, Ask, GetActive}
use Rattle.paths_rules.specs.Path.{flagged, zero_path}
use Rattle.paths.specs.CallLaws.{by_step}
use Rattle.paths.specs.Reading.{view, found_at, found_of}
use Rattle.paths.specs.Ways.{active_0}
use Rattle.paths.proofs.search.flagged.Goals as goal

pub returns : goal.returns
returns c =
    let t = c.args.t.now in
    let z = c.in_ok-formed.ensures in
    let e : c.first_flagged.result ≡ Some c.in_ok-id.id = grind arith in
    let q : c.first_flagged.result ≡ optional (first_with flagged (view t).paths) = c.first_flagged.ensures.first ∙ ap (λ (s : Paths). optional (first_with flagged (view s).paths)) z.0 in
    active_0 t z.1 c.in_ok-id.id (sym e ∙ q) _ (c.in_ok-get.ensures.0 ∙ ap (λ (s : Paths). get_or s.items c.in_ok-id.id S.zero_path) z.0)
    ∙ by_step t true (found_of (step (view t) (Ask GetActive))) (found_at 1 0 zero_path) z.1 refl
