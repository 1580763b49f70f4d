-- The place that the search gives is that of the definition's first.
use Rattle.std.proofs.Common.{ap, subst, ◌∙◌}
use Rattle.ids.specs.ReadLaws.{sought_ok, sought_err, passed_on, get_ok, get_err}
use Rattle.ids.specs.Results.{item_answer}
use Rattle.std.specs.Prelude.{◌≡◌}
use Rattle.std.specs.Result.{IsErrAnd}
use Rattle.values.specs.declared.refusals.Refusal.{Refusal}
use Rattle.values.specs.declared.refusals.Refusal.TheVariants.{InternalError}
use Rattle.ids.proofs.reads.get.Goals as goal

pub returns-in_err-x : goal.returns-in_err-x
returns-in_err-x c =
    let w = sought_err InternalError _ c.with_seq.result c.with_seq.ensures c.in_err-x.field-0.0 c.in_err-x.ensures.value in
    ap item_answer (passed_on c.from_residual.result InternalError (subst (λ (e : Refusal). IsErrAnd c.from_residual.result (λ x. x ≡ e)) w.1 c.from_residual.ensures.1))
    ∙ get_err c.args.items.now c.args.seq w.0

pub returns : goal.returns
returns c = get_ok c.args.items.now c.args.seq c.requires c.in_ok-x.x (sought_ok InternalError _ c.with_seq.result c.with_seq.ensures c.in_ok-x.x c.in_ok-x.ensures.value)
