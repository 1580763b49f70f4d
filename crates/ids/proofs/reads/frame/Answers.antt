-- The item at the place, and whether it has a token, are the definition's two cases.
use Rattle.std.specs.Prelude.{◌≡◌, true, false}
use Rattle.std.proofs.lemmas.Bool.{not-true, not-false}
use Rattle.std.proofs.Common.{ap, subst, ◌∙◌}
use Rattle.ids.specs.ReadLaws.{sought_ok, sought_err, passed_on, frame_ok, frame_err}
use Rattle.ids.specs.Results.{frame_answer}
use Rattle.std.specs.Result.{IsErrAnd}
use Rattle.values.specs.declared.refusals.Refusal.{Refusal}
use Rattle.values.specs.declared.refusals.Refusal.TheVariants.{InternalError}
use Rattle.ids.proofs.reads.frame.Goals as goal

pub returns-in_err-x : goal.returns-in_err-x
returns-in_err-x c =
    let w = sought_err InternalError _ c.with_seq.result c.with_seq.ensures c.in_err-x.field-0.0 c.in_err-x.ensures.value in
    ap frame_answer (passed_on c.from_residual.result InternalError (subst (λ (e : Refusal). IsErrAnd c.from_residual.result (λ x. x ≡ e)) w.1 c.from_residual.ensures.1))
    ∙ frame_err c.args.items.now c.args.seq c.args.retire_prior_to w.0

pub returns-then-not-x : goal.returns-then-not-x
returns-then-not-x c = frame_ok c.args.items.now c.args.seq c.args.retire_prior_to c.in_ok-x.x false (sought_ok InternalError _ c.with_seq.result c.with_seq.ensures c.in_ok-x.x c.in_ok-x.ensures.value) (not-true _ c.if-not-x.true)

pub returns : goal.returns
returns c = frame_ok c.args.items.now c.args.seq c.args.retire_prior_to c.in_ok-x.x true (sought_ok InternalError _ c.with_seq.result c.with_seq.ensures c.in_ok-x.x c.in_ok-x.ensures.value) (not-false _ c.if-not-x.false)
