-- The path may not send.
use Rattle.std.proofs.lemmas.Result.{err_from_is_err_and}
use Rattle.paths.specs.Found.{barred}
use Rattle.paths.proofs.acts.sending.Goals as goal

pub returns-in_err-deadline : goal.returns-in_err-deadline
returns-in_err-deadline c =
    let r = c.from_residual-in_err-deadline in
    let p = err_from_is_err_and r.result r.ensures.1 in
    rw (p.1, p.2) (barred _ (rw c.moment_formed.ensures at c.in_ok-x.ensures) c.in_err-deadline.ensures)
