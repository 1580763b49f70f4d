-- The path that was found, changed.
use Rattle.std.proofs.Common.{ap, ◌∙◌}
use Rattle.path.specs.declared.responses.Answer.{Answer}
use Rattle.paths.specs.ActLaws.{puts_responded, puts_unresponded}
use Rattle.paths.specs.Results.{responded_result}
use Rattle.paths.specs.declared.answers.RespondedAnswer.{RespondedAnswer}
use Rattle.values.specs.Time.{moment_formed_of}
use Rattle.paths.proofs.acts.on_path_resp_received_at.Goals as goal

pub returns-in-Ok : goal.returns-in-Ok
returns-in-Ok c =
    let a = c.answered-a.ensures in
    let of : Answer → RespondedAnswer = λ r. record { refusal = 0; yes = r.yes; spans = r.spans } in
    puts_responded c.args.t (moment_formed_of c.args.now.us) c.args.id c.args.«data» c.args.now.us _ (rw c.moment_formed.ensures at c.in-Ok.ensures) _ (ap (λ (r : Answer). r.path) a) (c.from.ensures ∙ ap of a)

pub returns-in-Err : goal.returns-in-Err
returns-in-Err c =
    puts_unresponded c.args.t (moment_formed_of c.args.now.us) c.args.id c.args.«data» c.args.now.us _ c.in-Err.e (rw c.moment_formed.ensures at c.in-Err.ensures) _ c.no_spans.ensures (c.from-in-Err.ensures ∙ ap responded_result c.excused.ensures) _
