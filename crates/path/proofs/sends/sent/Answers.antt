-- What is not refused has a deadline in time and a free place.
use Rattle.std.specs.Prelude.{Some, None, ◌≡◌, ◌*◌, ◌^◌, max}
use Rattle.std.proofs.Common.{ap, ◌∙◌, arith, rules}
use Rattle.values.specs.Laws.{moved_far, moved_to}
use Rattle.values.specs.Limits.{initial_chal_timeout}
use Rattle.values.specs.Time.{moved_of, plus}
use Rattle.path.specs.SendLaws.{send_time, send_is}
use Rattle.path.proofs.sends.sent.Goals as goal

-- too far: it was refused
pub returns-in_default : goal.returns-in_default
returns-in_default c =
    let x = c.args.x.path.now in
    let e : moved_of (plus c.args.now.us (initial_chal_timeout * 2 ^ x.lost_chal)) ≡ None = search rules in
    absurd (omega (arith, send_time x c.args.x.well c.args.now.us c.requires.unrefused, moved_far c.args.now.us _ e))

pub returns : goal.returns
returns c =
    let x = c.args.x.path.now in
    let e : moved_of (plus c.args.now.us (initial_chal_timeout * 2 ^ x.lost_chal)) ≡ Some c.in-Some.deadline = search rules in
    send_is x c.args.x.well c.args.now.us c.args.«data» c.args.size _ _ _ (moved_to c.args.now.us _ _ e).1 c.sent_push.ensures
    (c.max.ensures ∙ ap (max x.state) c.from.ensures)
