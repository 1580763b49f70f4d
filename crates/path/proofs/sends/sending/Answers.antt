-- There is a deadline, and no place.
use Rattle.std.specs.Prelude.{Some, ◌≡◌, ◌*◌, ◌^◌}
use Rattle.std.proofs.Common.{rules}
use Rattle.values.specs.Laws.{moved_to}
use Rattle.values.specs.Limits.{initial_chal_timeout}
use Rattle.values.specs.Time.{moved_of, plus}
use Rattle.path.specs.SendLaws.{refuse_full}
use Rattle.path.proofs.sends.sending.Goals as goal

pub returns-then-x-ge-MAX_PATH_CHALS_SENT : goal.returns-then-x-ge-MAX_PATH_CHALS_SENT
returns-then-x-ge-MAX_PATH_CHALS_SENT c =
    let x = c.args.x.path.now in
    let e : moved_of (plus c.args.now.us (initial_chal_timeout * 2 ^ x.lost_chal)) ≡ Some c.in_ok-deadline.deadline = search rules in
    refuse_full x c.args.x.well c.args.now.us c.if-lost-gt-MAX_SHIFT.false (moved_to c.args.now.us _ _ e).0 c.if-x-ge-MAX_PATH_CHALS_SENT.true
