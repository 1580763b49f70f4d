-- Field by field.
use Rattle.lists.specs.Tests.{zero_or}
use Rattle.challenges.specs.Laws.{challenge_gathered}
use Rattle.challenges.proofs.sent.ChallengeGather.gather.Goals as goal

pub returns : goal.returns
returns c =
    let a = c.args.self in
    let b = c.args.other in
    challenge_gathered a b _ (zero_or a.«data» b.«data») (zero_or a.size b.size) c.gather.ensures c.gather-2.ensures
