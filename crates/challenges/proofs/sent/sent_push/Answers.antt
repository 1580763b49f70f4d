-- A store at the count, and the count one more: the list with one more at its end.
use Rattle.challenges.specs.Laws.{sent_push_is}
use Rattle.challenges.proofs.sent.sent_push.Goals as goal

pub returns : goal.returns
returns c = sent_push_is c.args.s c.requires.0 c.args.challenge c.requires.1
