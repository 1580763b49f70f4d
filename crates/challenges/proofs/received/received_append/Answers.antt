-- A store at the count, and the count one more: the list with one more at its end.
use Rattle.challenges.specs.Laws.{received_push_is}
use Rattle.challenges.proofs.received.received_append.Goals as goal

pub returns : goal.returns
returns c = received_push_is c.args.q c.requires.0 c.args.«data» c.requires.1
