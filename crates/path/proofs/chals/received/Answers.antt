use Rattle.path.specs.ChalLaws.{received_held, receive_is}
use Rattle.path.proofs.chals.received.Goals as goal

pub received_push-requires : goal.received_push-requires
received_push-requires c = received_held c.args.x.path.now c.args.x.well

pub returns : goal.returns
returns c = receive_is c.args.x.path.now c.args.x.well c.args.«data» _ c.received_push.ensures
