use Rattle.path.specs.ChalLaws.{received_held}
use Rattle.path.proofs.chals.waiting_front.Goals as goal

pub received_front-requires : goal.received_front-requires
received_front-requires c = (received_held c.args.x.path.now c.args.x.well).few
