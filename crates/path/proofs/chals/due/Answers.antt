use Rattle.path.specs.ChalLaws.{sent_held}
use Rattle.path.proofs.chals.due.Goals as goal

pub sent_front-requires : goal.sent_front-requires
sent_front-requires c = (sent_held c.args.x.path.now c.args.x.well).few
