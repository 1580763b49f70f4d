use Rattle.path.specs.ChalLaws.{sent_held}
use Rattle.path.proofs.timeouts.overdue.Goals as goal

pub front_late-requires : goal.front_late-requires
front_late-requires c = sent_held c.args.x.path.now c.args.x.well
