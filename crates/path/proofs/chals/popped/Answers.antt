use Rattle.path.specs.ChalLaws.{received_held, pop_is}
use Rattle.path.proofs.chals.popped.Goals as goal

pub received_pop-requires : goal.received_pop-requires
received_pop-requires c = received_held c.args.x.path.now c.args.x.well

pub returns : goal.returns
returns c = pop_is c.args.x.path.now c.args.x.well _ c.received_pop.ensures
