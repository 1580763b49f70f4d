-- A store in the table is one in the list that it is read as.
use Rattle.std.proofs.Common.{rules}
use Rattle.timers.proofs.Laws.{store}
use Rattle.timers.proofs.steps.set_step.Goals as goal

pub returns : goal.returns
returns c = let s = store c.args.t.now c.requires in search rules
