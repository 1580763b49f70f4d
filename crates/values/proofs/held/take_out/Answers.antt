-- One copy and one store take the element out.
use Rattle.std.proofs.Common.{List, set, ◌-◌, ap, ◌∙◌}
use Rattle.lists.specs.Held.{held_taken}
use Rattle.values.proofs.held.take_out.Goals as goal

pub returns : goal.returns
returns g c = ap (λ (l : List g.row.T.Denot). set l (c.args.count - 1) c.args.zero) c.copy_within.ensures.after ∙ held_taken c.requires.0 c.args.i c.requires.1
