-- The ping is stored.
use Rattle.paths.specs.ReadingLaws.{tidy}
use Rattle.paths.specs.TableLaws.{pinged_at}
use Rattle.paths.proofs.changes.ping_at.Goals as goal

pub returns : goal.returns
returns c = pinged_at c.args.t.now (tidy c.args.t.now c.requires.formed) _ c.args.place c.requires.below
