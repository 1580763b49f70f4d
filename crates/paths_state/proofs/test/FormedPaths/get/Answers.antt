use Rattle.std.proofs.Common.{arith}
use Rattle.paths_state.specs.Formed.{zero_path}
use Rattle.paths_state.specs.Laws.{path_in, path_well}
use Rattle.paths_state.proofs.test.FormedPaths.get.Goals as goal

pub invariant_of-result : goal.invariant_of-result
invariant_of-result c = record { well = path_well c.args.self.paths.now c.args.self.well _ c.args.id (omega arith) }

pub returns : goal.returns
returns c = (path_in c.args.self.paths.now c.args.self.well _ zero_path c.args.id (omega arith), omega arith)
