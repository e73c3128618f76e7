use Rattle.net_cells.proofs.MemoryEnding.{ends_sooner}
use Rattle.net_cells.proofs.laws.memory_ends_sooner.Goals as goal

pub returns : goal.returns
returns c = ends_sooner
