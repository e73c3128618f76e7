use Rattle.net_cells.proofs.Determined.{formulas_are_determined}
use Rattle.net_cells.proofs.laws.formulas_are_determined.Goals as goal

pub returns : goal.returns
returns c = formulas_are_determined
