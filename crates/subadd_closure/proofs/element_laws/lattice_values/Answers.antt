use Rattle.subadd_closure.proofs.LatticeCurves.{lattice_values}
use Rattle.subadd_closure.proofs.element_laws.lattice_values.Goals as goal

pub returns : goal.returns
returns c = lattice_values
