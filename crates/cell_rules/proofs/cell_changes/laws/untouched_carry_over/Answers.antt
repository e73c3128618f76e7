use Rattle.cell_rules.proofs.cell_changes.CarriedOver.{untouched_carry_over as proof}
use Rattle.cell_rules.proofs.cell_changes.laws.untouched_carry_over.Goals as goal

pub returns : goal.returns
returns c = proof
