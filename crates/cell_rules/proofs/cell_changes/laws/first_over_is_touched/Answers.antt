use Rattle.cell_rules.proofs.cell_changes.CarriedOver.{first_over_is_touched as proof}
use Rattle.cell_rules.proofs.cell_changes.laws.first_over_is_touched.Goals as goal

pub returns : goal.returns
returns c = proof
