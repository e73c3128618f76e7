use Rattle.cell_rules.proofs.cell_changes.CarriedOver.{untouched_stay as proof}
use Rattle.cell_rules.proofs.cell_changes.laws.untouched_stay.Goals as goal

pub returns : goal.returns
returns c = proof
