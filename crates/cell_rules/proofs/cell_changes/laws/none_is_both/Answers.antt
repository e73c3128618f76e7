use Rattle.cell_rules.proofs.cell_changes.CarriedOver.{none_is_both as proof}
use Rattle.cell_rules.proofs.cell_changes.laws.none_is_both.Goals as goal

pub returns : goal.returns
returns c = proof
