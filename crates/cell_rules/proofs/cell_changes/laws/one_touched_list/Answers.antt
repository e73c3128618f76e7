use Rattle.cell_rules.proofs.cell_changes.CarriedOver.{one_touched_list as proof}
use Rattle.cell_rules.proofs.cell_changes.laws.one_touched_list.Goals as goal

pub returns : goal.returns
returns c = proof
