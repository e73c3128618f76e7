use Rattle.cell_rules.proofs.cell_changes.CarriedOver.{touched_answers_suffice as proof}
use Rattle.cell_rules.proofs.cell_changes.laws.touched_answers_suffice.Goals as goal

pub returns : goal.returns
returns c = proof
