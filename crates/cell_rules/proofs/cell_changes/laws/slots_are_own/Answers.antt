use Rattle.cell_rules.proofs.cell_changes.HasSlots.{slots_are_own as proof}
use Rattle.cell_rules.proofs.cell_changes.laws.slots_are_own.Goals as goal

pub returns : goal.returns
returns c = proof
