use Rattle.element_envelope.proofs.LeastCopies.{copy_rules}
use Rattle.element_envelope.proofs.laws.copies_join.Goals as goal

pub returns : goal.returns
returns c = copy_rules
