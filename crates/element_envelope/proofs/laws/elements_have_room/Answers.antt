use Rattle.element_envelope.proofs.ElementSizes.{parts_stand}
use Rattle.element_envelope.proofs.OperandElements.{elements_stand}
use Rattle.element_envelope.proofs.laws.elements_have_room.Goals as goal

pub returns : goal.returns
returns c = record { elements = elements_stand; joined = parts_stand }
