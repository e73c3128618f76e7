use Rattle.element_envelope.proofs.Cover.{cover}
use Rattle.element_envelope.proofs.laws.pieces_are_covered.Goals as goal

pub returns : goal.returns
returns c = cover
