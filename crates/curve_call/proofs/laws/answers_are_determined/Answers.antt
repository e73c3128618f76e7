use Rattle.curve_call.proofs.InTurn.{applies_determined}
use Rattle.curve_call.proofs.laws.answers_are_determined.Goals as goal

pub returns : goal.returns
returns c = applies_determined
