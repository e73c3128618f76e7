use Rattle.curve_call.proofs.GrowingAnswers.{growing_answers}
use Rattle.curve_call.proofs.laws.answers_grow.Goals as goal

pub returns : goal.returns
returns c = growing_answers
