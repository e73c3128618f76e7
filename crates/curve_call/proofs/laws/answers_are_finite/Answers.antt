use Rattle.curve_call.proofs.FiniteAnswers.{finite_answers}
use Rattle.curve_call.proofs.laws.answers_are_finite.Goals as goal

pub returns : goal.returns
returns c = finite_answers
