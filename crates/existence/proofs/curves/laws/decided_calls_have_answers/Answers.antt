use Rattle.existence.proofs.curves.Answered.{answered}
use Rattle.existence.proofs.curves.laws.decided_calls_have_answers.Goals as goal

pub returns : goal.returns
returns c = answered
