use Rattle.existence.proofs.curves.Sums.{sum_answered}
use Rattle.existence.proofs.curves.Lattices.{lower_answered, upper_answered, above_answered}
use Rattle.existence.proofs.curves.Levels.{minus_answered}
use Rattle.existence.proofs.curves.Moves.{scale_answered, shift_answered}
use Rattle.existence.proofs.curves.laws.answers_exist.Goals as goal

pub returns : goal.returns
returns c = record {
  sum = sum_answered;
  min = lower_answered;
  max = upper_answered;
  pos_diff = above_answered;
  pos_minus = minus_answered;
  scale = scale_answered;
  shift = shift_answered;
}
