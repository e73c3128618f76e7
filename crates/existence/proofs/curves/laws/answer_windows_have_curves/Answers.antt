use Rattle.existence.proofs.curves.Windows.{answer_curve}
use Rattle.existence.proofs.curves.laws.answer_windows_have_curves.Goals as goal

pub returns : goal.returns
returns c = answer_curve
