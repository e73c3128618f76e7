use Rattle.measure_curve.proofs.Kept.{packets_keep_the_curve}
use Rattle.measure_curve.proofs.laws.packets_keep_the_curve.Goals as goal

pub returns : goal.returns
returns c = packets_keep_the_curve
