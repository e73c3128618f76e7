use Rattle.measure_curve.proofs.Kept.{least_bucket_is_kept}
use Rattle.measure_curve.proofs.laws.least_bucket_is_kept.Goals as goal

pub returns : goal.returns
returns c = least_bucket_is_kept
