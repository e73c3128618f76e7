use Rattle.min_plus.proofs.BucketDeviations.{bucket_deviations}
use Rattle.min_plus.proofs.bucket_deviations.Goals as goal

pub returns : goal.returns
returns c = bucket_deviations
