use Rattle.upp_curve.proofs.ReadableKinds.{zero_small}
use Rattle.net_model.proofs.plain.server_at.Goals as goal

pub bucket_of-requires : goal.bucket_of-requires
bucket_of-requires c = zero_small
