use Rattle.net_model.proofs.PlainNets.{one_small}
use Rattle.net_model.proofs.plain.flow_at.Goals as goal

pub bucket_of-requires : goal.bucket_of-requires
bucket_of-requires c = one_small
