use Rattle.std.proofs.Common.{refl}
use Rattle.flow_watch.proofs.Buckets.{under_line}
use Rattle.flow_watch.proofs.flows.bucket_under.Goals as goal

pub returns : goal.returns
returns c = under_line c.args.x c.args.value c.args.line c.in_ok-risen.risen c.in_ok-base.base c.lesser.result c.args.line.slope c.in_ok-risen.ensures.value c.in_ok-base.ensures.value c.lesser.ensures refl
