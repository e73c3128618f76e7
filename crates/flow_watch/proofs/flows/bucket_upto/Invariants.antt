use Rattle.flow_watch.proofs.Buckets.{IsKept}
use Rattle.flow_watch.proofs.flows.bucket_upto.Given as goal

abbrev pub invariant-loop-number : goal.invariant-loop-number
invariant-loop-number l = IsKept l.bucket.burst l.bucket.rate l.entries l.number l.time l.level
