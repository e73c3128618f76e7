use Rattle.std.proofs.Common.{sym, true≢false}
use Rattle.rational.proofs.Laws.{le_of_not_lt}
use Rattle.flow_watch.proofs.Buckets.{kept_none, kept_more}
use Rattle.flow_watch.proofs.flows.bucket_upto.Goals as goal

pub loop-number-init : goal.loop-number-init
loop-number-init c = kept_none c.args.bucket.now.burst c.args.bucket.now.rate c.args.entries.now _ _

pub loop-number-preserved : goal.loop-number-preserved
loop-number-preserved c =
    kept_more c.args.bucket.now.burst c.args.bucket.now.rate c.args.entries.now c.loop-number.number c.loop-number.time c.loop-number.level c.in-Ok.next c.index-entries-number.result
    c.loop-number-test.true c.index-entries-number.is c.loop-number.invariant c.in-Ok.ensures (le_of_not_lt (λ h. true≢false (sym (c.if-is_less.ensures.less.1 h))))
