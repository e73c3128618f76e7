use Rattle.std.proofs.Common.{◌≡◌}
use Rattle.std.proofs.lemmas.Result.{IfOk-weaker}
use Rattle.rational.specs.Rational.{ℚ, ◌+ℚ◌}
use Rattle.flow_watch.specs.Flows.{IsRaised}
use Rattle.flow_watch.proofs.Buckets.{raised_is}
use Rattle.flow_watch.proofs.flows.next_level.Goals as goal

pub returns : goal.returns
returns c =
    IfOk-weaker c.add.result (λ (x : ℚ). x ≡ c.greater-kept.result +ℚ c.whole.result) (IsRaised c.args.level c.args.rate c.args.time c.args.entering.now)
    (λ (x : ℚ) (h : x ≡ c.greater-kept.result +ℚ c.whole.result). raised_is c.args.level c.args.rate c.args.time c.in_ok-gap.gap c.in_ok-lost.lost c.in_ok-left.left c.greater-kept.result c.zero.result c.whole.result x c.args.entering.now
    c.in_ok-gap.ensures.value c.in_ok-lost.ensures.value c.in_ok-left.ensures.value c.zero.ensures c.greater-kept.ensures c.whole.ensures h) c.add.ensures.value
