use Rattle.std.proofs.Common.{subst}
use Rattle.curve_library.specs.Causes.{KeepsOwnLimits}
use Rattle.curve_library.proofs.SignTests.{positive_out, nonpos_out}
use Rattle.curve_library.proofs.LateParts.{at_once, at_rest, in_time}
use Rattle.curve_library.proofs.latencies.nonneg_rate_latency.Goals as goal

pub returns-then-not-is_positive : goal.returns-then-not-is_positive
returns-then-not-is_positive c =
    let T = c.args.latency in
    subst (λ k. KeepsOwnLimits k c.straight.result) (at_once c.args.rate T (nonpos_out c.is_positive.result T c.is_positive.ensures c.if-not-is_positive.true)) c.straight.ensures

pub returns-then-not-is_positive-2 : goal.returns-then-not-is_positive-2
returns-then-not-is_positive-2 c =
    let R = c.args.rate in
    let T = c.args.latency in
    subst (λ k. KeepsOwnLimits k c.straight-then-not-is_positive-2.result)
    (at_rest R T (positive_out c.is_positive.result T c.is_positive.ensures c.if-not-is_positive.false) (nonpos_out c.is_positive-2.result R c.is_positive-2.ensures c.if-not-is_positive-2.true))
    c.straight-then-not-is_positive-2.ensures

pub returns : goal.returns
returns c =
    let R = c.args.rate in
    let T = c.args.latency in
    subst (λ k. KeepsOwnLimits k c.after_latency.result)
    (in_time R T (positive_out c.is_positive.result T c.is_positive.ensures c.if-not-is_positive.false) (positive_out c.is_positive-2.result R c.is_positive-2.ensures c.if-not-is_positive-2.false))
    c.after_latency.ensures
