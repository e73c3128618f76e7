use Rattle.std.proofs.Common.{subst}
use Rattle.rational.proofs.Compared.{not_less_out}
use Rattle.curve_library.specs.Causes.{KeepsOwnLimits}
use Rattle.curve_library.proofs.SignTests.{positive_out, nonpos_out}
use Rattle.curve_library.proofs.GateParts.{no_rate, never_closed, is_gated}
use Rattle.curve_library.proofs.gates.nonneg_gate.Goals as goal

pub returns-then-not-is_positive : goal.returns-then-not-is_positive
returns-then-not-is_positive c =
    let R = c.args.rate in
    subst (λ k. KeepsOwnLimits k c.straight.result) (no_rate R c.args.cycle c.args.slot (nonpos_out c.is_positive.result R c.is_positive.ensures c.if-not-is_positive.true)) c.straight.ensures

pub returns-then-not-is_less : goal.returns-then-not-is_less
returns-then-not-is_less c =
    let R = c.args.rate in
    subst (λ k. KeepsOwnLimits k c.straight-then-not-is_less.result)
    (never_closed R c.args.cycle c.args.slot (positive_out c.is_positive.result R c.is_positive.ensures c.if-not-is_positive.false)
    (not_less_out c.is_less.result c.args.slot c.args.cycle c.is_less.ensures.less c.if-not-is_less.true))
    c.straight-then-not-is_less.ensures

pub returns : goal.returns
returns c =
    let R = c.args.rate in
    subst (λ k. KeepsOwnLimits k c.gated.result)
    (is_gated R c.args.cycle c.args.slot (positive_out c.is_positive.result R c.is_positive.ensures c.if-not-is_positive.false) (c.is_less.ensures.less.0 c.if-not-is_less.false)) c.gated.ensures
