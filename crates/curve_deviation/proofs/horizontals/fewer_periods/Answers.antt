use Rattle.std.proofs.Common.{◌/◌, arith}
use Rattle.curve_deviation.proofs.PeriodsFound.{narrow_with}
use Rattle.curve_deviation.proofs.horizontals.fewer_periods.Goals as goal

pub is_reached-requires-clause-narrow : goal.is_reached-requires-clause-narrow
is_reached-requires-clause-narrow c =
    let few = c.loop-k.invariant.few in
    narrow_with c.args.f.now c.args.g.now (c.loop-k.k / 2) 0 c.args.first 0 c.keeps.ensures c.keeps-2.ensures (omega (arith, few)) (omega arith) c.requires.narrow

pub loop-k-init : goal.loop-k-init
loop-k-init c = record { few = omega arith; reached = λ h. absurd (omega (arith, h)) }

pub loop-k-preserved : goal.loop-k-preserved
loop-k-preserved c =
    let few = c.loop-k.invariant.few in
    record { few = omega (arith, few); reached = λ h. c.is_reached.ensures c.if-not-is_reached.false }
