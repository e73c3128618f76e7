use Rattle.std.proofs.Common.{pos, refl, sym, subst, true≢false}
use Rattle.rational.specs.Rational.{◌<ℚ◌, int}
use Rattle.rational.specs.Extended.{◌<ₑ◌}
use Rattle.upp_curve.specs.Steady.{rate}
use Rattle.curve_call.specs.Levels.{level_curve}
use Rattle.subadd_closure.proofs.QuickCurves.{bounds_by}
use Rattle.subadd_closure.proofs.quick_bounds.by_level.Goals as goal

pub periods_over-requires : goal.periods_over-requires
periods_over-requires c = subst (λ y. y <ℚ c.lead-lead.result) c.zero.ensures (c.if-not-is_less.ensures.less.0 refl)

pub returns : goal.returns
returns c =
    bounds_by c.args.slow.now c.args.fast.now c.args.from c.args.period c.args.end c.in_ok-level.level c.in_ok-floor.floor c.in_ok-gap.gap c.lead-lead.result
    c.in_ok-high.high c.requires
    (λ h. true≢false (sym (c.if-is_slower.ensures.1 (subst (λ k. rate c.of.result <ₑ rate k) (sym c.zero_level.ensures) (subst (λ k. rate k <ₑ rate (level_curve (int (pos 0)))) (sym c.of.ensures) h)))))
    c.in_ok-level.ensures c.in_ok-floor.ensures c.in_ok-gap.ensures c.lead-lead.ensures c.in_ok-high.ensures
