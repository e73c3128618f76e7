use Rattle.std.proofs.Common.{sym, subst, pos}
use Rattle.rational.specs.Rational.{int}
use Rattle.upp_curve.specs.Curve.{value_at}
use Rattle.upp_normal.specs.Ahead.{HasWindow}
use Rattle.curve_call.specs.Gaps.{InWindow, IsLargest}
use Rattle.curve_call.specs.Levels.{level_curve}
use Rattle.subadd_closure.proofs.quick_bounds.top_over.Goals as goal

pub side_gap-requires : goal.side_gap-requires
side_gap-requires c =
    let (z, W, Z, T) = c.requires in
    (z, subst (HasWindow z c.args.end) (sym c.of.ensures) W, subst (HasWindow z c.args.end) (sym c.zero_level.ensures) Z, T)

pub returns-in-Is : goal.returns-in-Is
returns-in-Is c =
    let among = InWindow c.args.from c.args.end in
    subst (λ k. IsLargest among (value_at k) (value_at (level_curve (int (pos 0)))) c.in-Is.top) c.of.ensures
    (subst (λ k. IsLargest among (value_at c.of.result) (value_at k) c.in-Is.top) c.zero_level.ensures c.in-Is.ensures.gap)
