use Rattle.std.proofs.Common.{pos, sym, subst}
use Rattle.rational.specs.Rational.{int, ◌+ℚ◌}
use Rattle.upp_curve.specs.Curve.{value_at}
use Rattle.upp_normal.specs.Ahead.{HasWindow, IsTimeIn}
use Rattle.curve_call.specs.declared.gaps.Gap.TheVariants.{NoTime, Never, Is}
use Rattle.curve_call.specs.Gaps.{InWindow, IsGap}
use Rattle.curve_call.proofs.LeastNumber.{end_fits}
use Rattle.curve_deviation.proofs.WholeGap.{vertical_is, some_time, never_endless, whole_window}
use Rattle.curve_deviation.proofs.verticals.vertical_within.Goals as goal

pub sum-end-requires : goal.sum-end-requires
sum-end-requires c = let w = c.requires.window in end_fits w.0 c.args.from c.args.period c.args.f.now c.args.g.now w.1.first.curve w.1

pub window_gap-requires : goal.window_gap-requires
window_gap-requires c =
    let w = c.requires.window in
    let W = whole_window w.0 c.args.from c.args.period c.args.f.now c.args.g.now w.1 in
    let e = sym c.sum-end.ensures in (
      w.0,
      subst (λ x. HasWindow w.0 x c.args.f.now) e W.0,
      subst (λ x. HasWindow w.0 x c.args.g.now) e W.1,
      subst (λ t. IsTimeIn w.0 c.sum-end.result t) (sym c.zero.ensures) (subst (λ x. IsTimeIn w.0 x (int (pos 0))) e W.2),
    )

pub returns-in-Is : goal.returns-in-Is
returns-in-Is c =
    let w = c.requires.window in
    vertical_is w.0 c.args.from c.args.period c.args.f.now c.args.g.now c.in-Is.gap w.1 c.requires.first c.requires.second c.requires.slow
    (subst (λ x. IsGap (InWindow (int (pos 0)) x) (value_at c.args.f.now) (value_at c.args.g.now) (Is c.in-Is.gap)) c.sum-end.ensures
    (subst (λ t. IsGap (InWindow t c.sum-end.result) (value_at c.args.f.now) (value_at c.args.g.now) (Is c.in-Is.gap)) c.zero.ensures c.in-Is.ensures.gap))

pub returns-in-NoTime : goal.returns-in-NoTime
returns-in-NoTime c =
    let w = c.requires.window in
    absurd (some_time (value_at c.args.g.now) (c.args.from +ℚ c.args.period) (whole_window w.0 c.args.from c.args.period c.args.f.now c.args.g.now w.1).3 c.requires.second
    (subst (λ x. IsGap (InWindow (int (pos 0)) x) (value_at c.args.f.now) (value_at c.args.g.now) NoTime) c.sum-end.ensures
    (subst (λ t. IsGap (InWindow t c.sum-end.result) (value_at c.args.f.now) (value_at c.args.g.now) NoTime) c.zero.ensures c.in-NoTime.ensures.gap)))

pub returns-in-Never : goal.returns-in-Never
returns-in-Never c =
    absurd (never_endless (value_at c.args.f.now) (value_at c.args.g.now) (c.args.from +ℚ c.args.period) c.requires.first
    (subst (λ x. IsGap (InWindow (int (pos 0)) x) (value_at c.args.f.now) (value_at c.args.g.now) Never) c.sum-end.ensures
    (subst (λ t. IsGap (InWindow t c.sum-end.result) (value_at c.args.f.now) (value_at c.args.g.now) Never) c.zero.ensures c.in-Never.ensures.gap)))
