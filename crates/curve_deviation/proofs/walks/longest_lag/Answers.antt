use Rattle.std.proofs.Common.{refl, sym, subst}
use Rattle.rational.specs.Rational.{◌<ℚ◌}
use Rattle.rational.proofs.Laws.{le_lt_trans}
use Rattle.rational.proofs.Compared.{least_by_test}
use Rattle.upp_curve.specs.Curve.{value_at}
use Rattle.curve_deviation.proofs.RisingParts.{time_to, cell_rises}
use Rattle.curve_deviation.proofs.Walk.{walk_start, walk_end}
use Rattle.curve_deviation.proofs.Sights.{cell_seen, sizes_seen, levels_seen, one_passed, seen_first, passed_on, zero_in, end_to}
use Rattle.curve_deviation.proofs.walks.longest_lag.Goals as goal

pub returns-then-not-is_less : goal.returns-then-not-is_less
returns-then-not-is_less g c =
    let until = c.requires.1.1.1.0 in
    let zero = c.zero-start.result in
    let is = c.zero-start.ensures in
    walk_end g.sizes (value_at c.args.f.now) (value_at c.args.g.now) c.args.until c.args.end record { time = zero; reached = zero; lag = zero }
    (walk_start g.sizes (value_at c.args.f.now) (value_at c.args.g.now) c.args.until c.args.end record { time = zero; reached = zero; lag = zero } is is is until.nonneg (le_lt_trans until.nonneg until.before))
    (least_by_test zero c.args.until c.if-not-is_less.ensures.less)

pub rise_at-above-requires-clause-seen : goal.rise_at-above-requires-clause-seen
rise_at-above-requires-clause-seen g c =
    let until = c.requires.1.1.1.0 in
    (g.sizes, c.requires.0, zero_in g.sizes c.args.end c.zero-start.result c.zero-start.ensures (le_lt_trans until.nonneg until.before), time_to g.sizes c.args.end c.args.until until)

pub rise_at-above-requires-clause-before : goal.rise_at-above-requires-clause-before
rise_at-above-requires-clause-before g c = c.if-not-is_less.ensures.less.0 refl

pub rise_at-below-requires-clause-seen : goal.rise_at-below-requires-clause-seen
rise_at-below-requires-clause-seen g c =
    let until = c.requires.1.1.1.0 in
    (g.sizes, c.requires.1.0, zero_in g.sizes c.args.end c.zero-start.result c.zero-start.ensures (le_lt_trans until.nonneg until.before), end_to g.sizes c.args.end c.requires.1.0.limited)

pub rise_at-below-requires-clause-before : goal.rise_at-below-requires-clause-before
rise_at-below-requires-clause-before g c =
    let until = c.requires.1.1.1.0 in
    subst (λ x. x <ℚ c.args.end) (sym c.zero-start.ensures) (le_lt_trans until.nonneg until.before)

pub loop-until-init : goal.loop-until-init
loop-until-init g c =
    let until = c.requires.1.1.1.0 in
    let is = c.zero-start.ensures in
    let zero = zero_in g.sizes c.args.end c.zero-start.result is (le_lt_trans until.nonneg until.before) in (
      walk_start g.sizes (value_at c.args.f.now) (value_at c.args.g.now) c.args.until c.args.end _ is is is until.nonneg (le_lt_trans until.nonneg until.before),
      seen_first g.sizes (value_at c.args.f.now) (value_at c.args.g.now) _ c.args.until c.args.end _ c.rise_at-above.ensures.rise
          (c.rise_at-above.ensures.sizes g.sizes c.requires.0 zero (time_to g.sizes c.args.end c.args.until until)) c.rise_at-below.ensures.rise
          (c.rise_at-below.ensures.sizes g.sizes c.requires.1.0 zero (end_to g.sizes c.args.end c.requires.1.0.limited)),
    )

pub step-next-requires-clause-sizes : goal.step-next-requires-clause-sizes
step-next-requires-clause-sizes g c =
    let (W, S) = c.loop-until.invariant in (
      g.sizes,
      c.args.end,
      sizes_seen g.sizes (value_at c.args.f.now) (value_at c.args.g.now) c.loop-until.walk c.args.until c.args.end c.loop-until.sight c.cell_of-cell.result c.requires.0.limited c.requires.1.1.1.0 W (c.loop-until-test.ensures.less.0 refl) S
          c.cell_of-cell.ensures,
    )

pub step-next-requires-clause-levels : goal.step-next-requires-clause-levels
step-next-requires-clause-levels g c =
    let (W, S) = c.loop-until.invariant in
    levels_seen g.sizes (value_at c.args.f.now) (value_at c.args.g.now) c.loop-until.walk c.args.until c.args.end c.loop-until.sight c.cell_of-cell.result c.levels_of-levels.result (c.loop-until-test.ensures.less.0 refl) S
    c.cell_of-cell.ensures c.levels_of-levels.ensures

pub step-next-requires-clause-rising : goal.step-next-requires-clause-rising
step-next-requires-clause-rising g c =
    let (W, S) = c.loop-until.invariant in
    cell_rises (value_at c.args.f.now) (value_at c.args.g.now) c.loop-until.walk.time c.loop-until.walk.reached c.args.until c.args.end c.cell_of-cell.result
    (cell_seen g.sizes (value_at c.args.f.now) (value_at c.args.g.now) c.loop-until.walk c.args.until c.args.end c.loop-until.sight c.cell_of-cell.result (c.loop-until-test.ensures.less.0 refl) S c.cell_of-cell.ensures)

pub sight_after-sight-requires : goal.sight_after-sight-requires
sight_after-sight-requires g c =
    let until = c.requires.1.1.1.0 in
    let (at, low, early, reached) = c.requires.1.1.1.1 in
    let (W, S) = c.loop-until.invariant in
    let V = (passed_on g.sizes (value_at c.args.f.now) (value_at c.args.g.now) c.args.until c.args.end at c.loop-until.walk c.step-next.result c.loop-until.sight c.cell_of-cell.result c.requires.1.1.0.0 c.requires.1.1.0.1 low early reached
    c.requires.0.limited until W S (c.loop-until-test.ensures.less.0 refl) c.cell_of-cell.ensures c.step-next.ensures.lag c.step-next.ensures.first c.step-next.ensures.second).0 in
    let passed = one_passed c.loop-until.walk c.step-next.result c.loop-until.sight c.cell_of-cell.result c.cell_of-cell.ensures c.step-next.ensures.first c.step-next.ensures.second in
    ((c.requires.0, c.requires.1.0), (c.requires.1.1.0, (until, (S, (passed, (V.time, V.reached))))))

pub loop-until-preserved : goal.loop-until-preserved
loop-until-preserved g c =
    let until = c.requires.1.1.1.0 in
    let (at, low, early, reached) = c.requires.1.1.1.1 in
    let (W, S) = c.loop-until.invariant in
    let V = (passed_on g.sizes (value_at c.args.f.now) (value_at c.args.g.now) c.args.until c.args.end at c.loop-until.walk c.step-next.result c.loop-until.sight c.cell_of-cell.result c.requires.1.1.0.0 c.requires.1.1.0.1 low early reached
    c.requires.0.limited until W S (c.loop-until-test.ensures.less.0 refl) c.cell_of-cell.ensures c.step-next.ensures.lag c.step-next.ensures.first c.step-next.ensures.second).0 in
    (V, c.sight_after-sight.ensures)

pub loop-until-smaller : goal.loop-until-smaller
loop-until-smaller g c =
    let until = c.requires.1.1.1.0 in
    let (at, low, early, reached) = c.requires.1.1.1.1 in
    let (W, S) = c.loop-until.invariant in
    (passed_on g.sizes (value_at c.args.f.now) (value_at c.args.g.now) c.args.until c.args.end at c.loop-until.walk c.step-next.result c.loop-until.sight c.cell_of-cell.result c.requires.1.1.0.0 c.requires.1.1.0.1 low early reached
    c.requires.0.limited until W S (c.loop-until-test.ensures.less.0 refl) c.cell_of-cell.ensures c.step-next.ensures.lag c.step-next.ensures.first c.step-next.ensures.second).1

pub returns : goal.returns
returns g c =
    walk_end g.sizes (value_at c.args.f.now) (value_at c.args.g.now) c.args.until c.args.end c.loop-until.walk c.loop-until.invariant.0 (least_by_test c.loop-until.walk.time c.args.until c.loop-until-test.ensures.less)
