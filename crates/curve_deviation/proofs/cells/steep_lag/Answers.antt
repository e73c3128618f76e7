use Rattle.std.proofs.Common.{refl, sym, subst}
use Rattle.rational.proofs.Laws.{lt_le_trans, le_lt_trans}
use Rattle.upp_curve.specs.affine_segment.Values.{line_at}
use Rattle.curve_deviation.specs.Cells.{IsCellLag}
use Rattle.curve_deviation.proofs.CellLag.{gets_higher, passing_lag, ending_lag, under_lag}
use Rattle.curve_deviation.proofs.CellSizes.{less_as, not_less_as}
use Rattle.curve_deviation.proofs.cells.steep_lag.Goals as goal

pub gap_over-requires-clause-some : goal.gap_over-requires-clause-some
gap_over-requires-clause-some c = le_lt_trans c.requires.rising.second c.requires.steep

pub gap_over-requires-clause-sizes : goal.gap_over-requires-clause-sizes
gap_over-requires-clause-sizes c = let w = c.requires.sizes in (w.0, w.1, w.2, w.2.until, w.2.first.slope)

pub returns-then-is_less : goal.returns-then-is_less
returns-then-is_less c =
    passing_lag c.args.c.now c.gap_over.result c.requires.rising c.requires.low c.requires.steep
    (less_as c.args.levels.now.until c.args.levels.now.end (line_at c.args.c.now.second c.args.c.now.until) (line_at c.args.c.now.first c.args.c.now.end) c.requires.levels.until c.requires.levels.end (c.if-is_less.ensures.less.0 refl))
    c.gap_over.ensures

pub gap_over-requires-then-is_less-2-clause-some : goal.gap_over-requires-then-is_less-2-clause-some
gap_over-requires-then-is_less-2-clause-some c =
    let low = not_less_as c.args.levels.now.until c.args.levels.now.end (line_at c.args.c.now.second c.args.c.now.until) (line_at c.args.c.now.first c.args.c.now.end) c.requires.levels.until c.requires.levels.end c.if-is_less.ensures.less in
    let high = less_as c.args.levels.now.from c.args.levels.now.end (line_at c.args.c.now.second c.args.c.now.from) (line_at c.args.c.now.first c.args.c.now.end) c.requires.levels.from c.requires.levels.end (c.if-is_less-2.ensures.less.0 refl) in
    gets_higher c.args.c.now.second c.args.c.now.from c.args.c.now.until c.requires.rising.second (lt_le_trans high low)

pub gap_over-requires-then-is_less-2-clause-sizes : goal.gap_over-requires-then-is_less-2-clause-sizes
gap_over-requires-then-is_less-2-clause-sizes c = let w = c.requires.sizes in (w.0, w.1, w.2, w.2.end, w.2.second.slope)

pub returns-then-is_less-2 : goal.returns-then-is_less-2
returns-then-is_less-2 c =
    let low = not_less_as c.args.levels.now.until c.args.levels.now.end (line_at c.args.c.now.second c.args.c.now.until) (line_at c.args.c.now.first c.args.c.now.end) c.requires.levels.until c.requires.levels.end c.if-is_less.ensures.less in
    let high = less_as c.args.levels.now.from c.args.levels.now.end (line_at c.args.c.now.second c.args.c.now.from) (line_at c.args.c.now.first c.args.c.now.end) c.requires.levels.from c.requires.levels.end (c.if-is_less-2.ensures.less.0 refl) in
    ending_lag c.args.c.now c.gap_over-then-is_less-2.result c.requires.rising c.requires.steep low high c.gap_over-then-is_less-2.ensures

pub returns : goal.returns
returns c =
    let under = not_less_as c.args.levels.now.from c.args.levels.now.end (line_at c.args.c.now.second c.args.c.now.from) (line_at c.args.c.now.first c.args.c.now.end) c.requires.levels.from c.requires.levels.end c.if-is_less-2.ensures.less in
    subst (IsCellLag c.args.c.now) (sym c.zero.ensures) (under_lag c.args.c.now c.requires.rising under)
