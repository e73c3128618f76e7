use Rattle.std.proofs.Common.{refl, sym, subst}
use Rattle.rational.proofs.Laws.{lt_le_trans}
use Rattle.upp_curve.specs.affine_segment.Values.{line_at}
use Rattle.curve_deviation.specs.Cells.{IsCellLag}
use Rattle.curve_deviation.proofs.CellLag.{gets_higher, starting_lag, owed_lag}
use Rattle.curve_deviation.proofs.CellSizes.{less_as, not_less_as}
use Rattle.curve_deviation.proofs.cells.gentle_lag.Goals as goal

pub gap_over-requires-clause-sizes : goal.gap_over-requires-clause-sizes
gap_over-requires-clause-sizes c = let w = c.requires.sizes in (w.0, w.1, w.2, w.2.start, w.2.second.slope)

pub gap_over-requires-clause-some : goal.gap_over-requires-clause-some
gap_over-requires-clause-some c =
    let high = less_as c.args.levels.now.from c.args.levels.now.start (line_at c.args.c.now.second c.args.c.now.from) (line_at c.args.c.now.first c.args.c.now.start) c.requires.levels.from c.requires.levels.start (c.if-is_less.ensures.less.0 refl) in
    gets_higher c.args.c.now.second c.args.c.now.from c.args.c.now.until c.requires.rising.second (lt_le_trans high c.requires.low)

pub returns-then-is_less : goal.returns-then-is_less
returns-then-is_less c =
    let high = less_as c.args.levels.now.from c.args.levels.now.start (line_at c.args.c.now.second c.args.c.now.from) (line_at c.args.c.now.first c.args.c.now.start) c.requires.levels.from c.requires.levels.start (c.if-is_less.ensures.less.0 refl) in
    starting_lag c.args.c.now c.gap_over.result c.requires.rising c.requires.gentle c.requires.low high c.gap_over.ensures

pub returns : goal.returns
returns c =
    let low = not_less_as c.args.levels.now.from c.args.levels.now.start (line_at c.args.c.now.second c.args.c.now.from) (line_at c.args.c.now.first c.args.c.now.start) c.requires.levels.from c.requires.levels.start c.if-is_less.ensures.less in
    subst (IsCellLag c.args.c.now) (sym c.zero.ensures) (owed_lag c.args.c.now c.requires.rising c.requires.gentle low)
