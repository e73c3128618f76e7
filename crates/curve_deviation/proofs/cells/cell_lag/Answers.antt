use Rattle.std.proofs.Common.{refl, sym, subst}
use Rattle.upp_curve.specs.affine_segment.Values.{line_at}
use Rattle.curve_deviation.specs.Cells.{IsCellLag}
use Rattle.curve_deviation.proofs.CellLag.{apart_lag}
use Rattle.curve_deviation.proofs.CellSizes.{times_differ, less_as, not_less_as}
use Rattle.curve_deviation.proofs.cells.cell_lag.Goals as goal
use Rattle.rational.proofs.Compared.{least_by_test}

pub difference-requires : goal.difference-requires
difference-requires c = let w = c.requires.sizes in times_differ w.0 w.1 c.args.c.now.until c.args.c.now.start w.2.limited w.2.until w.2.start

pub returns-then-is_less : goal.returns-then-is_less
returns-then-is_less c =
    let below = less_as c.args.levels.now.until c.args.levels.now.start (line_at c.args.c.now.second c.args.c.now.until) (line_at c.args.c.now.first c.args.c.now.start) c.requires.levels.until c.requires.levels.start (c.if-is_less.ensures.less.0 refl) in
    subst (IsCellLag c.args.c.now) (sym c.difference.ensures) (apart_lag c.args.c.now c.requires.rising below)

pub steep_lag-requires-clause-low : goal.steep_lag-requires-clause-low
steep_lag-requires-clause-low c =
    not_less_as c.args.levels.now.until c.args.levels.now.start (line_at c.args.c.now.second c.args.c.now.until) (line_at c.args.c.now.first c.args.c.now.start) c.requires.levels.until c.requires.levels.start c.if-is_less.ensures.less

pub gentle_lag-requires-clause-low : goal.gentle_lag-requires-clause-low
gentle_lag-requires-clause-low c =
    not_less_as c.args.levels.now.until c.args.levels.now.start (line_at c.args.c.now.second c.args.c.now.until) (line_at c.args.c.now.first c.args.c.now.start) c.requires.levels.until c.requires.levels.start c.if-is_less.ensures.less

pub gentle_lag-requires-clause-gentle : goal.gentle_lag-requires-clause-gentle
gentle_lag-requires-clause-gentle c = least_by_test c.args.c.now.second.slope c.args.c.now.first.slope c.if-is_less-2.ensures.less
