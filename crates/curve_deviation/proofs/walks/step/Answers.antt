use Rattle.std.proofs.Common.{refl}
use Rattle.rational.proofs.Laws.{lt_irrefl, lt_le_trans}
use Rattle.upp_curve.specs.affine_segment.Values.{line_at}
use Rattle.curve_deviation.proofs.CellSizes.{less_as, not_less_as}
use Rattle.curve_deviation.proofs.walks.step.Goals as goal

pub returns-then-is_less-clause-first : goal.returns-then-is_less-clause-first
returns-then-is_less-clause-first c = λ h.
    let high = less_as c.args.levels.now.until c.args.levels.now.end (line_at c.args.cell.now.second c.args.cell.now.until) (line_at c.args.cell.now.first c.args.cell.now.end) c.requires.levels.until c.requires.levels.end (c.if-is_less.ensures.less.0 refl) in
    absurd (lt_irrefl (line_at c.args.cell.now.second c.args.cell.now.until) (lt_le_trans high h))

pub returns-else-is_less-clause-second : goal.returns-else-is_less-clause-second
returns-else-is_less-clause-second c = λ h.
    let low = not_less_as c.args.levels.now.until c.args.levels.now.end (line_at c.args.cell.now.second c.args.cell.now.until) (line_at c.args.cell.now.first c.args.cell.now.end) c.requires.levels.until c.requires.levels.end c.if-is_less.ensures.less in
    absurd (lt_irrefl (line_at c.args.cell.now.second c.args.cell.now.until) (lt_le_trans h low))
