use Rattle.std.specs.Prelude.{◌<◌}
use Rattle.std.proofs.Common.{sym, subst, ap, ◌∙◌, ◌⊎◌}
use Rattle.rational.specs.Rational.{◌≤ℚ◌}
use Rattle.rational.specs.Families.{either}
use Rattle.upp_curve.specs.Curve.{value_at}
use Rattle.curve_conv.specs.Stretches.{SumTimeIn, IsAhead, PartRow, part_row_sum, IsProperPart, OperandPart, open_at}
use Rattle.curve_conv.specs.Scans.{sizes_in, or_else}
use Rattle.curve_conv.proofs.GridSteps.{steps_while}
use Rattle.curve_conv.proofs.RowLoops.{point_proper}
use Rattle.curve_conv.proofs.PartLoops.{PartWalk, CellFacts, low_fits, walk_start, walk_time, part_facts, walk_step, walk_fewer}
use Rattle.curve_conv.proofs.parts.part.Goals.{After-open_at-after}
use Rattle.curve_conv.proofs.parts.part.Goals as goal

pub difference-room-requires : goal.difference-room-requires
difference-room-requires c =
    let z = sizes_in c.args.s.now.first.now c.args.s.now.second.now c.args.s.now.end in low_fits z c.args.s.now.end c.args.low c.requires.scan.first.limited c.requires.low

pub cells-init : goal.cells-init
cells-init c =
    let s = c.args.s.now in
    let z = sizes_in s.first.now s.second.now s.end in
    walk_start z s.first.now s.second.now c.args.from c.args.until.now c.args.low c.difference-room.result c.limit_of-limit.result s.end c.args.t c.nothing-least.result c.is_less-more.result c.requires.from
    c.difference-room.ensures c.limit_of-limit.ensures c.nothing-least.ensures c.is_less-more.ensures.less

pub stretch_at-here-requires : goal.stretch_at-here-requires
stretch_at-here-requires c =
    let s = c.args.s.now in
    let z = sizes_in s.first.now s.second.now s.end in
    let W = subst (λ b. PartWalk z s.first.now s.second.now c.args.from c.args.until.now c.args.low c.limit_of-limit.result s.end c.args.t c.cells.least b c.cells.x) c.cells-test.true c.cells.invariant in (
      z,
      s.end,
      c.requires.scan.first,
      walk_time z s.first.now s.second.now c.args.from c.args.until.now c.args.low c.difference-room.result c.limit_of-limit.result s.end c.args.t c.cells.least c.cells.x
          c.requires.from c.requires.low c.difference-room.ensures c.limit_of-limit.ensures W,
    )

facts : (c : After-open_at-after) → let s = c.args.s.now in CellFacts (sizes_in s.first.now s.second.now s.end) s.end c.limit_of-limit.result c.cells.x c.args.until.now c.stretch_at-here.result c.early-next.result
facts c =
    let s = c.args.s.now in
    let z = sizes_in s.first.now s.second.now s.end in
    part_facts z s.first.now s.second.now c.args.from c.args.until.now c.args.low c.difference-room.result c.limit_of-limit.result s.end c.args.t c.cells.least c.cells.more c.cells.x c.stretch_at-here.result
    c.early-next.result c.requires.from c.requires.low c.requires.until c.difference-room.ensures c.limit_of-limit.ensures c.cells-test.true c.cells.invariant c.requires.scan.first c.stretch_at-here.ensures.goes
    c.stretch_at-here.ensures.times (c.stretch_at-here.ensures.sizes z s.end c.requires.scan.first) c.early-next.ensures

pub cell_part-cell-requires-clause-point : goal.cell_part-cell-requires-clause-point
cell_part-cell-requires-clause-point c =
    let s = c.args.s.now in
    let z = sizes_in s.first.now s.second.now s.end in
    let F = facts (goal.at.cell_part-cell-requires-clause-point c).After-open_at-after in
    (subst (OperandPart z s.end) (sym c.point_at-point.ensures) F.point, subst IsProperPart (sym c.point_at-point.ensures) (point_proper c.cells.x c.stretch_at-here.result.at))

pub cell_part-cell-requires-clause-after : goal.cell_part-cell-requires-clause-after
cell_part-cell-requires-clause-after c =
    let s = c.args.s.now in
    let z = sizes_in s.first.now s.second.now s.end in
    let F = facts (goal.at.cell_part-cell-requires-clause-after c).After-open_at-after in
    let e_after = c.open_at-after.ensures ∙ ap (λ o. open_at c.cells.x o c.stretch_at-here.result.line) c.or_else-to.ensures in
    (subst (OperandPart z s.end) (sym e_after) F.after, subst IsProperPart (sym e_after) F.proper)

pub lower-least-requires : goal.lower-least-requires
lower-least-requires c =
    let s = c.args.s.now in
    let z = sizes_in s.first.now s.second.now s.end in
    (z, s.end, record { limited = c.requires.scan.first.limited; start = c.requires.time }, c.cells.invariant.stands, c.cell_part-cell.ensures.sizes)

pub cells-smaller : goal.cells-smaller
cells-smaller c =
    let s = c.args.s.now in
    let z = sizes_in s.first.now s.second.now s.end in
    let F = facts (goal.at.cells-smaller c).After-open_at-after in
    subst (λ b. steps_while c.is_time-more.result z.dt c.limit_of-limit.result c.time_or-x.result < steps_while b z.dt c.limit_of-limit.result c.cells.x) (sym c.cells-test.true)
    (walk_fewer z s.end c.limit_of-limit.result c.cells.x c.args.until.now c.stretch_at-here.result c.early-next.result c.is_time-more.result c.time_or-x.result c.requires.scan.first.limited.sizes.dt c.cells.invariant.whole F
    c.is_time-more.ensures c.time_or-x.ensures)

pub cells-preserved : goal.cells-preserved
cells-preserved c =
    let s = c.args.s.now in
    let z = sizes_in s.first.now s.second.now s.end in
    let F = facts (goal.at.cells-preserved c).After-open_at-after in
    let e_after = c.open_at-after.ensures ∙ ap (λ o. open_at c.cells.x o c.stretch_at-here.result.line) c.or_else-to.ensures in
    let T : SumTimeIn z s.end c.args.t = record { limited = c.requires.scan.first.limited; start = c.requires.time } in
    let W = subst (λ b. PartWalk z s.first.now s.second.now c.args.from c.args.until.now c.args.low c.limit_of-limit.result s.end c.args.t c.cells.least b c.cells.x) c.cells-test.true c.cells.invariant in
    let A = subst (λ o. IsAhead (λ u. PartRow o (λ v. c.args.low ≤ℚ v) u ⊎ PartRow (open_at c.cells.x (or_else c.early-next.result c.args.until.now) c.stretch_at-here.result.line) (λ v. c.args.low ≤ℚ v) u)
    (λ u. either (part_row_sum o (value_at s.second.now) (λ v. c.args.low ≤ℚ v) u)
    (part_row_sum (open_at c.cells.x (or_else c.early-next.result c.args.until.now) c.stretch_at-here.result.line) (value_at s.second.now) (λ v. c.args.low ≤ℚ v) u)) s.end c.args.t c.cell_part-cell.result) c.point_at-point.ensures
    (subst (λ o. IsAhead (λ u. PartRow c.point_at-point.result (λ v. c.args.low ≤ℚ v) u ⊎ PartRow o (λ v. c.args.low ≤ℚ v) u)
    (λ u. either (part_row_sum c.point_at-point.result (value_at s.second.now) (λ v. c.args.low ≤ℚ v) u) (part_row_sum o (value_at s.second.now) (λ v. c.args.low ≤ℚ v) u)) s.end c.args.t c.cell_part-cell.result) e_after
    c.cell_part-cell.ensures.ahead) in
    walk_step z s.first.now s.second.now c.args.from c.args.until.now c.args.low c.difference-room.result c.limit_of-limit.result s.end c.args.t c.cells.least c.cell_part-cell.result c.lower-least.result c.cells.x
    c.stretch_at-here.result c.early-next.result c.is_time-more.result c.time_or-x.result c.requires.from c.requires.low c.difference-room.ensures c.limit_of-limit.ensures W c.stretch_at-here.ensures.goes
    c.early-next.ensures F A c.lower-least.ensures.goes c.lower-least.ensures.next (c.lower-least.ensures.sizes z s.end T W.stands c.cell_part-cell.ensures.sizes) c.is_time-more.ensures c.time_or-x.ensures

pub returns-clause-ahead : goal.returns-clause-ahead
returns-clause-ahead c =
    let s = c.args.s.now in
    let z = sizes_in s.first.now s.second.now s.end in
    (subst (λ b. PartWalk z s.first.now s.second.now c.args.from c.args.until.now c.args.low c.limit_of-limit.result s.end c.args.t c.cells.least b c.cells.x) c.cells-test.false c.cells.invariant).ahead
