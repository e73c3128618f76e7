use Rattle.std.specs.Prelude.{◌<◌}
use Rattle.std.proofs.Common.{sym, subst, ap, ◌∙◌, ◌⊎◌}
use Rattle.rational.specs.Rational.{◌-ℚ◌}
use Rattle.rational.specs.Families.{either}
use Rattle.curve_conv.specs.Stretches.{SumTimeIn, IsAhead, PartPair, part_pair_sum, IsProperPart, OperandPart, open_at}
use Rattle.curve_conv.specs.Scans.{sizes_in}
use Rattle.curve_conv.proofs.GridSteps.{steps_while}
use Rattle.curve_conv.proofs.RowLoops.{RowWalk, room_fits, walk_start, walk_time, row_facts, point_proper, walk_step, walk_fewer, walk_end}
use Rattle.curve_conv.proofs.rows.row.Goals as goal

pub difference-room-requires : goal.difference-room-requires
difference-room-requires c =
    let z = sizes_in c.args.s.now.first.now c.args.s.now.second.now c.args.s.now.end in
    room_fits z c.args.s.now.end c.args.a.now c.start_of.result c.requires.scan.first.limited c.requires.element c.start_of.ensures

pub cells-init : goal.cells-init
cells-init c =
    let s = c.args.s.now in
    let z = sizes_in s.first.now s.second.now s.end in
    walk_start z s.second.now c.args.a.now c.args.low c.difference-room.result s.end c.args.t c.nothing-least.result c.is_less-more.result c.requires.low
    (c.difference-room.ensures ∙ ap (λ x. s.end -ℚ x) c.start_of.ensures) c.nothing-least.ensures c.is_less-more.ensures.less

pub stretch_at-here-requires : goal.stretch_at-here-requires
stretch_at-here-requires c =
    let s = c.args.s.now in
    let z = sizes_in s.first.now s.second.now s.end in
    let W = subst (λ b. RowWalk z s.second.now c.args.a.now c.args.low c.difference-room.result s.end c.args.t c.cells.least b c.cells.y) c.cells-test.true c.cells.invariant in (
      z,
      s.end,
      c.requires.scan.second,
      walk_time z s.second.now c.args.a.now c.args.low c.difference-room.result s.end c.args.t c.cells.least c.cells.y c.requires.element c.requires.low
          (c.difference-room.ensures ∙ ap (λ x. s.end -ℚ x) c.start_of.ensures) W,
    )

pub cell_row-cell-requires-clause-room : goal.cell_row-cell-requires-clause-room
cell_row-cell-requires-clause-room c =
    let s = c.args.s.now in
    let z = sizes_in s.first.now s.second.now s.end in
    let F = row_facts z s.second.now c.args.a.now c.args.low c.difference-room.result c.start_of.result s.end c.args.t c.cells.least c.cells.more c.cells.y c.stretch_at-here.result c.early-next.result
    c.requires.element c.requires.low c.difference-room.ensures c.start_of.ensures c.cells-test.true c.cells.invariant c.requires.scan.second c.stretch_at-here.ensures.goes c.stretch_at-here.ensures.times
    (c.stretch_at-here.ensures.sizes z s.end c.requires.scan.second) c.early-next.ensures in
    (z, s.end, record { limited = c.requires.scan.first.limited; start = c.requires.time }, c.requires.element, subst (OperandPart z s.end) (sym c.point_at-point.ensures) F.point, subst (OperandPart z s.end) (sym c.open_at-after.ensures) F.after)

pub cell_row-cell-requires-clause-point : goal.cell_row-cell-requires-clause-point
cell_row-cell-requires-clause-point c = subst IsProperPart (sym c.point_at-point.ensures) (point_proper c.cells.y c.stretch_at-here.result.at)

pub cell_row-cell-requires-clause-after : goal.cell_row-cell-requires-clause-after
cell_row-cell-requires-clause-after c =
    let s = c.args.s.now in
    let z = sizes_in s.first.now s.second.now s.end in
    let F = row_facts z s.second.now c.args.a.now c.args.low c.difference-room.result c.start_of.result s.end c.args.t c.cells.least c.cells.more c.cells.y c.stretch_at-here.result c.early-next.result
    c.requires.element c.requires.low c.difference-room.ensures c.start_of.ensures c.cells-test.true c.cells.invariant c.requires.scan.second c.stretch_at-here.ensures.goes c.stretch_at-here.ensures.times
    (c.stretch_at-here.ensures.sizes z s.end c.requires.scan.second) c.early-next.ensures in
    subst IsProperPart (sym c.open_at-after.ensures) F.proper

pub lower-least-requires : goal.lower-least-requires
lower-least-requires c =
    let s = c.args.s.now in
    let z = sizes_in s.first.now s.second.now s.end in
    let F = row_facts z s.second.now c.args.a.now c.args.low c.difference-room.result c.start_of.result s.end c.args.t c.cells.least c.cells.more c.cells.y c.stretch_at-here.result c.early-next.result
    c.requires.element c.requires.low c.difference-room.ensures c.start_of.ensures c.cells-test.true c.cells.invariant c.requires.scan.second c.stretch_at-here.ensures.goes c.stretch_at-here.ensures.times
    (c.stretch_at-here.ensures.sizes z s.end c.requires.scan.second) c.early-next.ensures in (
      z,
      s.end,
      record { limited = c.requires.scan.first.limited; start = c.requires.time },
      c.cells.invariant.stands,
      c.cell_row-cell.ensures.sizes z s.end record { limited = c.requires.scan.first.limited; start = c.requires.time } c.requires.element (subst (OperandPart z s.end) (sym c.point_at-point.ensures) F.point)
          (subst (OperandPart z s.end) (sym c.open_at-after.ensures) F.after),
    )

pub cells-smaller : goal.cells-smaller
cells-smaller c =
    let s = c.args.s.now in
    let z = sizes_in s.first.now s.second.now s.end in
    let F = row_facts z s.second.now c.args.a.now c.args.low c.difference-room.result c.start_of.result s.end c.args.t c.cells.least c.cells.more c.cells.y c.stretch_at-here.result c.early-next.result
    c.requires.element c.requires.low c.difference-room.ensures c.start_of.ensures c.cells-test.true c.cells.invariant c.requires.scan.second c.stretch_at-here.ensures.goes c.stretch_at-here.ensures.times
    (c.stretch_at-here.ensures.sizes z s.end c.requires.scan.second) c.early-next.ensures in
    subst (λ b. steps_while c.is_time-more.result z.dt c.difference-room.result c.time_or-y.result < steps_while b z.dt c.difference-room.result c.cells.y) (sym c.cells-test.true)
    (walk_fewer z s.end c.difference-room.result c.cells.y c.stretch_at-here.result c.early-next.result c.is_time-more.result c.time_or-y.result c.requires.scan.first.limited.sizes.dt c.cells.invariant.whole F
    c.is_time-more.ensures c.time_or-y.ensures)

pub cells-preserved : goal.cells-preserved
cells-preserved c =
    let s = c.args.s.now in
    let z = sizes_in s.first.now s.second.now s.end in
    let F = row_facts z s.second.now c.args.a.now c.args.low c.difference-room.result c.start_of.result s.end c.args.t c.cells.least c.cells.more c.cells.y c.stretch_at-here.result c.early-next.result
    c.requires.element c.requires.low c.difference-room.ensures c.start_of.ensures c.cells-test.true c.cells.invariant c.requires.scan.second c.stretch_at-here.ensures.goes c.stretch_at-here.ensures.times
    (c.stretch_at-here.ensures.sizes z s.end c.requires.scan.second) c.early-next.ensures in
    let T : SumTimeIn z s.end c.args.t = record { limited = c.requires.scan.first.limited; start = c.requires.time } in
    let e = c.difference-room.ensures ∙ ap (λ x. s.end -ℚ x) c.start_of.ensures in
    let W = subst (λ b. RowWalk z s.second.now c.args.a.now c.args.low c.difference-room.result s.end c.args.t c.cells.least b c.cells.y) c.cells-test.true c.cells.invariant in
    let a = c.args.a.now in
    let A = subst (λ o. IsAhead (λ u. PartPair a o u ⊎ PartPair a (open_at c.cells.y c.early-next.result c.stretch_at-here.result.line) u)
    (λ u. either (part_pair_sum a o u) (part_pair_sum a (open_at c.cells.y c.early-next.result c.stretch_at-here.result.line) u)) s.end c.args.t c.cell_row-cell.result) c.point_at-point.ensures
    (subst (λ o. IsAhead (λ u. PartPair a c.point_at-point.result u ⊎ PartPair a o u) (λ u. either (part_pair_sum a c.point_at-point.result u) (part_pair_sum a o u)) s.end c.args.t c.cell_row-cell.result)
    c.open_at-after.ensures (c.cell_row-cell.ensures.ahead s.end)) in
    walk_step z s.second.now a c.args.low c.difference-room.result s.end c.args.t c.cells.least c.cell_row-cell.result c.lower-least.result c.cells.y c.stretch_at-here.result c.early-next.result
    c.is_time-more.result c.time_or-y.result e W c.stretch_at-here.ensures.goes c.early-next.ensures F A c.lower-least.ensures.goes c.lower-least.ensures.next
    (c.lower-least.ensures.sizes z s.end T W.stands (c.cell_row-cell.ensures.sizes z s.end T c.requires.element (subst (OperandPart z s.end) (sym c.point_at-point.ensures) F.point) (subst (OperandPart z s.end) (sym c.open_at-after.ensures) F.after))) c.is_time-more.ensures c.time_or-y.ensures

pub returns-clause-ahead : goal.returns-clause-ahead
returns-clause-ahead c =
    let s = c.args.s.now in
    let z = sizes_in s.first.now s.second.now s.end in
    walk_end z s.second.now c.args.a.now c.args.low c.difference-room.result s.end c.args.t c.cells.least c.cells.y
    (subst (λ b. RowWalk z s.second.now c.args.a.now c.args.low c.difference-room.result s.end c.args.t c.cells.least b c.cells.y) c.cells-test.false c.cells.invariant)
