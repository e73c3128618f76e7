use Rattle.upp_curve.specs.Curve.{value_at}
use Rattle.curve_deviation.proofs.CellSizes.{value_fits}
use Rattle.curve_deviation.proofs.RisingParts.{part_line, time_to, rise_of, rise_sizes}
use Rattle.curve_deviation.proofs.walks.rise_at.Goals as goal

pub line_of-line-requires : goal.line_of-line-requires
line_of-line-requires c = let (z, S, T, U) = c.requires.seen in part_line (value_at c.args.c.now) c.args.t c.args.end c.part_at-part.result T.nonneg S.finite c.part_at-part.ensures.goes

pub line_at-requires : goal.line_at-requires
line_at-requires c =
    let (z, S, T, U) = c.requires.seen in
    let (line, last) = rise_sizes z c.args.c.now c.args.t c.args.until c.args.end c.lesser-last.result c.part_at-part.result c.line_of-line.result T U c.requires.before c.part_at-part.ensures.goes
    (c.part_at-part.ensures.stands z S T) c.line_of-line.ensures c.lesser-last.ensures in
    value_fits z c.args.end c.args.t c.line_of-line.result S.limited line (time_to z c.args.end c.args.t T)

pub line_at-requires-2 : goal.line_at-requires-2
line_at-requires-2 c =
    let (z, S, T, U) = c.requires.seen in
    let (line, last) = rise_sizes z c.args.c.now c.args.t c.args.until c.args.end c.lesser-last.result c.part_at-part.result c.line_of-line.result T U c.requires.before c.part_at-part.ensures.goes
    (c.part_at-part.ensures.stands z S T) c.line_of-line.ensures c.lesser-last.ensures in
    value_fits z c.args.end c.lesser-last.result c.line_of-line.result S.limited line last

pub returns-clause-rise : goal.returns-clause-rise
returns-clause-rise c =
    let (z, S, T, U) = c.requires.seen in
    rise_of (value_at c.args.c.now) c.args.t c.args.until c.args.end c.part_at-part.result _ T.nonneg c.requires.before c.requires.rising c.part_at-part.ensures.goes c.line_of-line.ensures
    c.lesser-last.ensures c.line_at.ensures c.line_at-2.ensures

pub returns-clause-sizes : goal.returns-clause-sizes
returns-clause-sizes c = λ z S T U.
    let (line, last) = rise_sizes z c.args.c.now c.args.t c.args.until c.args.end c.lesser-last.result c.part_at-part.result c.line_of-line.result T U c.requires.before c.part_at-part.ensures.goes
    (c.part_at-part.ensures.stands z S T) c.line_of-line.ensures c.lesser-last.ensures in
    record { line = line; until = last }
