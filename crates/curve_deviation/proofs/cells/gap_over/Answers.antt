use Rattle.std.proofs.Common.{◌∙◌}
use Rattle.rational.proofs.Laws.{not_zero}
use Rattle.curve_deviation.proofs.CellSizes.{value_fits, gap_as, gap_is, quotient_as, quotient_is}
use Rattle.curve_deviation.proofs.cells.gap_over.Goals as goal

pub line_at-requires : goal.line_at-requires
line_at-requires c = let w = c.requires.sizes in value_fits w.0 w.1 c.args.at c.args.c.now.first w.2.limited w.2.first w.3

pub line_at-requires-2 : goal.line_at-requires-2
line_at-requires-2 c = let w = c.requires.sizes in value_fits w.0 w.1 c.args.at c.args.c.now.second w.2.limited w.2.second w.3

pub difference-gap-requires : goal.difference-gap-requires
difference-gap-requires c =
    let w = c.requires.sizes in
    gap_as w.0 w.1 c.args.at c.args.c.now.first c.args.c.now.second c.line_at.result c.line_at-2.result w.2.limited w.2.first w.2.second w.3 c.line_at.ensures c.line_at-2.ensures

pub quotient-requires-clause-some : goal.quotient-requires-clause-some
quotient-requires-clause-some c = not_zero c.args.slope c.requires.some

pub quotient-requires-clause-fits : goal.quotient-requires-clause-fits
quotient-requires-clause-fits c =
    let w = c.requires.sizes in
    let e = gap_is c.args.c.now.first c.args.c.now.second c.args.at c.line_at.result c.line_at-2.result c.difference-gap.result c.line_at.ensures c.line_at-2.ensures c.difference-gap.ensures in
    quotient_as w.0 w.1 c.args.at c.args.slope c.difference-gap.result c.args.c.now.first c.args.c.now.second w.2.limited w.2.first w.2.second w.3 w.4 c.requires.some e

pub returns : goal.returns
returns c =
    let e = gap_is c.args.c.now.first c.args.c.now.second c.args.at c.line_at.result c.line_at-2.result c.difference-gap.result c.line_at.ensures c.line_at-2.ensures c.difference-gap.ensures in
    quotient_is c.args.slope c.difference-gap.result c.quotient.result c.requires.some c.quotient.ensures ∙ e
