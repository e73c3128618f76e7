use Rattle.std.proofs.Common.{◌∙◌, sym, ap}
use Rattle.csv_rows.specs.Rows.{from_row}
use Rattle.csv_rows.proofs.RowEnds.{from_row_twice}
use Rattle.csv_rows.proofs.lines.Lines.next_line.Goals as goal

pub over_row-inner-requires : goal.over_row-inner-requires
over_row-inner-requires c =
    let row = c.to_row-before.ensures.row in
    ap from_row row ∙ (from_row_twice c.args.self.now.rest.now ∙ sym row)
