use Rattle.std.proofs.Common.{ap}
use Rattle.std.specs.Option.{option_map}
use Rattle.net_cells.proofs.cell_table.analysis.AnalysisTable.value.Goals as goal

pub returns : goal.returns
returns g c =
    ap (option_map g.V.CellValue.meaning) (rw (c.deref.ensures.value, c.row_of.ensures.value) at c.at_place.ensures)
