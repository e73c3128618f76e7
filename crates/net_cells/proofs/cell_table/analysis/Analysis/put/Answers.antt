use Rattle.std.proofs.Common.{ap}
use Rattle.std.specs.Option.{option_map}
use Rattle.net_cells.specs.cell_table.Rows.{row_of}
use Rattle.net_cells.proofs.cell_table.Rows.{apart}
use Rattle.net_cells.proofs.cell_table.analysis.Analysis.put.Goals as goal

pub returns-in-Ok-clause-put : goal.returns-in-Ok-clause-put
returns-in-Ok-clause-put g c =
    ap (option_map g.V.CellValue.meaning) (rw c.row_of-row.ensures.value at c.in-Ok.ensures.put)

pub returns-in-Ok-clause-others : goal.returns-in-Ok-clause-others
returns-in-Ok-clause-others g c = λ d n.
    ap (option_map g.V.CellValue.meaning)
    (c.put_in.ensures.others (row_of d) d.b (rw c.row_of-row.ensures.value (apart c.args.cell d n)))

pub returns-in-Err-clause-kept : goal.returns-in-Err-clause-kept
returns-in-Err-clause-kept g c = λ d. ap (option_map g.V.CellValue.meaning) (c.in-Err.ensures.kept (row_of d) d.b)
