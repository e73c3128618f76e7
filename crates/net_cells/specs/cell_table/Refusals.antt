-- Why there is no table, where a cell has no value. Own choice.
use Rattle.upp_limits.specs.declared.op_kind.OpFault.{OpFault}
use Rattle.upp_limits.specs.declared.op_kind.OpFault.TheVariants as operator
use Rattle.net_cells.specs.declared.cell.Cell.{Cell}
use Rattle.net_cells.specs.declared.cell_table.fault.AnalysisFault.{AnalysisFault}
use Rattle.net_cells.specs.declared.cell_table.fault.AnalysisFault.TheVariants.{TooMany, TooWide, NoMemory}

-- the network is refused for that cell
abbrev pub fault_at : Cell → OpFault → AnalysisFault
fault_at c operator.TooMany = TooMany c
fault_at c operator.TooWide = TooWide c
fault_at c operator.NoMemory = NoMemory
