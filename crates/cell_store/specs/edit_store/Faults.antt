-- Why an edit is refused, where its network has a cycle or no table. Own choice.
use Rattle.net_model.specs.declared.net_graph.placing.GraphFault.{GraphFault}
use Rattle.net_model.specs.declared.net_graph.placing.GraphFault.TheVariants as graph
use Rattle.net_cells.specs.declared.cell_table.fault.AnalysisFault.{AnalysisFault}
use Rattle.net_cells.specs.declared.cell_table.fault.AnalysisFault.TheVariants as analysis
use Rattle.net_edits.specs.declared.fault.EditFault.{EditFault}
use Rattle.net_edits.specs.declared.fault.EditFault.TheVariants.{Cycle, TooMany, TooWide, NoMemory}

abbrev pub graph_fault : GraphFault → EditFault
graph_fault (graph.Cycle walk) = Cycle walk
graph_fault graph.NoMemory = NoMemory

abbrev pub analysis_fault : AnalysisFault → EditFault
analysis_fault (analysis.TooMany cell) = TooMany cell
analysis_fault (analysis.TooWide cell) = TooWide cell
analysis_fault analysis.NoMemory = NoMemory
