use Rattle.net_cells.specs.declared.cell.Kind.TheVariants.{Tfa, Sfa}
use Rattle.net_cells.specs.Cells.{cell_of}
use Rattle.net_cells.specs.Formulas.{value_of}
use Rattle.cell_numbers.proofs.OnCells.{smaller_answer}
use Rattle.cell_numbers.proofs.numbers.bound_of.Goals as goal

pub number_at-hop_by_hop-requires : goal.number_at-hop_by_hop-requires
number_at-hop_by_hop-requires g c = c.requires.total

pub number_at-whole_path-requires : goal.number_at-whole_path-requires
number_at-whole_path-requires g c = c.requires.separate

pub returns : goal.returns
returns g c =
    rw c.lesser_value.ensures
    (smaller_answer (g.T.Table.at c.args.table.now) (cell_of Tfa c.args.flow 0) (value_of (cell_of Sfa c.args.flow 0))
    c.number_at-hop_by_hop.result c.number_at-whole_path.result
    c.number_at-hop_by_hop.ensures c.number_at-whole_path.ensures)
