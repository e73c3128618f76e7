use Rattle.cell_rules.proofs.cell_values.Others.{placed-nothing}
use Rattle.cell_rules.proofs.cell_values.values.Values.new.Goals as goal

pub returns-clause-nothing : goal.returns-clause-nothing
returns-clause-nothing g c = placed-nothing g.V.CellValue.meaning 36352 c.in_ok-new.field-0.newest c.in_ok-new.ensures.empty
