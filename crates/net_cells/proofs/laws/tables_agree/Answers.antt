use Rattle.net_cells.proofs.Tables.{tables_agree}
use Rattle.net_cells.proofs.laws.tables_agree.Goals as goal

pub returns : goal.returns
returns c = tables_agree
