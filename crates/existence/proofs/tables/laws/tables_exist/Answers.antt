use Rattle.existence.proofs.tables.OrderedTables.{tables}
use Rattle.existence.proofs.tables.laws.tables_exist.Goals as goal

pub returns : goal.returns
returns c = tables
