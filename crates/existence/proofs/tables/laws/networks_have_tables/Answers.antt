use Rattle.existence.proofs.tables.Tables.{have_tables}
use Rattle.existence.proofs.tables.laws.networks_have_tables.Goals as goal

pub returns : goal.returns
returns c = have_tables
