use Rattle.existence.proofs.tables.Tables.{tables_or_limits}
use Rattle.existence.proofs.tables.laws.tables_or_limits.Goals as goal

pub returns : goal.returns
returns c = tables_or_limits
