use Rattle.bounds_command.proofs.OneReply.{tables_are_determined}
use Rattle.bounds_command.proofs.laws.tables_are_determined.Goals as goal

pub returns : goal.returns
returns c = tables_are_determined
