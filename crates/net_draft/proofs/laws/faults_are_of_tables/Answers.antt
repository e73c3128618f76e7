use Rattle.net_draft.proofs.KindsOfTables.{faults_are_of_tables}
use Rattle.net_draft.proofs.laws.faults_are_of_tables.Goals as goal

pub returns : goal.returns
returns c = faults_are_of_tables
