use Rattle.input_texts.proofs.table_text.Told.{fault_told}
use Rattle.input_texts.proofs.table_text.laws.faults_are_of_rows.Goals as goal

pub returns : goal.returns
returns c = fault_told
