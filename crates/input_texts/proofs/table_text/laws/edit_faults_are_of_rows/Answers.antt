use Rattle.input_texts.proofs.table_text.OneEditList.{edit_fault_told}
use Rattle.input_texts.proofs.table_text.laws.edit_faults_are_of_rows.Goals as goal

pub returns : goal.returns
returns c = edit_fault_told
