use Rattle.input_texts.proofs.table_text.OneTrace.{fault_one}
use Rattle.input_texts.proofs.table_text.laws.faults_are_one.Goals as goal

pub returns : goal.returns
returns c = fault_one
