use Rattle.input_texts.proofs.table_text.OneEditList.{no_edit_list}
use Rattle.input_texts.proofs.table_text.laws.faults_exclude_edits.Goals as goal

pub returns : goal.returns
returns c = no_edit_list
