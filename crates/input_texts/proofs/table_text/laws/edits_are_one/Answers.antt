use Rattle.input_texts.proofs.table_text.OneEditList.{edits_one}
use Rattle.input_texts.proofs.table_text.laws.edits_are_one.Goals as goal

pub returns : goal.returns
returns c = edits_one
