use Rattle.input_texts.proofs.table_text.OneTrace.{trace_one}
use Rattle.input_texts.proofs.table_text.laws.traces_are_one.Goals as goal

pub returns : goal.returns
returns c = trace_one
