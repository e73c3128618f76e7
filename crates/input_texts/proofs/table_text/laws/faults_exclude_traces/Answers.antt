use Rattle.input_texts.proofs.table_text.OneTrace.{no_trace}
use Rattle.input_texts.proofs.table_text.laws.faults_exclude_traces.Goals as goal

pub returns : goal.returns
returns c = no_trace
