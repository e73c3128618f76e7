use Rattle.report_text.proofs.TextLemmas.{texts_tell_numbers}
use Rattle.report_text.proofs.laws.texts_tell_numbers.Goals as goal

pub returns : goal.returns
returns c = texts_tell_numbers
