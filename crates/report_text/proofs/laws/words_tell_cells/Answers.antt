use Rattle.report_text.proofs.Told.{words_tell_cells}
use Rattle.report_text.proofs.laws.words_tell_cells.Goals as goal

pub returns : goal.returns
returns c = words_tell_cells
