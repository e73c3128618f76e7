use Rattle.report_numbers.proofs.Values.{edit_reports_tell_numbers as law}
use Rattle.report_numbers.proofs.edit_reports_tell_numbers.Goals as goal

pub returns : goal.returns
returns c = law
