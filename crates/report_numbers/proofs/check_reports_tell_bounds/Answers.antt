use Rattle.report_numbers.proofs.RunLines.{check_reports_tell_bounds as law}
use Rattle.report_numbers.proofs.check_reports_tell_bounds.Goals as goal

pub returns : goal.returns
returns c = law
