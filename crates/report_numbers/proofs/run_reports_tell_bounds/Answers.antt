use Rattle.report_numbers.proofs.RunLines.{run_reports_tell_bounds as law}
use Rattle.report_numbers.proofs.run_reports_tell_bounds.Goals as goal

pub returns : goal.returns
returns c = law
