use Rattle.run_check.proofs.check_report.OneReport.{one_check_report}
use Rattle.run_check.proofs.check_report.laws.equations_give_one_check_report.Goals as goal

pub returns : goal.returns
returns c = one_check_report
