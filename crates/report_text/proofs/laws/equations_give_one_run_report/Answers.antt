use Rattle.report_text.proofs.RunAgree.{one_run_report}
use Rattle.report_text.proofs.laws.equations_give_one_run_report.Goals as goal

pub returns : goal.returns
returns c = one_run_report
