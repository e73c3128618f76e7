use Rattle.report_text.proofs.Agree.{one_report}
use Rattle.report_text.proofs.laws.equations_give_one_report.Goals as goal

pub returns : goal.returns
returns c = one_report
