use Rattle.report_text.proofs.RunAgree.{agree}
use Rattle.report_text.proofs.laws.run_reports_agree.Goals as goal

pub returns : goal.returns
returns c = agree
