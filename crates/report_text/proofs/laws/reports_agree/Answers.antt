use Rattle.report_text.proofs.Agree.{reports_agree}
use Rattle.report_text.proofs.laws.reports_agree.Goals as goal

pub returns : goal.returns
returns c = reports_agree
