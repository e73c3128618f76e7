use Rattle.report_text.proofs.json_report.OneForm.{one_report_in}
use Rattle.report_text.proofs.json_report.laws.equations_give_one_report_in_each_form.Goals as goal

pub returns : goal.returns
returns c = one_report_in
