use Rattle.report_numbers.proofs.Values.{reports_tell_numbers}
use Rattle.report_numbers.proofs.reports_tell_numbers.Goals as goal

pub returns : goal.returns
returns c = reports_tell_numbers
