use Rattle.existence.proofs.reports.Reports.{replies_exist}
use Rattle.existence.proofs.reports.laws.files_have_replies.Goals as goal

pub returns : goal.returns
returns c = replies_exist
