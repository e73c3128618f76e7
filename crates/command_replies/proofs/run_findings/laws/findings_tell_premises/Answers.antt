use Rattle.command_replies.proofs.run_findings.Reports.{tells}
use Rattle.command_replies.proofs.run_findings.laws.findings_tell_premises.Goals as goal

pub returns : goal.returns
returns c = tells
