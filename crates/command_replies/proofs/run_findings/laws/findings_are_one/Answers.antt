use Rattle.command_replies.proofs.run_findings.OneRun.{same_findings}
use Rattle.command_replies.proofs.run_findings.laws.findings_are_one.Goals as goal

pub returns : goal.returns
returns c = same_findings
