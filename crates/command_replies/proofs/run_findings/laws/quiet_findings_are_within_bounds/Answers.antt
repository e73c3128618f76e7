use Rattle.command_replies.proofs.run_findings.Bounded.{within}
use Rattle.command_replies.proofs.run_findings.laws.quiet_findings_are_within_bounds.Goals as goal

pub returns : goal.returns
returns c = within
