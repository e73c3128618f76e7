use Rattle.report_text.specs.RunReport.{found_of}
use Rattle.command_replies.proofs.run_findings.Reports.{same_reply}
use Rattle.commands.proofs.Reporting.{reports}
use Rattle.commands.proofs.simulated.reported.Goals as goal

pub returns : goal.returns
returns c =
    reports _ _ _ _ (found_of c.args.found.now) _ c.requires (same_reply _ _ c.status_by-status.ensures c.in_ok-text.ensures)
