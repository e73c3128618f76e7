-- A reply that tells what is found in the stated run is a report.
use Rattle.std.proofs.Common.{◌≡◌}
use Rattle.net_model.specs.Networks.{Net}
use Rattle.net_model.specs.Traces.{SpecTrace}
use Rattle.net_cells.specs.Meanings.{CellTable}
use Rattle.report_text.specs.RunReport.{Found}
use Rattle.command_replies.specs.Replies.{Reply}
use Rattle.command_replies.specs.run_findings.Findings.{FoundText, found_report}
use Rattle.command_replies.specs.simulated_findings.Found.{IsFound, IsReportBy}

pub reports : (text : FoundText) (net : Net) (trace : SpecTrace) (at : CellTable) (found : Found) (reply : Reply)
    → IsFound net trace found → reply ≡ found_report text net at found → IsReportBy text net trace at reply
reports text net trace at found reply h is = record {
  narrow = h.narrow;
  run = h.run;
  stated = h.stated;
  tells = record { found = found; finds = h.finds; is = is };
}
