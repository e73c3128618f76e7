-- The status of a report tells whether its run keeps the premises.
use Rattle.std.proofs.Common.{ℕ, List, length}
use Rattle.run_laws.specs.Lawful.{IsLawful}
use Rattle.net_model.specs.NetRoutes.{routes_of}
use Rattle.input_texts.specs.table_text.Rows.{rows_of}
use Rattle.report_text.specs.RunReport.{run_report_of}
use Rattle.command_replies.specs.Replies.{Reply}
use Rattle.command_replies.proofs.simulated_findings.Lawful.{lawful}
use Rattle.command_replies.proofs.run_findings.Reports.{tells}
use Rattle.commands.specs.simulate.OnTraces.{IsRunReport}
use Rattle.commands.specs.simulate.Laws.{StatusTellsPremises}
use Rattle.commands.proofs.simulate.Named.{named}

-- the run of a report is lawful
pub law_of : (net_bytes trace_bytes : List ℕ) (reply : Reply) (h : IsRunReport net_bytes trace_bytes reply)
    → IsLawful (routes_of h.net) h.report.run
law_of net_bytes trace_bytes reply h =
    let a = h.analysed in
    lawful h.net h.trace h.report.run a.gives.accepted a.read.keeps
    (named h.net (rows_of trace_bytes) h.trace a.read.reads) h.report.stated

pub status_tells : StatusTellsPremises
status_tells net_bytes trace_bytes reply h =
    let a = h.analysed in
    tells run_report_of h.net h.report.run (length h.trace.packets) h.at reply (law_of net_bytes trace_bytes reply h)
    a.gives.accepted a.curves h.report.tells
