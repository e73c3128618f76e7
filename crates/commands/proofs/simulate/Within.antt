-- A report without a breach shows no number above the bound beside it, and the bounds of each report hold.
use Rattle.std.proofs.Common.{◌≡◌, ℕ, List, length}
use Rattle.net_bounds.specs.NetRuns.{IsRunOf}
use Rattle.net_bounds.proofs.Kept.{table_bounds_every_run}
use Rattle.command_replies.specs.Replies.{Reply}
use Rattle.command_replies.proofs.run_findings.Bounded.{within}
use Rattle.commands.specs.simulate.OnTraces.{IsRunReport}
use Rattle.commands.specs.simulate.Laws.{IsQuietReport, QuietRunsAreWithinBounds, ReportsGuarantee}
use Rattle.commands.proofs.simulate.Causes.{causes}
use Rattle.commands.proofs.simulate.Status.{law_of, status_tells}

quiet : (net_bytes trace_bytes : List ℕ) (reply : Reply) → IsRunReport net_bytes trace_bytes reply → reply.status ≡ 0
    → IsQuietReport net_bytes trace_bytes reply
quiet net_bytes trace_bytes reply h zero =
    let a = h.analysed in
    let is_run : IsRunOf h.net h.report.run = record {
      lawful = law_of net_bytes trace_bytes reply h;
      keeps = (status_tells net_bytes trace_bytes reply h).keeps.0 zero;
    } in
    record {
      report = h;
      is_run = is_run;
      within = within h.net a.order h.at h.report.run (length h.trace.packets) h.report.tells.found a.gives.accepted
          a.ordered a.meets is_run h.report.tells.finds;
    }

pub quiet_runs : QuietRunsAreWithinBounds
quiet_runs net_file net_bytes trace_file trace_bytes reply h zero =
    let report = (causes net_file net_bytes trace_file trace_bytes reply h).done zero in
    quiet net_bytes trace_bytes reply report zero

pub guarantee : ReportsGuarantee
guarantee net_bytes trace_bytes reply h run is_run =
    let a = h.analysed in
    table_bounds_every_run h.net a.order h.at run a.gives.accepted a.ordered a.meets is_run
