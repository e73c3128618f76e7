-- Each status of a reply has its cause.
use Rattle.std.proofs.Common.{ℕ, List, inl, inr}
use Rattle.run_laws.specs.Runs.{SpecRun}
use Rattle.net_model.specs.Networks.{Net}
use Rattle.net_cells.specs.Meanings.{CellTable}
use Rattle.run_check.specs.check_report.CheckReport.{lawful_report_of}
use Rattle.command_replies.specs.Replies.{Reply}
use Rattle.outcomes.specs.Stages.{stops, goes_on}
use Rattle.command_replies.specs.run_findings.Statuses.{IsOfReport}
use Rattle.command_replies.proofs.Causes.{malformed, wide, cycle, report, on_no_network, on_cell_over}
use Rattle.command_replies.proofs.Statuses.{status_is}
use Rattle.command_replies.proofs.run_findings.Reports.{is_report}
use Rattle.commands.specs.check.Checked.{packets_in, IsReportOn, IsVerdictReply}
use Rattle.commands.specs.check.OnRuns.{AreAnalysed, IsCheckReport}
use Rattle.commands.specs.check.Laws.{HasCause, StatusesHaveCauses}

-- a report has status 0 or 9
pub of_report : (net : Net) (run : SpecRun) (at : CellTable) (reply : Reply) → IsReportOn net run at reply
    → IsOfReport reply.status
of_report net run at reply h = elim h.verdict [
  | inl unlawful ↦ inr (status_is reply _ unlawful.is)
  | inr lawful ↦ is_report lawful_report_of net run (packets_in run.steps) at reply lawful.tells
]

-- beside a table
beside : (net_file net_bytes run_file run_bytes : List ℕ) (net : Net) (run : SpecRun) (at : CellTable) (reply : Reply)
    → AreAnalysed net_bytes run_bytes net run at → IsVerdictReply net run at reply
    → HasCause net_file net_bytes run_file run_bytes reply
beside net_file net_bytes run_file run_bytes net run at reply analysed (inl over) =
    wide reply (status_is reply _ over.is)
    (inr record { net = net; run = run; at = at; analysed = analysed; over = over })
beside net_file net_bytes run_file run_bytes net run at reply analysed (inr told) =
    let shown : IsCheckReport net_bytes run_bytes reply =
    record { net = net; run = run; at = at; analysed = analysed; report = told } in
    report reply (of_report net run at reply told) shown shown

pub causes : StatusesHaveCauses
causes net_file net_bytes run_file run_bytes reply (stops h) =
    on_no_network reply net_file net_bytes h (λ k. inl k) (λ k. inl k) (λ k. inl (inl k))
causes net_file net_bytes run_file run_bytes reply (goes_on net given (stops h)) =
    malformed reply (status_is reply _ h.is) (inr (net, given, h))
causes net_file net_bytes run_file run_bytes reply (goes_on net given (goes_on run reads (stops h))) =
    cycle reply (status_is reply _ h.is) (net, given, (run, reads, h))
causes net_file net_bytes run_file run_bytes reply (goes_on net given (goes_on run reads (goes_on order o (stops h)))) =
    on_cell_over reply net order h (λ k. inr (net, given, (run, reads, (order, o, k))))
    (λ k. inl (inr (net, given, (run, reads, (order, o, k)))))
causes net_file net_bytes run_file run_bytes reply
    (goes_on net given (goes_on run reads (goes_on order o (goes_on at table (curves, told))))) =
    beside net_file net_bytes run_file run_bytes net run at reply
    record {
      gives = given;
      curves = curves;
      reads = reads;
      order = order;
      ordered = o;
      answers = table.answers;
      meets = table.meets;
    }
    told
