-- Each status of a reply has its cause.
use Rattle.std.proofs.Common.{ℕ, List, length, inl, inr}
use Rattle.net_model.specs.Networks.{Net}
use Rattle.net_model.specs.Traces.{SpecTrace}
use Rattle.report_text.specs.RunReport.{run_report_of}
use Rattle.net_cells.specs.Meanings.{CellTable}
use Rattle.command_replies.specs.Replies.{Reply}
use Rattle.outcomes.specs.Stages.{stops, goes_on}
use Rattle.command_replies.proofs.Causes.{malformed, wide, cycle, report, on_no_network, on_cell_over}
use Rattle.command_replies.proofs.Statuses.{status_is}
use Rattle.command_replies.proofs.run_findings.Reports.{is_report}
use Rattle.commands.specs.simulate.OnTraces.{AreAnalysed, IsRunReport, IsSimulationReply}
use Rattle.commands.specs.simulate.Laws.{HasCause, StatusesHaveCauses}

-- beside a table
beside : (net_file net_bytes trace_file trace_bytes : List ℕ) (net : Net) (trace : SpecTrace) (at : CellTable)
    (reply : Reply) → AreAnalysed net_bytes trace_bytes net trace at → IsSimulationReply net trace at reply
    → HasCause net_file net_bytes trace_file trace_bytes reply
beside net_file net_bytes trace_file trace_bytes net trace at reply analysed (inl over) =
    wide reply (status_is reply _ over.is)
    (inr record { net = net; trace = trace; at = at; analysed = analysed; over = over })
beside net_file net_bytes trace_file trace_bytes net trace at reply analysed (inr told) =
    let shown : IsRunReport net_bytes trace_bytes reply =
    record { net = net; trace = trace; at = at; analysed = analysed; report = told } in
    report reply (is_report run_report_of net told.run (length trace.packets) at reply told.tells) shown shown

pub causes : StatusesHaveCauses
causes net_file net_bytes trace_file trace_bytes reply (stops h) =
    on_no_network reply net_file net_bytes h (λ k. inl k) (λ k. inl k) (λ k. inl (inl k))
causes net_file net_bytes trace_file trace_bytes reply (goes_on net given (stops h)) =
    malformed reply (status_is reply _ h.is) (inr (net, given, h))
causes net_file net_bytes trace_file trace_bytes reply (goes_on net given (goes_on trace read (stops h))) =
    cycle reply (status_is reply _ h.is) (net, given, (trace, read, h))
causes net_file net_bytes trace_file trace_bytes reply
    (goes_on net given (goes_on trace read (goes_on order o (stops h)))) =
    on_cell_over reply net order h (λ k. inr (net, given, (trace, read, (order, o, k))))
    (λ k. inl (inr (net, given, (trace, read, (order, o, k)))))
causes net_file net_bytes trace_file trace_bytes reply
    (goes_on net given (goes_on trace read (goes_on order o (goes_on at table (curves, told))))) =
    beside net_file net_bytes trace_file trace_bytes net trace at reply
    record {
      gives = given;
      curves = curves;
      read = read;
      order = order;
      ordered = o;
      answers = table.answers;
      meets = table.meets;
    }
    told
