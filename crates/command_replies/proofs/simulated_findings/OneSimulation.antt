-- Two replies on one simulation are the same, where a text says the same beside both tables.
use Rattle.std.proofs.Common.{◌≡◌, ◌<◌, ◌^◌, inl, inr, length, sym, subst, ◌∙◌}
use native.Mathlib.Nat.{not-le_of_lt}
use Rattle.net_model.specs.Accepted.{IsAccepted}
use Rattle.net_model.specs.Networks.{Net}
use Rattle.net_model.specs.Traces.{SpecTrace, IsTrace}
use Rattle.net_cells.specs.Meanings.{CellTable}
use Rattle.net_model.specs.stated_runs.FromTraces.{setup_of, IsTraceOf}
use Rattle.net_model.proofs.stated_runs.MadeSetups as made
use Rattle.net_model.proofs.stated_runs.Unique.{run_once}
use Rattle.sim_bounds.specs.Gauge.{simulation_gauge}
use Rattle.run_watch.specs.simulated_sizes.Laws.{AreCurves}
use Rattle.report_text.specs.RunReport.{Found}
use Rattle.command_replies.specs.Replies.{Reply}
use Rattle.command_replies.specs.run_findings.Findings.{FoundText, TellsFindings}
use Rattle.command_replies.specs.run_findings.Statuses.{IsOfReport}
use Rattle.command_replies.proofs.run_findings.Reports.{same_telling, is_report}
use Rattle.command_replies.specs.simulated_findings.Found.{IsReportBy, IsSimulationReplyBy}
use Rattle.command_replies.proofs.simulated_findings.Lawful.{lawful}

module _ (text : FoundText) (net : Net) (trace : SpecTrace) (at other : CellTable) (x y : Reply) where
  -- the text is the same beside the numbers of both tables
  abbrev pub Agree : Type 0
  Agree = (found : Found) → text net at found ≡ text net other found

  -- what is found in the one run
  same_report : IsAccepted net → IsTrace trace → IsTraceOf net trace → AreCurves net → Agree
      → IsReportBy text net trace at x → IsReportBy text net trace other y → x ≡ y
  same_report a keeps names curves agree h k =
      let setup = made.traces_make_setups net trace a keeps names in
      let one : k.run ≡ h.run = run_once (setup_of net trace) k.run h.run setup k.stated h.stated in
      let tells : TellsFindings text net h.run (length trace.packets) other y =
      subst (λ run. TellsFindings text net run (length trace.packets) other y) one k.tells in
      same_telling text net h.run (length trace.packets) at other x y (lawful net trace h.run a keeps names h.stated) a
      curves agree h.tells tells

  pub same_simulation : IsAccepted net → IsTrace trace → IsTraceOf net trace → AreCurves net → Agree
      → IsSimulationReplyBy text net trace at x → IsSimulationReplyBy text net trace other y → x ≡ y
  same_simulation a keeps names curves agree (inl h) (inl k) = h.is ∙ sym k.is
  same_simulation a keeps names curves agree (inl h) (inr k) =
      absurd (not-le_of_lt k.narrow h.over)
  same_simulation a keeps names curves agree (inr h) (inl k) =
      absurd (not-le_of_lt h.narrow k.over)
  same_simulation a keeps names curves agree (inr h) (inr k) = same_report a keeps names curves agree h k

-- below the gauge's limit it is a report
pub on_simulation : (text : FoundText) (net : Net) (trace : SpecTrace) (at : CellTable) (reply : Reply)
    → simulation_gauge net trace < 2 ^ 120 → IsSimulationReplyBy text net trace at reply → IsOfReport reply.status
on_simulation text net trace at reply narrow (inl h) =
    absurd (not-le_of_lt narrow h.over)
on_simulation text net trace at reply narrow (inr h) =
    is_report text net h.run (length trace.packets) at reply h.tells
