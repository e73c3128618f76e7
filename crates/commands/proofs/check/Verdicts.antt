-- The status and the verdict of a report tell whether its run is lawful and keeps the premises.
use Rattle.std.proofs.Common.{◌≡◌, inl, inr, ap}
use Rattle.run_laws.specs.Lawful.{IsLawful}
use Rattle.run_laws.specs.Runs.{SpecRun}
use Rattle.net_model.specs.Accepted.{IsAccepted}
use Rattle.net_model.specs.Networks.{Net}
use Rattle.net_model.specs.NetRoutes.{routes_of}
use Rattle.net_cells.specs.Meanings.{CellTable}
use Rattle.run_check.proofs.broken_laws.WholeRuns.{broken_is_unlawful}
use Rattle.run_check.proofs.Started.{has_paths}
use Rattle.run_watch.specs.simulated_sizes.Laws.{AreCurves}
use Rattle.command_replies.specs.Replies.{Reply}
use Rattle.command_replies.specs.run_findings.Statuses.{StatusTells}
use Rattle.command_replies.proofs.run_findings.Reports.{tells}
use Rattle.run_check.specs.check_report.CheckReport.{lawful_report_of}
use Rattle.commands.specs.check.Checked.{packets_in, IsUnlawfulOn, IsLawfulOn}
use Rattle.commands.specs.check.Laws.{VerdictTells, VerdictsTellRuns}

module _ (net : Net) (run : SpecRun) (at : CellTable) (reply : Reply) (a : IsAccepted net) (c : AreCurves net) where
  not_lawful : IsUnlawfulOn net run reply → ¬ IsLawful (routes_of net) run
  not_lawful h = broken_is_unlawful (routes_of net) run h.row h.law (has_paths net a) h.first

  -- the first law that it breaks
  of_unlawful : IsUnlawfulOn net run reply → VerdictTells net run at reply
  of_unlawful h =
      let no = not_lawful h in
      let nine : reply.status ≡ 9 = ap (λ (r : Reply). r.status) h.is in
      record {
        admissible = (λ zero. absurd (cc), λ is. absurd (no is.lawful));
        refused = (λ e is. no is.lawful, λ not. nine);
        unlawful = (λ told. no, λ not. h);
        lawful = (λ told. absurd (no told.lawful), λ law. absurd (no law));
      }

  -- what is found in it
  of_lawful : IsLawfulOn net run at reply → VerdictTells net run at reply
  of_lawful h =
      let law = h.lawful in
      let t : StatusTells net run reply.status =
      tells lawful_report_of net run (packets_in run.steps) at reply law a c h.tells in
      record {
        admissible = (λ zero. record { lawful = law; keeps = t.keeps.0 zero }, λ is. t.keeps.1 is.keeps);
        refused = (
          λ nine is. t.breaks.0 nine is.keeps,
          λ not. t.breaks.1 (λ keeps. not record { lawful = law; keeps = keeps }),
        );
        unlawful = (λ told. absurd (not_lawful told law), λ no. absurd (no law));
        lawful = (λ told. law, λ is. h);
      }

pub verdicts : VerdictsTellRuns
verdicts net_bytes run_bytes reply h =
    let a = h.analysed in
    elim h.report.verdict [
      | inl unlawful ↦ of_unlawful h.net h.run h.at reply a.gives.accepted a.curves unlawful
      | inr lawful ↦ of_lawful h.net h.run h.at reply a.gives.accepted a.curves lawful
    ]
