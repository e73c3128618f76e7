-- A report on an admissible run shows no number above the bound beside it, and the bounds of each report hold.
use Rattle.std.proofs.Common.{◌≡◌, ℕ, List, refl, sym, ap, ◌∙◌}
use Rattle.std.specs.Prelude.{Option, Some, None}
use Rattle.net_model.specs.declared.breach.Breach.{Breach}
use Rattle.net_bounds.proofs.Kept.{table_bounds_every_run}
use Rattle.command_replies.specs.Replies.{Reply}
use Rattle.command_replies.specs.run_findings.Findings.{status_by}
use Rattle.command_replies.proofs.run_findings.Bounded.{within}
use Rattle.commands.specs.check.Checked.{packets_in}
use Rattle.commands.specs.check.OnRuns.{IsCheckReport}
use Rattle.commands.specs.check.Laws.{IsAdmissible, AdmissibleRunsAreWithinBounds, ReportsGuarantee}
use Rattle.commands.proofs.check.Causes.{causes}
use Rattle.commands.proofs.check.Verdicts.{verdicts}

quiet_by : (breach : Option Breach) → status_by breach ≡ 0 → breach ≡ None
quiet_by None e = refl
quiet_by (Some x) e = absurd (cc)

admissible : (net_bytes run_bytes : List ℕ) (reply : Reply) → IsCheckReport net_bytes run_bytes reply
    → reply.status ≡ 0 → IsAdmissible net_bytes run_bytes reply
admissible net_bytes run_bytes reply h zero =
    let a = h.analysed in
    let v = verdicts net_bytes run_bytes reply h in
    let is_run = v.admissible.0 zero in
    let told = (v.lawful.1 is_run.lawful).tells in
    record {
      report = h;
      is_run = is_run;
      found = told.found;
      finds = told.finds;
      quiet = quiet_by told.found.breach (sym (ap (λ (r : Reply). r.status) told.is) ∙ zero);
      is = told.is;
      within = within h.net a.order h.at h.run (packets_in h.run.steps) told.found a.gives.accepted a.ordered a.meets
          is_run told.finds;
    }

pub admissible_runs : AdmissibleRunsAreWithinBounds
admissible_runs net_file net_bytes run_file run_bytes reply h zero =
    let report = (causes net_file net_bytes run_file run_bytes reply h).done zero in
    admissible net_bytes run_bytes reply report zero

pub guarantee : ReportsGuarantee
guarantee net_bytes run_bytes reply h run is_run =
    let a = h.analysed in
    table_bounds_every_run h.net a.order h.at run a.gives.accepted a.ordered a.meets is_run
