use Rattle.std.proofs.Common.{◌≡◌, ℕ, refl, ap, ◌∙◌}
use Rattle.rational.specs.Rational.{ℚ}
use Rattle.run_laws.specs.Runs.{SpecRun}
use Rattle.command_replies.proofs.run_findings.Reports.{same_reply}
use Rattle.run_check.specs.check_report.CheckReport.{unlawful_report_of}
use Rattle.commands.specs.check.Checked.{packets_in}
use Rattle.commands.proofs.check.checked.reported_broken.Goals as goal

pub returns : goal.returns
returns c =
    let net = c.args.net.now in
    let run = c.args.run.now in
    let broken = c.args.broken in
    let steps = c.deref.ensures.value ∙ ap (λ (r : SpecRun). r.steps) c.run.view_is in
    let counted : c.packets_in-packets.result ≡ packets_in run.steps = c.packets_in-packets.ensures ∙ ap packets_in steps in
    let ended : c.run.inside.end ≡ run.end = ap (λ (r : SpecRun). r.end) c.run.view_is in
    record {
      row = broken.row;
      law = broken.law;
      first = c.requires.first;
      is = same_reply _ _ refl
          (c.in_ok-text.ensures
          ∙ ap (λ (e : ℚ). unlawful_report_of net c.packets_in-packets.result e broken.row broken.law) ended
          ∙ ap (λ (n : ℕ). unlawful_report_of net n run.end broken.row broken.law) counted);
    }
