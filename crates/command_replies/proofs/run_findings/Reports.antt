-- How reports end, and what their status tells.
use Rattle.std.proofs.Common.{◌≡◌, ◌≢◌, ℕ, Result, Ok, Err, IfOk, inl, inr, refl, sym, ap, ◌∙◌, subst}
use Rattle.std.specs.Prelude.{Option, Some, None}
use Rattle.run_laws.specs.Lawful.{IsLawful}
use Rattle.run_laws.specs.Runs.{SpecRun}
use Rattle.net_model.specs.Accepted.{IsAccepted}
use Rattle.net_model.specs.declared.breach.Breach.{Breach}
use Rattle.net_model.specs.Networks.{Net}
use Rattle.net_model.specs.NetRoutes.{routes_of}
use Rattle.net_cells.specs.Meanings.{CellTable}
use Rattle.run_watch.specs.first_breaches.Firsts.{TellsFirst}
use Rattle.report_text.specs.RunReport.{Found}
use Rattle.run_watch.specs.simulated_sizes.Laws.{AreCurves}
use Rattle.command_replies.specs.Replies.{Reply}
use Rattle.replies.specs.declared.answer.Answer.{Answer}
use Rattle.command_replies.specs.View.{reply_of, status_of}
use Rattle.command_replies.specs.run_findings.Findings.{status_by, FoundText, found_report, TellsFindings}
use Rattle.command_replies.specs.run_findings.FindingLaws.{FindingsTellPremises}
use Rattle.command_replies.specs.run_findings.Statuses.{StatusTells, IsOfReport}
use Rattle.command_replies.proofs.run_findings.Counted.{no_report}
use Rattle.command_replies.proofs.run_findings.OneRun.{broken, same_findings}

-- ---- what a status tells
of_breach : (net : Net) (run : SpecRun) (breach : Option Breach) (status : ℕ) → IsLawful (routes_of net) run
    → IsAccepted net → AreCurves net → TellsFirst net run breach → status ≡ status_by breach
    → StatusTells net run status
of_breach net run None status law a c h is = record {
  keeps = (λ zero. h, λ kept. is);
  breaks = (λ nine. absurd (cc), λ not. absurd (not h));
}
of_breach net run (Some x) status law a c h is = record {
  keeps = (λ zero. absurd (cc), λ kept. absurd (broken net run x law a c kept h.is));
  breaks = (λ nine kept. broken net run x law a c kept h.is, λ not. is);
}

pub tells : FindingsTellPremises
tells text net run entered at reply law a c h =
    of_breach net run h.found.breach reply.status law a c h.finds.breach (ap (λ (r : Reply). r.status) h.is)

-- ---- statuses
-- a call that answers a refusal, if anything, ends with no report
pub refused : {E : Type 0} (r : Result Answer E) (to : Reply) → to.status ≢ 0 → to.status ≢ 9
    → IfOk r (λ a. reply_of a ≡ to) → ¬ IsOfReport (status_of r)
refused (Ok a) to zero nine is =
    let same : (reply_of a).status ≡ to.status = ap (λ (x : Reply). x.status) is in
    no_report (reply_of a).status (λ e. zero (sym same ∙ e)) (λ e. nine (sym same ∙ e))
refused (Err e) to zero nine is = no_report 5 (λ e. absurd (cc)) (λ e. absurd (cc))

of_status : (breach : Option Breach) → IsOfReport (status_by breach)
of_status None = inl refl
of_status (Some x) = inr refl

-- a reply that tells what is found in a run is a report
pub is_report : (text : FoundText) (net : Net) (run : SpecRun) (entered : ℕ) (at : CellTable) (reply : Reply)
    → TellsFindings text net run entered at reply → IsOfReport reply.status
is_report text net run entered at reply h =
    subst IsOfReport (sym (ap (λ (r : Reply). r.status) h.is)) (of_status h.found.breach)

-- ---- reports
pub same_reply : (x y : Reply) → x.status ≡ y.status → x.bytes ≡ y.bytes → x ≡ y
same_reply x y status bytes =
    ap (λ s. record { status = s; bytes = x.bytes }) status ∙ ap (λ b. record { status = y.status; bytes = b }) bytes

-- two that tell what is found in one run are the same, where the text says the same beside both tables
pub same_telling : (text : FoundText) (net : Net) (run : SpecRun) (entered : ℕ) (at other : CellTable) (x y : Reply)
    → IsLawful (routes_of net) run → IsAccepted net → AreCurves net
    → ((found : Found) → text net at found ≡ text net other found)
    → TellsFindings text net run entered at x → TellsFindings text net run entered other y → x ≡ y
same_telling text net run entered at other x y law a c agree h k =
    let found : h.found ≡ k.found = same_findings net run entered h.found k.found law a c h.finds k.finds in
    h.is ∙ ap (found_report text net at) found
    ∙ ap (λ bytes. record { status = status_by k.found.breach; bytes = bytes }) (agree k.found)
    ∙ sym k.is
