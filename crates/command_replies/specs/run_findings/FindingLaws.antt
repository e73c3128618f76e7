-- What holds of what is found in a lawful run.
use Rattle.std.specs.Prelude.{◌≡◌, ℕ, List}
use Rattle.run_laws.specs.Lawful.{IsLawful}
use Rattle.run_laws.specs.Runs.{SpecRun}
use Rattle.net_model.specs.Accepted.{IsAccepted}
use Rattle.net_model.specs.Networks.{Net}
use Rattle.net_model.specs.NetRoutes.{routes_of}
use Rattle.net_model.specs.Orders.{IsOrder}
use Rattle.net_cells.specs.Equations.{MeetsEquations}
use Rattle.net_cells.specs.Meanings.{CellTable}
use Rattle.net_bounds.specs.NetRuns.{IsRunOf}
use Rattle.run_watch.specs.simulated_sizes.Laws.{AreCurves}
use Rattle.report_text.specs.RunReport.{Found}
use Rattle.command_replies.specs.Replies.{Reply}
use Rattle.command_replies.specs.run_findings.Findings.{AreFindings, FoundText, TellsFindings}
use Rattle.command_replies.specs.run_findings.RunBounds.{AreWithinBounds}
use Rattle.command_replies.specs.run_findings.Statuses.{StatusTells}

-- it is determined
abbrev pub FindingsAreOne : Type 0
FindingsAreOne =
    (net : Net) (run : SpecRun) (entered : ℕ) (f g : Found) → IsLawful (routes_of net) run → IsAccepted net
    → AreCurves net → AreFindings net run entered f → AreFindings net run entered g → f ≡ g

-- the status of a reply that tells it is 0 exactly where the run keeps the premises, and 9 exactly where not
abbrev pub FindingsTellPremises : Type 0
FindingsTellPremises =
    (text : FoundText) (net : Net) (run : SpecRun) (entered : ℕ) (at : CellTable) (reply : Reply)
    → IsLawful (routes_of net) run → IsAccepted net → AreCurves net → TellsFindings text net run entered at reply
    → StatusTells net run reply.status

-- where the run keeps the premises, no number of it is above its bound, in whatever table meets the equations
abbrev pub QuietFindingsAreWithinBounds : Type 0
QuietFindingsAreWithinBounds =
    (net : Net) (order : List ℕ) (at : CellTable) (run : SpecRun) (entered : ℕ) (found : Found) → IsAccepted net
    → IsOrder net order → MeetsEquations net at → IsRunOf net run → AreFindings net run entered found
    → AreWithinBounds net at found
