-- Laws of the report on a recorded run.
use Rattle.std.specs.Prelude.{◌≡◌, ℕ, List}
use Rattle.net_model.specs.Accepted.{IsAccepted}
use Rattle.net_model.specs.Networks.{Net}
use Rattle.net_model.specs.Orders.{IsOrder}
use Rattle.net_cells.specs.Equations.{MeetsEquations}
use Rattle.net_cells.specs.Meanings.{CellTable}
use Rattle.report_text.specs.RunReport.{Found}
use Rattle.run_check.specs.check_report.CheckReport.{lawful_report_of}

-- there is one report on what is found in a run of a network that has an order, whatever table meets its equations
abbrev pub EquationsGiveOneCheckReport : Type 0
EquationsGiveOneCheckReport =
    (net : Net) (order : List ℕ) (at other : CellTable) (found : Found) → IsAccepted net → IsOrder net order
    → MeetsEquations net at → MeetsEquations net other
    → lawful_report_of net at found ≡ lawful_report_of net other found
