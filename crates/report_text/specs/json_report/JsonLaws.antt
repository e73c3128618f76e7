-- Laws of the report in its forms.
use Rattle.std.specs.Prelude.{◌≡◌, ℕ, List}
use Rattle.net_model.specs.Accepted.{IsAccepted}
use Rattle.net_model.specs.Networks.{Net}
use Rattle.net_model.specs.Orders.{IsOrder}
use Rattle.net_cells.specs.Equations.{MeetsEquations}
use Rattle.net_cells.specs.Meanings.{CellTable}
use Rattle.report_text.specs.declared.json_report.form.Form.{Form}
use Rattle.report_text.specs.json_report.Forms.{report_in}

-- whatever table meets the equations of a network that has an order
abbrev pub EquationsGiveOneReportInEachForm : Type 0
EquationsGiveOneReportInEachForm =
    (form : Form) (net : Net) (order : List ℕ) (at other : CellTable) → IsAccepted net → IsOrder net order
    → MeetsEquations net at → MeetsEquations net other → report_in form net at ≡ report_in form net other
