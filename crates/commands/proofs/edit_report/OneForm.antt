-- Whatever table meets the equations of a network, there is one report on edits in each form.
use Rattle.std.proofs.Common.{◌≡◌, ℕ, List, ◌++◌, map, ap}
use Rattle.std.specs.Prelude.{codes}
use Rattle.net_model.specs.Accepted.{IsAccepted}
use Rattle.net_model.specs.Networks.{Net}
use Rattle.net_model.specs.Orders.{IsOrder}
use Rattle.net_cells.specs.Equations.{MeetsEquations}
use Rattle.net_cells.specs.Meanings.{CellTable}
use Rattle.report_text.proofs.Agree.{one_report}
use Rattle.serde_json.specs.Data.{Members, array, object, member}
use Rattle.serde_json.specs.View.{items_of}
use Rattle.report_text.specs.declared.json_report.form.Form.{Form}
use Rattle.report_text.specs.declared.json_report.form.Form.TheVariants.{Lines, Json}
use Rattle.report_text.specs.json_report.Forms.{line_of}
use Rattle.report_text.proofs.json_report.OneForm.{one_report_data}
use Rattle.commands.specs.edit_report.EditReport.{edit_lines, said_data, edit_report_in}
use Rattle.commands.specs.edit_report.Said.{EditSaid}

pub one_edit_report : (form : Form) (net : Net) (order : List ℕ) (at other : CellTable) → IsAccepted net
    → IsOrder net order → MeetsEquations net at → MeetsEquations net other → (said : List EditSaid)
    → edit_report_in form net at said ≡ edit_report_in form net other said
one_edit_report Lines net order at other a o m n said =
    ap (λ (bytes : List ℕ). edit_lines said ++ bytes) (one_report net order at other a o m n)
one_edit_report Json net order at other a o m n said =
    ap (λ (ms : Members). line_of (object (member (codes "edits") (array (items_of (map said_data said))) ms)))
    (one_report_data net order at other a o m n)
