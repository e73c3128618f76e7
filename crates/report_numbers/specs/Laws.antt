-- What the bytes of a report tell of the table whose numbers it prints. Own choice.
use Rattle.std.specs.Prelude.{◌≡◌, List, Some, Bool, true, false, IsTrue}
use Rattle.rational.specs.Extended.{Ext}
use Rattle.net_model.specs.Networks.{Net}
use Rattle.net_cells.specs.declared.cell.Cell.{Cell}
use Rattle.net_cells.specs.declared.cell.Kind.{Kind}
use Rattle.net_cells.specs.declared.cell.Kind.TheVariants.{QueueBacklog, Bound}
use Rattle.net_cells.specs.Cells.{has_cell}
use Rattle.net_cells.specs.Meanings.{number, CellTable}
use Rattle.report_text.specs.declared.json_report.form.Form.{Form}
use Rattle.report_text.specs.Laws.{is_printed, IsPrintable}
use Rattle.report_text.specs.json_report.Forms.{report_in}
use Rattle.report_text.specs.RunReport.{Found, run_report_of}
use Rattle.run_check.specs.check_report.CheckReport.{lawful_report_of}
use Rattle.commands.specs.edit_report.EditReport.{edit_report_in}
use Rattle.commands.specs.edit_report.Said.{EditSaid}

-- the cells of the network that a report prints
pub record IsShown (net : Net) (cell : Cell) : Type 0 where
  pub there : IsTrue (has_cell net cell)
  pub printed : IsTrue (is_printed cell.kind)

-- two tables with one report agree wherever it prints a number that a fraction of the code can be
abbrev pub ReportsTellNumbers : Type 0
ReportsTellNumbers =
    (form : Form) (net : Net) (at other : CellTable) → report_in form net at ≡ report_in form net other
    → (cell : Cell) (x : Ext) → IsShown net cell → IsPrintable x → at cell ≡ Some (number x) → other cell ≡ Some (number x)

-- so do two with one report on edits, whatever is said of these
abbrev pub EditReportsTellNumbers : Type 0
EditReportsTellNumbers =
    (form : Form) (net : Net) (at other : CellTable) (answers : List EditSaid)
    → edit_report_in form net at answers ≡ edit_report_in form net other answers
    → (cell : Cell) (x : Ext) → IsShown net cell → IsPrintable x → at cell ≡ Some (number x) → other cell ≡ Some (number x)

-- a run's report prints the bounds of flows and of backlogs alone
abbrev pub is_bound : Kind → Bool
is_bound QueueBacklog = true
is_bound Bound = true
is_bound kind = false

pub record IsBound (net : Net) (cell : Cell) : Type 0 where
  pub there : IsTrue (has_cell net cell)
  pub printed : IsTrue (is_bound cell.kind)

-- two tables agree there, wherever the first has a number that a fraction of the code can be
abbrev pub TellsBounds : Net → CellTable → CellTable → Type 0
TellsBounds net at other =
    (cell : Cell) (x : Ext) → IsBound net cell → IsPrintable x → at cell ≡ Some (number x) → other cell ≡ Some (number x)

-- two with one report on a simulated run do, whatever was found in it
abbrev pub RunReportsTellBounds : Type 0
RunReportsTellBounds =
    (net : Net) (at other : CellTable) (found given : Found) → run_report_of net at found ≡ run_report_of net other given
    → TellsBounds net at other

-- and two with one report on a recorded run that is lawful
abbrev pub CheckReportsTellBounds : Type 0
CheckReportsTellBounds =
    (net : Net) (at other : CellTable) (found given : Found) → lawful_report_of net at found ≡ lawful_report_of net other given
    → TellsBounds net at other
