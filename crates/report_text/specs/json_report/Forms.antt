-- The forms of the report on a network, and its bytes in each. Own choice.
use Rattle.std.specs.Prelude.{ℕ, ◌++◌, List, codes}
use Rattle.net_model.specs.Networks.{Net}
use Rattle.net_cells.specs.Meanings.{CellTable}
use Rattle.report_text.specs.Report.{report_of}
use Rattle.serde_json.specs.Data.{Data}
use Rattle.serde_json.specs.Written.{compact_text}
use Rattle.report_text.specs.declared.json_report.form.Form.{Form}
use Rattle.report_text.specs.declared.json_report.form.Form.TheVariants.{Lines, Json}
use Rattle.report_text.specs.json_report.ReportData.{report_data}

-- a value without a space, and one newline after it
unfoldable pub line_of : Data → List ℕ
line_of value = compact_text value ++ codes "\n"

abbrev pub report_in : Form → Net → CellTable → List ℕ
report_in Lines net at = report_of net at
report_in Json net at = line_of (report_data net at)
