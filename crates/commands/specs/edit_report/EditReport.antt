-- The bytes of the report on a list of edits, line by line and as JSON: what is said of each, and the report on the
-- network after them. Own choice.
use Rattle.std.specs.Prelude.{ℕ, List, ◌++◌, ◌+◌, length, map, codes, slice_index_or, true, false}
use Rattle.std.specs.Fmt.{decimal}
use Rattle.std.specs.List.{flat_map, range_with_len}
use Rattle.net_model.specs.Networks.{Net}
use Rattle.net_cells.specs.Meanings.{CellTable}
use Rattle.report_text.specs.Report.{report_of}
use Rattle.serde_json.specs.Data.{Data, string, number, unsigned, boolean, array, object, no_members, member}
use Rattle.serde_json.specs.View.{items_of}
use Rattle.report_text.specs.declared.json_report.form.Form.{Form}
use Rattle.report_text.specs.declared.json_report.form.Form.TheVariants.{Lines, Json}
use Rattle.report_text.specs.json_report.Forms.{line_of}
use Rattle.report_text.specs.json_report.ReportData.{report_members}
use Rattle.commands.specs.edit_report.Said.{EditSaid, Made, Refused}

-- ---- lines; edits are counted from 1
-- how many cells were touched, or why it is refused
abbrev pub words_of : EditSaid → List ℕ
words_of (Made cells) = codes "ok cells " ++ decimal cells
words_of (Refused reason) = codes "refused " ++ reason

unfoldable pub edit_line : ℕ → EditSaid → List ℕ
edit_line n said = codes "edit " ++ decimal n ++ codes " " ++ words_of said ++ codes "\n"

abbrev pub line_at : List EditSaid → ℕ → List ℕ
line_at said place = edit_line (place + 1) (slice_index_or said place (Made 0))

abbrev pub edit_lines : List EditSaid → List ℕ
edit_lines said = flat_map (line_at said) (range_with_len 0 (length said))

abbrev pub edit_report_of : Net → CellTable → List EditSaid → List ℕ
edit_report_of net at said = edit_lines said ++ report_of net at

-- ---- JSON; members stand in the order of their keys
unfoldable pub said_data : EditSaid → Data
said_data (Made cells) =
    object (member (codes "cells") (number (unsigned cells)) (member (codes "ok") (boolean true) no_members))
said_data (Refused reason) =
    object (member (codes "ok") (boolean false) (member (codes "refused") (string reason) no_members))

-- beside what the report on the network has
abbrev pub edit_report_data : Net → CellTable → List EditSaid → Data
edit_report_data net at said =
    object (member (codes "edits") (array (items_of (map said_data said))) (report_members net at))

-- ---- in each form
abbrev pub edit_report_in : Form → Net → CellTable → List EditSaid → List ℕ
edit_report_in Lines net at said = edit_report_of net at said
edit_report_in Json net at said = line_of (edit_report_data net at said)
