-- No value of a report on edits has a float.
use Rattle.std.proofs.Common.{◌≡◌, List, [], ◌∷◌, map, refl, false}
use Rattle.net_model.specs.Networks.{Net}
use Rattle.net_cells.specs.Meanings.{CellTable}
use Rattle.serde_json.specs.View.{items_of}
use Rattle.serde_json.specs.Written.{has_float, items_have_float}
use Rattle.report_text.proofs.json_report.Floats.{members_without_float}
use Rattle.commands.specs.edit_report.EditReport.{said_data, edit_report_data}
use Rattle.commands.specs.edit_report.Said.{EditSaid, Made, Refused}

said_without_float : (said : EditSaid) → has_float (said_data said) ≡ false
unfolding said_data
said_without_float (Made cells) = refl
said_without_float (Refused reason) = refl

all_without_float : (said : List EditSaid) → items_have_float (items_of (map said_data said)) ≡ false
all_without_float [] = refl
all_without_float (one ∷ more) = rw (said_without_float one) (all_without_float more)

pub report_without_float : (net : Net) (at : CellTable) (said : List EditSaid)
    → has_float (edit_report_data net at said) ≡ false
report_without_float net at said = rw (all_without_float said) (members_without_float net at)
