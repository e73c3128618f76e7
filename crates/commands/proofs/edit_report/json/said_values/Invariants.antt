use Rattle.std.proofs.Common.{◌≡◌, map, take}
use Rattle.serde_json.specs.View.{view}
use Rattle.commands.specs.edit_report.EditReport.{said_data}
use Rattle.commands.specs.edit_report.Said.{said_view}
use Rattle.commands.proofs.edit_report.json.said_values.Given as goal

abbrev pub invariant-loop-one : goal.invariant-loop-one
invariant-loop-one l = map view l.values.items ≡ map said_data (map said_view (take l.one-index l.said))
