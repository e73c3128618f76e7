use Rattle.std.proofs.Common.{map, ap, ◌∙◌}
use Rattle.std.proofs.lemmas.Result.{IfOk-weaker}
use Rattle.serde_json.specs.Written.{has_float}
use Rattle.report_text.specs.json_report.Forms.{line_of}
use Rattle.commands.specs.edit_report.Said.{said_view}
use Rattle.commands.proofs.edit_report.Floats.{report_without_float}
use Rattle.commands.proofs.edit_report.json.json_text.Goals as goal

pub json_line-requires : goal.json_line-requires
json_line-requires g c =
    ap has_float c.in_ok-value.ensures
    ∙ report_without_float c.args.net.now (g.T.Table.at c.args.table.now) (map said_view c.args.said.now)

pub returns : goal.returns
returns g c =
    IfOk-weaker c.json_line.result _ _ (λ text is. is ∙ ap line_of c.in_ok-value.ensures) c.json_line.ensures
