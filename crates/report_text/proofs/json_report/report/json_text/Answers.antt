use Rattle.std.proofs.Common.{ap, ◌∙◌}
use Rattle.std.proofs.lemmas.Result.{IfOk-weaker}
use Rattle.serde_json.specs.Written.{has_float}
use Rattle.report_text.specs.json_report.Forms.{line_of}
use Rattle.report_text.proofs.json_report.Floats.{no_float}
use Rattle.report_text.proofs.json_report.report.json_text.Goals as goal

pub json_line-requires : goal.json_line-requires
json_line-requires g c =
    ap has_float c.in_ok-value.ensures ∙ no_float c.args.net.now (g.T.Table.at c.args.table.now)

pub returns : goal.returns
returns g c =
    IfOk-weaker c.json_line.result _ _ (λ text is. is ∙ ap line_of c.in_ok-value.ensures) c.json_line.ensures
