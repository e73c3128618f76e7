use Rattle.std.proofs.Common.{[], ◌∷◌, map, ap, ◌∙◌}
use Rattle.std.proofs.lemmas.List.{map-append}
use Rattle.serde_json.specs.View.{view}
use Rattle.report_text.proofs.json_report.values.push_value.Goals as goal

pub returns : goal.returns
returns c =
    ap (map view) c.in_ok-push.ensures.items ∙ map-append view c.args.into.now.items (c.args.value ∷ [])
