use Rattle.std.proofs.Common.{ℕ, List, ◌++◌, ap, ◌∙◌}
use Rattle.std.specs.Prelude.{codes}
use Rattle.serde_json.specs.Written.{compact_text, has_float}
use Rattle.bounds_report.specs.Data.{report_json}
use Rattle.bounds_report.proofs.Floats.{no_float}
use Rattle.bounds_report.proofs.data.report_json.Goals as goal

pub returns : goal.returns
unfolding report_json
returns c =
    let value = c.in_ok-value.ensures in
    let plain = ap has_float value ∙ no_float c.args.report.now in
    c.in_ok-push_str.ensures.bytes ∙ ap (λ (xs : List ℕ). xs ++ codes "\n") (c.in_ok-text.ensures.text plain ∙ ap compact_text value)
