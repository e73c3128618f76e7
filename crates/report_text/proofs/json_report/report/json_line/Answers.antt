use Rattle.std.proofs.Common.{ℕ, List, ◌++◌, ap, ◌∙◌}
use Rattle.std.specs.Prelude.{codes}
use Rattle.report_text.specs.json_report.Forms.{line_of}
use Rattle.report_text.proofs.json_report.report.json_line.Goals as goal

pub returns : goal.returns
unfolding line_of
returns c = c.in_ok-push.ensures.items ∙ ap (λ (xs : List ℕ). xs ++ codes "\n") (c.in_ok-text.ensures.text c.requires)
