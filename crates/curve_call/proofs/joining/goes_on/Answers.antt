use Rattle.std.proofs.Common.{◌∙◌}
use Rattle.curve_call.proofs.joining.goes_on.Goals as goal

pub returns-in-Some : goal.returns-in-Some
returns-in-Some c = λ h. (c.same_ext.ensures.0 h ∙ c.in-Some.ensures, c.same_lines.ensures.0 c.if-not-same_lines.false)
