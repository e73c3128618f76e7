use Rattle.input_texts.specs.curve_script.Grammar.{depth}
use Rattle.input_texts.specs.curve_script.Views.{expression_view}
use Rattle.curve_lang.proofs.expressions.+curve_of.Given as goal

-- how deep the expression's parentheses nest
abbrev pub decreases-curve_of : goal.decreases-curve_of
decreases-curve_of g l = depth (expression_view l.e.now)
