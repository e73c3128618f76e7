-- Statements and expressions apart from where they lie in memory.
use Rattle.std.specs.String.{string_bytes}
use Rattle.rational.specs.Rational.{ℚ}
use Rattle.input_texts.specs.declared.curve_script.script.Expr.{Expr}
use Rattle.input_texts.specs.declared.curve_script.script.Expr.TheVariants.{Name, Zero, OfPair, OfTriple, OnCurve', OnNumber', OnTwo'}
use Rattle.input_texts.specs.declared.curve_script.script.Stat.{Stat}
use Rattle.input_texts.specs.declared.curve_script.script.Stat.TheVariants.{Let, Value, AskOne, AskTwo}
use Rattle.input_texts.specs.curve_script.Grammar as grammar
use Rattle.input_texts.specs.curve_script.Grammar.{Expression, Statement}

abbrev pub expression_view : Expr → Expression ℚ
expression_view (Name s) = grammar.Named (string_bytes s)
expression_view Zero = grammar.Nought
expression_view (OfPair k x y) = grammar.OfPair k x y
expression_view (OfTriple k x y z) = grammar.OfTriple k x y z
expression_view (OnCurve' k p a) = grammar.OnCurve k (expression_view a)
expression_view (OnNumber' k p a x) = grammar.OnNumber k (expression_view a) x
expression_view (OnTwo' k p a q b) = grammar.OnTwo k (expression_view a) (expression_view b)

abbrev pub statement_view : Stat → Statement ℚ
statement_view (Let s e) = grammar.Lets (string_bytes s) (expression_view e)
statement_view (Value e x) = grammar.ValueAt (expression_view e) x
statement_view (AskOne q e) = grammar.AsksOne q (expression_view e)
statement_view (AskTwo q a b) = grammar.AsksTwo q (expression_view a) (expression_view b)
