-- Laws of the calculator. (Own choice.)
use Rattle.std.specs.Prelude.{◌≡◌, ◌≢◌, ℕ, List, [], Ok, Err}
use Rattle.rational.specs.Rational.{ℚ}
use Rattle.upp_curve.specs.Curve.{SpecCurve, value_at}
use Rattle.input_texts.specs.curve_script.Grammar.{Expression}
use Rattle.input_texts.specs.curve_script.Scripts.{Numbered, out_of_memory}
use Rattle.curve_lang.specs.Meaning.{Means}
use Rattle.curve_lang.specs.Answers.{Answered, ScriptMeans}
use Rattle.curve_lang.specs.Found.{Let, with_values, Finds, Told, ScriptTells}

-- a curve that an expression finds has the values that the expression means
abbrev pub FoundIsMeant : Type 0
FoundIsMeant = (ls : List Let) (e : Expression ℚ) (c : SpecCurve) (old new : ℕ) → Finds ls e (Ok c) old new
    → Means (with_values ls) e (value_at c)

-- and the answers that a script finds are those that it means
abbrev pub AnswersAreMeant : Type 0
AnswersAreMeant = (lines : List Numbered) (out : List Answered) → ScriptTells lines (Ok out) → ScriptMeans [] lines out

-- want of memory apart, a script finds one thing at most: its answers, or its first fault
abbrev pub ScriptsFindOne : Type 0
ScriptsFindOne = (lines : List Numbered) (r s : Told) → ScriptTells lines r → ScriptTells lines s
    → r ≢ Err out_of_memory → s ≢ Err out_of_memory → r ≡ s
