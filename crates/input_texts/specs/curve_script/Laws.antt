-- Laws of scripts. (Own choice.)
use Rattle.std.specs.Prelude.{◌≡◌, ℕ, List}
use Rattle.rational.specs.Rational.{ℚ}
use Rattle.input_texts.specs.declared.curve_script.fault.LangKind.{LangKind}
use Rattle.input_texts.specs.curve_script.Tokens.{Token, Says}
use Rattle.input_texts.specs.curve_script.Grammar.{Statement}
use Rattle.input_texts.specs.curve_script.Lines.{Spells}
use Rattle.input_texts.specs.curve_script.Scripts.{Numbered, IsScript, IsFirstFault}

-- a line has one reading as words and signs
abbrev pub LineSaysOne : Type 0
LineSaysOne = (line : List ℕ) (a b : List Token) → Says line a → Says line b → a ≡ b

-- and spells one statement at most
abbrev pub LineSpellsOne : Type 0
LineSpellsOne = (line : List ℕ) (s t : Statement ℚ) → Spells line s → Spells line t → s ≡ t

-- a text is one script at most
abbrev pub TextIsOne : Type 0
TextIsOne = (text : List ℕ) (a b : List Numbered) → IsScript text a → IsScript text b → a ≡ b

-- and no script where it has a fault
abbrev pub FaultExcludesScript : Type 0
FaultExcludesScript = (text : List ℕ) (out : List Numbered) (kind : LangKind) (at : ℕ) → IsScript text out
    → IsFirstFault text kind at → ⊥
