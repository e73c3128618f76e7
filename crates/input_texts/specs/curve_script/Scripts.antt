-- What script a text is, and its first fault. (Own choice.)
use Rattle.std.specs.Prelude.{◌≡◌, ℕ, suc, ◌<◌, ◌≤◌, List, [], ◌∷◌, ◌++◌, length, Bool, true, false, ◌==◌, ◌⊎◌, MatchBool}
use Rattle.rational.specs.Rational.{ℚ}
use Rattle.input_texts.specs.declared.curve_script.fault.LangKind.{LangKind}
use Rattle.input_texts.specs.declared.curve_script.fault.LangKind.TheVariants.{C4, NoMemory}
use Rattle.input_texts.specs.declared.curve_script.fault.LangFault.{LangFault}
use Rattle.input_texts.specs.declared.curve_script.script.ScriptLine.{ScriptLine}
use Rattle.input_texts.specs.curve_script.Grammar.{Statement}
use Rattle.input_texts.specs.curve_script.Views.{statement_view}
use Rattle.input_texts.specs.curve_script.Lines.{most, is_skipped, HasFault, IsLine}

abbrev pub line_with : Bool → ℕ → List (List ℕ) → List (List ℕ)
line_with true b ls = [] ∷ ls
line_with false b [] = (b ∷ []) ∷ []
line_with false b (l ∷ ls) = (b ∷ l) ∷ ls

-- the lines of a text, each without its newline; what follows the last newline is one too, which is skipped where it
-- has no byte
abbrev pub lines_of : List ℕ → List (List ℕ)
lines_of [] = [] ∷ []
lines_of (b ∷ bs) = line_with (b == 10) b (lines_of bs)

-- a statement with its line's number
abbrev pub Numbered : Type 0
Numbered = ℕ × Statement ℚ

abbrev pub line_view : ScriptLine → Numbered
line_view l = (l.number, statement_view l.stat)

abbrev pub IsNext : ℕ → ℕ → List ℕ → (List Numbered → Type 0) → List Numbered → Type 0
IsNext n k line later [] = ⊥
IsNext n k line later (x ∷ out) = (x.0 ≡ n) × (k < most) × IsLine line x.1 × later out

-- the statements of these lines in order, the first of which has the number n, behind k other statements
abbrev pub IsScriptFrom : ℕ → ℕ → List (List ℕ) → List Numbered → Type 0
IsScriptFrom n k [] out = out ≡ []
IsScriptFrom n k (l ∷ ls) out = MatchBool (is_skipped l) (IsScriptFrom (suc n) k ls out)
    (IsNext n k l (IsScriptFrom (suc n) (suc k) ls) out)

abbrev pub IsScript : List ℕ → List Numbered → Type 0
IsScript text out = IsScriptFrom 1 0 (lines_of text) out

-- what is wrong with a statement line behind k statements: its own first fault, or that it is one too many
abbrev pub IsWrong : ℕ → LangKind → List ℕ → Type 0
IsWrong k kind line = HasFault kind line ⊎ ((kind ≡ C4) × (most ≤ k) × ((s : Statement ℚ) × IsLine line s))

-- nothing is
abbrev pub IsRight : ℕ → List ℕ → Type 0
IsRight k line = (k < most) × ((s : Statement ℚ) × IsLine line s)

-- the first line of these with a fault has the number at
abbrev pub IsFaultFrom : ℕ → ℕ → List (List ℕ) → LangKind → ℕ → Type 0
IsFaultFrom n k [] kind at = ⊥
IsFaultFrom n k (l ∷ ls) kind at = MatchBool (is_skipped l) (IsFaultFrom (suc n) k ls kind at)
    (((at ≡ n) × IsWrong k kind l) ⊎ (IsRight k l × IsFaultFrom (suc n) (suc k) ls kind at))

abbrev pub IsFirstFault : List ℕ → LangKind → ℕ → Type 0
IsFirstFault text kind at = IsFaultFrom 1 0 (lines_of text) kind at

abbrev pub out_of_memory : LangFault
out_of_memory = record { kind = NoMemory; line = 0 }

-- ---- one line after another
-- what a line adds
abbrev pub Adds : ℕ → List ℕ → List Numbered → List Numbered → Type 0
Adds n line old new = MatchBool (is_skipped line) (new ≡ old)
    ((s : Statement ℚ) × (new ≡ old ++ (n, s) ∷ []) × IsLine line s × (length old < most))

abbrev pub Refuses : ℕ → ℕ → List ℕ → LangFault → Type 0
Refuses n k line e = (is_skipped line ≡ false) × (e.line ≡ n) × IsWrong k e.kind line
