-- Lines of a script, and what is wrong with one. (Own choice.)
use Rattle.std.specs.Prelude.{◌≡◌, ℕ, ◌<◌, ◌≤◌, List, [], ◌∷◌, Some, None, Bool, true, false, ◌||◌, ◌==◌}
use Rattle.std.specs.List.{list_all}
use Rattle.rational.specs.Rational.{ℚ}
use Rattle.input_texts.specs.plain_text.Plain.{is_plain}
use Rattle.input_texts.specs.declared.curve_script.fault.LangKind.{LangKind}
use Rattle.input_texts.specs.declared.curve_script.fault.LangKind.TheVariants.{C1, C2, C3, C4, C5, C6, C7, C8, TooMany, TooWide, NoMemory}
use Rattle.input_texts.specs.curve_script.Tokens.{Token, Says}
use Rattle.input_texts.specs.curve_script.Lexing.{lex}
use Rattle.input_texts.specs.curve_script.Grammar.{Statement, statement_tokens, HasNamesIn, numbers_read_in, depth_in}

-- the deepest nesting of parentheses, and how many statements a script may have
abbrev pub deepest : ℕ
deepest = 64

abbrev pub most : ℕ
most = 256

abbrev pub is_blank : List ℕ → Bool
is_blank line = list_all (λ c. c == 32) line

abbrev pub is_comment : List ℕ → Bool
is_comment [] = false
is_comment (b ∷ bs) = b == 35

-- a line that is no statement, whatever its other bytes
abbrev pub is_skipped : List ℕ → Bool
is_skipped line = is_blank line || is_comment line

-- a line whose bytes are plain, and are those of these tokens
pub record HasTokens (line : List ℕ) (tokens : List Token) : Type 0 where
  pub plain : is_plain line ≡ true
  pub lexed : lex line ≡ Some tokens

-- a line is a statement, as far as any word may stand for a number
pub record IsDraft (line : List ℕ) (draft : Statement (List ℕ)) : Type 0 where
  pub says : Says line (statement_tokens draft)
  pub named : HasNamesIn draft

-- a line spells a statement
pub record Spells (line : List ℕ) (s : Statement ℚ) : Type 0 where
  pub plain : is_plain line ≡ true
  pub draft : Statement (List ℕ)
  pub is : IsDraft line draft
  pub numbers : numbers_read_in draft ≡ Some s

-- the line's own first fault: a byte that is not plain; else no statement, whatever its numbers are; else a word for
-- a number that writes none; else parentheses that nest too deep
abbrev pub HasFault : LangKind → List ℕ → Type 0
HasFault C1 line = is_plain line ≡ false
HasFault C2 line = (is_plain line ≡ true) × ((draft : Statement (List ℕ)) → IsDraft line draft → ⊥)
HasFault C3 line = (is_plain line ≡ true)
    × ((draft : Statement (List ℕ)) × IsDraft line draft × (numbers_read_in draft ≡ None))
HasFault C4 line = (s : Statement ℚ) × Spells line s × (deepest < depth_in s)
HasFault C5 line = ⊥
HasFault C6 line = ⊥
HasFault C7 line = ⊥
HasFault C8 line = ⊥
HasFault TooMany line = ⊥
HasFault TooWide line = ⊥
HasFault NoMemory line = ⊥

-- a statement line within the limit of depth
pub record IsLine (line : List ℕ) (s : Statement ℚ) : Type 0 where
  pub spelt : Spells line s
  pub shallow : depth_in s ≤ deepest
