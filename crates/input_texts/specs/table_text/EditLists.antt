-- Which edits a text asks for, and its first fault. Own choice.
use Rattle.std.specs.Prelude.{◌≡◌, ℕ, suc, ◌<◌, ◌≤◌, List, ◌∷◌, ◌++◌, length, map, Ok, Err, ◌⊎◌}
use Rattle.input_texts.specs.declared.table_text.fault.TableKind.{TableKind}
use Rattle.input_texts.specs.declared.table_text.fault.TableKind.TheVariants.{T7}
use Rattle.input_texts.specs.table_text.Rows.{Row, rows_of}
use Rattle.input_texts.specs.table_text.EditRows.{EditText, edit_row}

-- how many rows an edit list may have
abbrev pub most_edits : ℕ
most_edits = 1000

-- each row's, in their order
pub record AreEditsOf (rows : List Row) (edits : List EditText) : Type 0 where
  pub each : map edit_row rows ≡ map Ok edits
  pub few : length rows ≤ most_edits

-- what is wrong with a row behind so many others: it is one too many; else it is wrong by itself
abbrev pub IsEditWrong : ℕ → Row → TableKind → Type 0
IsEditWrong before row kind = ((kind ≡ T7) × (most_edits ≤ before))
    ⊎ ((before < most_edits) × (edit_row row ≡ Err kind))

-- the rows before it are edits, and it is wrong behind them; rows are counted from 1
pub record IsFirstEditFault (text : List ℕ) (kind : TableKind) (number : ℕ) : Type 0 where
  pub before : List Row
  pub row : Row
  pub after : List Row
  pub rows : rows_of text ≡ before ++ row ∷ after
  pub place : number ≡ suc (length before)
  pub edits : List EditText
  pub right : AreEditsOf before edits
  pub wrong : IsEditWrong (length before) row kind
