-- What a call answers, beside what is read.
use Rattle.std.specs.Prelude.{◌≡◌, ℕ, ◌<◌, List, [], ◌∷◌, ◌++◌, Result, Ok, Err}
use Rattle.input_texts.specs.declared.table_text.fault.TableKind.{TableKind}
use Rattle.input_texts.specs.declared.table_text.fault.TableKind.TheVariants.{NoMemory}
use Rattle.input_texts.specs.table_text.Rows.{Row, Read}
use Rattle.input_texts.specs.table_text.EditRows.{EditText, edit_row}
use Rattle.input_texts.specs.table_text.EditLists.{most_edits}

-- this is wrong with it; want of memory says nothing
abbrev pub IsRefused : {Y : Type 0} → TableKind → Read Y → Type 0
IsRefused NoMemory read = Unit {0}
IsRefused kind read = read ≡ Err kind

abbrev pub Tells : {X Y : Type 0} → (X → Y) → Result X TableKind → Read Y → Type 0
Tells view (Ok x) read = read ≡ Ok (view x)
Tells view (Err kind) read = IsRefused kind read

-- a row behind so many others makes these edits those
pub record AddsEdit (before : ℕ) (row : Row) (edits edits2 : List EditText) : Type 0 where
  pub edit : EditText
  pub is : edit_row row ≡ Ok edit
  pub room : before < most_edits
  pub are : edits2 ≡ edits ++ edit ∷ []
