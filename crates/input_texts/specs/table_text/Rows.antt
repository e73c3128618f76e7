-- Rows of a table: lines of fields with commas between them. How fields stand in a line, with double quotes or without,
-- is that of the crate `csv`.
use Rattle.std.specs.Prelude.{ℕ, List, [], unwrap_or, Result, Ok, Err, Bool, ◌&&◌}
use Rattle.std.specs.List.{list_all}
use Rattle.csv.specs.Reading.{records, default_config, strip_bom}
use Rattle.csv.specs.Records.{field_at}
use Rattle.input_texts.specs.plain_text.Plain as plain
use Rattle.input_texts.specs.declared.table_text.fault.TableKind.{TableKind}

abbrev pub Row : Type 0
Row = List (List ℕ)

-- the rows of a text: an empty line is none, and a byte order mark before the first is no part of it
abbrev pub rows_of : List ℕ → List Row
rows_of text = records default_config (strip_bom text)

-- the field at a place, from 0; empty where there is none
abbrev pub field : Row → ℕ → List ℕ
field row place = unwrap_or (field_at row place) []

-- each byte is a space or a visible character of ASCII
abbrev pub is_plain : Row → Bool
is_plain = list_all plain.is_plain

-- ---- what is read, or what is wrong with it
abbrev pub Read : Type 0 → Type 0
Read X = Result X TableKind

abbrev pub and_then : {X Y : Type 0} → Read X → (X → Read Y) → Read Y
and_then (Ok x) next = next x
and_then (Err kind) next = Err kind
