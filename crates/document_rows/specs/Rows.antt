-- Rows of a table: cells without the white space at both ends. How cells stand in a text, with double quotes or without, is that
-- of the crate `csv`.
use Rattle.std.specs.Prelude.{ℕ, List, [], unwrap_or, Bool, ◌==◌, length}
use Rattle.csv.specs.Records.{field_at}

abbrev pub Row : Type 0
Row = List (List ℕ)

-- the cell of a column; empty where the row is shorter
abbrev pub cell : Row → ℕ → List ℕ
cell row place = unwrap_or (field_at row place) []

abbrev pub is_empty : List ℕ → Bool
is_empty cell = length cell == 0
