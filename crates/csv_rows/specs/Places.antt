-- Where a reader of the crate `csv` stands in a row, by the place of the last byte.
use Rattle.std.specs.Prelude.{◌≡◌, ◌⊎◌, true, false, ℕ, List, [], IfSome}
use Rattle.csv.specs.Machine.{step, is_end, next_record}
use Rattle.csv.specs.Reading.{default_config}
use Rattle.csv.specs.declared.parser.State.{State}
use Rattle.csv.specs.declared.parser.State.TheVariants as st
use Rattle.csv_rows.specs.declared.lines.Place.{Place}
use Rattle.csv_rows.specs.declared.lines.Place.TheVariants as places
use Rattle.csv_rows.specs.Rows.{from_row, is_row_end}

-- a reader that is in no row
abbrev pub IsBetween : State → Type 0
IsBetween s = (s ≡ st.StartRecord) ⊎ (s ≡ st.AfterCr)

abbrev pub state_of : Place → State
state_of places.Between = st.StartRecord
state_of places.CellStart = st.StartField
state_of places.Plain = st.InField
state_of places.Quoted = st.InQuoted
state_of places.AfterQuote = st.AfterQuote

-- the place behind a byte that ends no cell and is no quote
abbrev pub beyond : Place → Place
beyond places.Between = places.Plain
beyond places.CellStart = places.Plain
beyond places.Plain = places.Plain
beyond places.Quoted = places.Quoted
beyond places.AfterQuote = places.Plain

-- the reader goes from this state by this byte to this place, and to none between rows but by an end of the row
abbrev pub Goes : State → ℕ → Place → Type 0
Goes s byte places.Between = (is_row_end byte ≡ true) × (is_end (step default_config s byte).1 ≡ true)
    × IsBetween (step default_config s byte).0
Goes s byte places.CellStart = (is_end (step default_config s byte).1 ≡ false) × ((step default_config s byte).0 ≡ st.StartField)
Goes s byte places.Plain = (is_end (step default_config s byte).1 ≡ false) × ((step default_config s byte).0 ≡ st.InField)
Goes s byte places.Quoted = (is_end (step default_config s byte).1 ≡ false) × ((step default_config s byte).0 ≡ st.InQuoted)
Goes s byte places.AfterQuote = (is_end (step default_config s byte).1 ≡ false) × ((step default_config s byte).0 ≡ st.AfterQuote)

-- A reader that reads the row at the front of a text leaves as much of it, but for ends of lines.
abbrev pub LeavesBehind : (text left : List ℕ) → Type 0
LeavesBehind text left = IfSome (next_record default_config st.StartRecord [] [] text)
    (λ read. IsBetween read.1 × (from_row left ≡ from_row read.2))
