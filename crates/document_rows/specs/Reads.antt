-- What is read, or the first thing that is wrong with it.
use Rattle.std.specs.Prelude.{◌≡◌, Option, option_map, Result, Ok, Err}
use Rattle.document_rows.specs.declared.fault.Column.{Column}
use Rattle.document_rows.specs.declared.fault.Wrong.{Wrong}
use Rattle.document_rows.specs.declared.fault.CellFault.{CellFault}
use Rattle.document_rows.specs.declared.fault.RowError.{RowError}
use Rattle.document_rows.specs.declared.fault.RowError.TheVariants.{Cell, NoMemory}

-- of a cell, and of a row
abbrev pub CellRead : Type 0 → Type 0
CellRead X = Result X Wrong

abbrev pub RowRead : Type 0 → Type 0
RowRead X = Result X CellFault

-- one after the other: the first fault is that of both
abbrev pub and_then : {X Y E : Type 0} → Result X E → (X → Result Y E) → Result Y E
and_then (Ok x) next = next x
and_then (Err e) next = Err e

-- what is read of the cell of a column
abbrev pub at : {X : Type 0} → Column → CellRead X → RowRead X
at column (Ok x) = Ok x
at column (Err wrong) = Err (record { column = column; wrong = wrong })

-- what a call answers of a row: what it says, or its fault; want of memory says nothing
abbrev pub Tells : {X Y : Type 0} → (X → Y) → Result X RowError → RowRead Y → Type 0
Tells view (Ok x) read = read ≡ Ok (view x)
Tells view (Err (Cell fault)) read = read ≡ Err fault
Tells view (Err NoMemory) read = Unit {0}

-- the same where nothing but want of memory comes between
abbrev pub Finds : {X Y E : Type 0} → (X → Y) → Result (Option X) E → Option Y → Type 0
Finds view (Ok o) found = found ≡ option_map view o
Finds view (Err e) found = Unit {0}

-- as it is seen
abbrev pub viewed : {X Y E : Type 0} → (X → Y) → Result X E → Result Y E
viewed view (Ok x) = Ok (view x)
viewed view (Err e) = Err e
