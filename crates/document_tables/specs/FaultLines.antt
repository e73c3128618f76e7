-- What is wrong, and what to write. Own choice.
use Rattle.std.specs.Prelude.{ℕ, List, [], ◌++◌, codes, Option, Some, None}
use Rattle.std.specs.Fmt.{decimal}
use Rattle.document_rows.specs.declared.fault.Column.{Column}
use Rattle.document_rows.specs.declared.fault.Column.TheVariants as column
use Rattle.document_rows.specs.declared.fault.Wrong.{Wrong}
use Rattle.document_rows.specs.declared.fault.Wrong.TheVariants as wrong
use Rattle.document_rows.specs.Heads.{word_of}
use Rattle.document_tables.specs.declared.fault.LineFault.{LineFault}

-- the number of the port of a path that something is wrong with
abbrev pub port_of : Wrong → Option ℕ
port_of (wrong.UnknownPort port) = Some port
port_of (wrong.PortTwice port) = Some port
port_of (wrong.NoSuchQueue port) = Some port
port_of (wrong.QuantumTooShort port) = Some port
port_of (wrong.AfterAnother port) = Some port
port_of kind = None

-- what is wrong
abbrev pub what_of : Wrong → List ℕ
what_of wrong.Missing = codes "the head line lacks it"
what_of wrong.ColumnTwice = codes "the head line has it twice"
what_of wrong.TooManyCells = codes "more cells than the head line"
what_of wrong.TooManyRows = codes "one row too many"
what_of wrong.TooManyLinks = codes "one link too many"
what_of wrong.Empty = codes "empty"
what_of wrong.NoName = codes "no name"
what_of wrong.NameTwice = codes "an earlier row has this name"
what_of wrong.NoNumber = codes "no number"
what_of wrong.NoWhole = codes "no whole number"
what_of wrong.TooSmall = codes "below the least"
what_of wrong.TooLarge = codes "above the most"
what_of wrong.OffGrid = codes "no whole number of picoseconds"
what_of wrong.NoDiscipline = codes "no discipline"
what_of wrong.NoGate = codes "no gate"
what_of wrong.SlotTooLong = codes "the slot is longer than the cycle"
what_of wrong.Differs = codes "another one than in the first row of the link"
what_of wrong.PathTooLong = codes "more than 64 ports"
what_of (wrong.UnknownPort port) = codes "has no row in the table of ports"
what_of (wrong.PortTwice port) = codes "stands in the path before"
what_of (wrong.NoSuchQueue port) = codes "has no queue of this priority"
what_of (wrong.QuantumTooShort port) = codes "has a quantum shorter than the frame"
what_of wrong.BeginsElsewhere = codes "begins at another port than the link"
what_of (wrong.AfterAnother port) = codes "comes after another port than in an earlier path"

-- what a cell of a column has to be
abbrev pub form_of : Column → List ℕ
form_of column.Name = codes "write 1 to 32 letters, digits, _ or -"
form_of column.Rate = codes "write Mbit/s, from 0.000001 to 1000000"
form_of column.Discipline = codes "write fifo, priority N (1 to 8) or drr Q0 Q1 .. (1 to 8 quanta of 1 to 2097152 bytes)"
form_of column.Gate = codes "write CYCLE SLOT in microseconds, the slot from 0.000001 to the cycle, the cycle to 1000000000"
form_of column.Bag = codes "write milliseconds, from 0.000000001 to 1000000"
form_of column.LargestFrame = codes "write bytes, a whole number from 1 to 1048576"
form_of column.Priority = codes "write a whole number from 0 to 7"
form_of column.Path = codes "write 1 to 64 names of ports with spaces between them"
form_of other = codes "write microseconds, from 0 to 1000000000"

-- what to write
abbrev pub mend_of : Column → Wrong → List ℕ
mend_of at wrong.Missing = codes "add the column"
mend_of at wrong.ColumnTwice = codes "keep one"
mend_of at wrong.TooManyCells = codes "put a cell with a comma into double quotes"
mend_of at wrong.TooManyRows = codes "write at most 4096 ports and 131072 branches"
mend_of at wrong.TooManyLinks = codes "write at most 16384 links"
mend_of at wrong.NameTwice = codes "give each port a name of its own"
mend_of at wrong.NoNumber =
    codes "write a number as 12, 1.5 or 3/2, of at most 18 digits in all, or on each side of the slash"
mend_of at wrong.OffGrid = codes "write microseconds with at most 6 digits behind the point"
mend_of at wrong.Differs = codes "write the same in each row of the link"
mend_of at (wrong.UnknownPort port) = codes "write a name of the table of ports"
mend_of at (wrong.PortTwice port) = codes "pass each port once"
mend_of at (wrong.NoSuchQueue port) = codes "write a lower priority, or give the port more queues"
mend_of at (wrong.QuantumTooShort port) = codes "make the quantum as long as the frame with the overhead"
mend_of at wrong.BeginsElsewhere = codes "begin the paths of a link at one port"
mend_of at (wrong.AfterAnother port) = codes "let it come after one port in all paths of the link"
mend_of at kind = form_of at

-- the port of a path, where it is one
abbrev pub port_text : Option ℕ → List ℕ
port_text None = []
port_text (Some port) = codes "port " ++ (decimal port ++ codes " ")

-- where it is
abbrev pub place_text : List ℕ → LineFault → List ℕ
place_text file fault =
    codes "netbound: " ++ (file ++ (codes " line " ++ (decimal fault.line ++ (codes " column " ++ (word_of fault.column ++ codes ": ")))))

abbrev pub fault_line : List ℕ → LineFault → List ℕ
fault_line file fault =
    place_text file fault ++ (port_text (port_of fault.wrong)
    ++ (what_of fault.wrong ++ (codes ": " ++ (mend_of fault.column fault.wrong ++ codes "\n"))))
