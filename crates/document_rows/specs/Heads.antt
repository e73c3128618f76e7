-- Head lines: in which column what stands. Own choice.
use Rattle.std.specs.Prelude.{ℕ, ◌+◌, Bool, nat_lt, List, length, drop, codes, Option, Some, None, Result, Ok, Err, ok_or, if◌then◌else◌}
use Rattle.std.specs.List.{position_from}
use Rattle.std.specs.Str.{bytes_eq}
use Rattle.document_rows.specs.declared.fault.Column.{Column}
use Rattle.document_rows.specs.declared.fault.Column.TheVariants as column
use Rattle.document_rows.specs.declared.fault.Wrong.TheVariants.{Missing, ColumnTwice, TooManyCells}
use Rattle.document_rows.specs.declared.heads.PortHead.{PortHead}
use Rattle.document_rows.specs.declared.heads.LinkHead.{LinkHead}
use Rattle.document_rows.specs.Reads.{CellRead, RowRead, and_then, at}
use Rattle.document_rows.specs.Rows.{Row, cell}
use Rattle.document_rows.specs.Cells.{name_in}

-- the word of a column
abbrev pub word_of : Column → List ℕ
word_of column.Name = codes "name"
word_of column.Rate = codes "rate"
word_of column.Latency = codes "latency"
word_of column.Link = codes "link"
word_of column.Discipline = codes "discipline"
word_of column.Gate = codes "gate"
word_of column.Bag = codes "bag"
word_of column.LargestFrame = codes "largest_frame"
word_of column.Jitter = codes "jitter"
word_of column.Priority = codes "priority"
word_of column.Path = codes "path"
word_of column.Deadline = codes "deadline"

-- where a word stands first, from a place on
abbrev pub first_from : List ℕ → ℕ → Row → Option ℕ
first_from word from head = position_from (bytes_eq word) from (drop from head)

-- a place, if there is no other one behind it
abbrev pub only_one : ℕ → Option ℕ → CellRead (Option ℕ)
only_one place None = Ok (Some place)
only_one place (Some other) = Err ColumnTwice

abbrev pub only_place : List ℕ → Row → Option ℕ → CellRead (Option ℕ)
only_place word head None = Ok None
only_place word head (Some place) = only_one place (first_from word (place + 1) head)

abbrev pub place_of : Column → Row → CellRead (Option ℕ)
place_of column head = only_place (word_of column) head (first_from (word_of column) 0 head)

-- of a column that may be missing, and of one that may not
abbrev pub optional : Column → Row → RowRead (Option ℕ)
optional column head = at column (place_of column head)

abbrev pub some_place : Column → Row → CellRead ℕ
some_place column head = and_then (place_of column head) (λ place. ok_or place Missing)

abbrev pub required : Column → Row → RowRead ℕ
required column head = at column (some_place column head)

unfoldable pub port_head : Row → RowRead PortHead
port_head head =
    and_then (required column.Name head) (λ name.
    and_then (required column.Rate head) (λ rate.
    and_then (required column.Latency head) (λ latency.
    and_then (required column.Link head) (λ link.
    and_then (required column.Discipline head) (λ discipline.
    and_then (optional column.Gate head) (λ gate.
    Ok (record { width = length head; name = name; rate = rate; latency = latency; link = link; discipline = discipline; gate = gate })))))))

unfoldable pub link_head : Row → RowRead LinkHead
link_head head =
    and_then (required column.Name head) (λ name.
    and_then (required column.Bag head) (λ bag.
    and_then (required column.LargestFrame head) (λ frame.
    and_then (required column.Jitter head) (λ jitter.
    and_then (required column.Priority head) (λ priority.
    and_then (required column.Path head) (λ path.
    and_then (optional column.Deadline head) (λ deadline.
    Ok (record { width = length head; name = name; bag = bag; largest_frame = frame; jitter = jitter; priority = priority; path = path; deadline = deadline }))))))))

-- the name of a row under a head line of so many cells, of which it has no more
abbrev pub row_name : (width place : ℕ) → Row → RowRead (List ℕ)
row_name width place row =
    if nat_lt width (length row) then Err (record { column = column.Name; wrong = TooManyCells })
    else at column.Name (name_in (cell row place))
