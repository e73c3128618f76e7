-- Rows of links. Own choice.
use Rattle.std.specs.Prelude.{ℕ, ◌+◌, ◌*◌, ◌==◌, List, map, length, nat_lt, Option, Some, None, Result, Ok, Err, if◌then◌else◌}
use Rattle.table_cells.specs.declared.amount.Amount.{Amount}
use Rattle.table_cells.specs.Words.{words_of}
use Rattle.document_rows.specs.declared.fault.Column.TheVariants as column
use Rattle.document_rows.specs.declared.fault.Wrong.TheVariants.{Empty, PathTooLong}
use Rattle.document_rows.specs.declared.heads.LinkHead.{LinkHead}
use Rattle.document_rows.specs.declared.link_rows.LinkRow.{LinkRow}
use Rattle.document_rows.specs.Reads.{CellRead, RowRead, and_then, at}
use Rattle.document_rows.specs.Rows.{Row, cell, is_empty}
use Rattle.document_rows.specs.Cells.{gap_in, time_in, time_or_zero, whole_between}
use Rattle.document_rows.specs.PortRows.{cell_or_empty}

-- what a row says beside the name: the gap in milliseconds, the largest frame in bytes, the jitter and the deadline in
-- microseconds, the priority, the words of the path
pub record LinkText : Type 0 where
  pub gap : Amount
  pub largest_frame : ℕ
  pub jitter : Amount
  pub priority : ℕ
  pub path : List (List ℕ)
  pub deadline : Option Amount

abbrev pub link_view : LinkRow → LinkText
link_view l = record { gap = l.gap; largest_frame = l.largest_frame; jitter = l.jitter; priority = l.priority; path = map (λ word. word.now) l.path.items; deadline = l.deadline }

abbrev pub priority_in : List ℕ → CellRead ℕ
priority_in cell = if is_empty cell then Ok 0 else whole_between 0 7 cell

-- 1 to 64 ports
abbrev pub path_of : List (List ℕ) → CellRead (List (List ℕ))
path_of words = if length words == 0 then Err Empty else (if nat_lt 64 (length words) then Err PathTooLong else Ok words)

abbrev pub deadline_in : List ℕ → CellRead (Option Amount)
deadline_in cell = if is_empty cell then Ok None else and_then (time_in cell) (λ n. Ok (Some n))

-- or its first fault by columns
unfoldable pub link_row : LinkHead → Row → RowRead LinkText
link_row head row =
    and_then (at column.Bag (gap_in (cell row head.bag))) (λ gap.
    and_then (at column.LargestFrame (whole_between 1 1048576 (cell row head.largest_frame))) (λ frame.
    and_then (at column.Jitter (time_or_zero (cell row head.jitter))) (λ jitter.
    and_then (at column.Priority (priority_in (cell row head.priority))) (λ priority.
    and_then (at column.Path (path_of (words_of (cell row head.path)))) (λ path.
    and_then (at column.Deadline (deadline_in (cell_or_empty row head.deadline))) (λ deadline.
    Ok (record { gap = gap; largest_frame = frame; jitter = jitter; priority = priority; path = path; deadline = deadline })))))))

-- a frame with what goes with it on the wire, in bits
abbrev pub frame_on_wire : (bytes overhead : ℕ) → ℕ
frame_on_wire bytes overhead = (bytes + overhead) * 8
