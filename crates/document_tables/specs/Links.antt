-- The table of links. Own choice.
use Rattle.std.specs.Prelude.{ℕ, ◌==◌, not, List, [], ◌∷◌, ◌++◌, length, map, take, drop, filter, nat_le, Option, Some, None, slice_get, Ok, Err, if◌then◌else◌}
use Rattle.std.specs.List.{position}
use Rattle.std.specs.Str.{bytes_eq}
use Rattle.csv_rows.specs.Rows.{Row}
use Rattle.table_cells.specs.declared.amount.Amount.{Amount}
use Rattle.table_cells.specs.Amounts.{equals}
use Rattle.document_rows.specs.declared.fault.Column.TheVariants as column
use Rattle.document_rows.specs.declared.fault.Wrong.TheVariants.{TooManyRows, TooManyLinks, Differs}
use Rattle.document_rows.specs.declared.heads.LinkHead.{LinkHead}
use Rattle.document_rows.specs.Reads.{RowRead, and_then, at}
use Rattle.document_rows.specs.Heads.{link_head, row_name}
use Rattle.document_rows.specs.LinkRows.{LinkText, link_row, frame_on_wire}
use Rattle.document_tables.specs.declared.links.LinkKeys.{LinkKeys}
use Rattle.document_tables.specs.declared.links.LinkTable.{LinkTable}
use Rattle.document_tables.specs.declared.links.Branch.{Branch}
use Rattle.document_tables.specs.Tables.{LineRow, TableRead, table_of}
use Rattle.document_tables.specs.Ports.{Ports}
use Rattle.document_tables.specs.Paths.{path_ports}
use Rattle.document_tables.specs.Trees.{hangs_from}

-- a branch: the number of its link, the numbers of the ports of its path, and its deadline
pub record BranchText : Type 0 where
  pub link : ℕ
  pub path : List ℕ
  pub deadline : Option Amount

-- links by their numbers: the names, and what their first rows say; and the branches in the order of the rows
pub record Links : Type 0 where
  pub names : List (List ℕ)
  pub keys : List LinkKeys
  pub branches : List BranchText

-- of a branch, where these are the ports of all paths, one path after the other
abbrev pub passed_by : List ℕ → Branch → List ℕ
passed_by passed b = take b.count (drop b.first passed)

abbrev pub branch_view : List ℕ → Branch → BranchText
branch_view passed b = record { link = b.link; path = passed_by passed b; deadline = b.deadline }

abbrev pub branches_of : LinkTable → List BranchText
branches_of t = map (branch_view t.passed.items) t.branches.items

abbrev pub links_view : LinkTable → Links
links_view t = record { names = t.names; keys = t.keys.items; branches = branches_of t }

-- ---- the rows of one link
abbrev pub keys_of : LinkText → LinkKeys
keys_of row = record { gap = row.gap; largest_frame = row.largest_frame; jitter = row.jitter; priority = row.priority }

-- in which column a row differs first from the first row of its link, by value
abbrev pub agrees : LinkKeys → LinkKeys → RowRead LinkKeys
agrees first row =
    if not (equals first.gap row.gap) then Err (record { column = column.Bag; wrong = Differs })
    else (if not (first.largest_frame == row.largest_frame) then Err (record { column = column.LargestFrame; wrong = Differs })
    else (if not (equals first.jitter row.jitter) then Err (record { column = column.Jitter; wrong = Differs })
    else (if not (first.priority == row.priority) then Err (record { column = column.Priority; wrong = Differs })
    else Ok first)))

abbrev pub agrees_with : Option LinkKeys → LinkKeys → RowRead LinkKeys
agrees_with None row = Ok row
agrees_with (Some first) row = agrees first row

-- the links with that of a name, whose number was looked up, and a row of it
abbrev pub with_link : Links → List ℕ → Option ℕ → LinkKeys → RowRead Links
with_link before name None row =
    Ok (record { names = before.names ++ name ∷ []; keys = before.keys ++ row ∷ []; branches = before.branches })
with_link before name (Some number) row = and_then (agrees_with (slice_get before.keys number) row) (λ first. Ok before)

abbrev pub number_or_next : Links → Option ℕ → ℕ
number_or_next before None = length before.keys
number_or_next before (Some number) = number

-- the paths of a link
abbrev pub paths_of : ℕ → List BranchText → List (List ℕ)
paths_of link branches = map (λ b. b.path) (filter (λ b. b.link == link) branches)

-- ---- a row
abbrev pub most_links : ℕ
most_links = 16384

abbrev pub most_branches : ℕ
most_branches = 131072

-- one link too many
abbrev pub has_room : Links → Option ℕ → RowRead (Option ℕ)
has_room before (Some number) = Ok (Some number)
has_room before None =
    if nat_le most_links (length before.names) then Err (record { column = column.Name; wrong = TooManyLinks }) else Ok None

-- a branch over a path, whose link is there
abbrev pub with_path : (link : ℕ) → Links → List ℕ → Option Amount → RowRead Links
with_path link before path deadline =
    and_then (at column.Path (hangs_from (paths_of link before.branches) 0 None path)) (λ last.
    Ok (record before { branches = before.branches ++ record { link = link; path = path; deadline = deadline } ∷ [] }))

-- that of a row
unfoldable pub with_branch : Ports → (overhead link : ℕ) → Links → LinkText → RowRead Links
with_branch ports overhead link before row =
    and_then (at column.Path (path_ports ports row.priority (frame_on_wire row.largest_frame overhead) row.path)) (λ path.
    with_path link before path row.deadline)

-- the link of a row, by its name and the number that was looked up, and the row's branch
abbrev pub with_text : Ports → (overhead : ℕ) → (name : List ℕ) → (number : Option ℕ) → Links → LinkText → RowRead Links
with_text ports overhead name number before text =
    and_then (with_link before name number (keys_of text)) (λ links.
    with_branch ports overhead (number_or_next before number) links text)

-- a row behind these
unfoldable pub with_row : Ports → (overhead : ℕ) → LinkHead → Links → Row → RowRead Links
with_row ports overhead head before row =
    if nat_le most_branches (length before.branches) then Err (record { column = column.Name; wrong = TooManyRows })
    else and_then (row_name head.width head.name row) (λ name.
    and_then (has_room before (position (bytes_eq name) before.names)) (λ number.
    and_then (link_row head row) (λ text.
    with_text ports overhead name number before text)))

abbrev pub no_links : Links
no_links = record { names = []; keys = []; branches = [] }

abbrev pub links_of : Ports → (overhead : ℕ) → List LineRow → TableRead Links
links_of ports overhead = table_of link_head (with_row ports overhead) no_links
