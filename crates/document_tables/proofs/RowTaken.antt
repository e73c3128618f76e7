-- What a row of links is read as where it is taken.
use Rattle.std.proofs.Common.{◌≡◌, ℕ, nat_le, List, [], ◌∷◌, ◌++◌, length, position, Option, None, Ok}
use Rattle.std.specs.Str.{bytes_eq}
use Rattle.csv_rows.specs.Rows.{Row}
use Rattle.document_rows.specs.declared.fault.Column.TheVariants as column
use Rattle.document_rows.specs.declared.fault.Wrong.TheVariants.{TooManyRows}
use Rattle.document_rows.specs.declared.heads.LinkHead.{LinkHead}
use Rattle.document_rows.specs.Reads.{and_then, at}
use Rattle.document_rows.specs.Heads.{row_name}
use Rattle.document_rows.specs.LinkRows.{LinkText, link_row, frame_on_wire}
use Rattle.document_tables.specs.Ports.{Ports}
use Rattle.document_tables.specs.Paths.{path_ports}
use Rattle.document_tables.specs.Trees.{hangs_from}
use Rattle.document_tables.specs.Links.{Links, BranchText, keys_of, with_link, has_room, number_or_next, with_branch, with_row, paths_of, most_branches}
use Rattle.document_tables.proofs.Reading.{read_then, not_refused, same_read, cell_read}
use Rattle.document_tables.proofs.LinkSteps.{linked, roomed, named, hung}

-- ---- the branch of a row
module _ (ports : Ports) (overhead link : ℕ) (links : Links) (row : LinkText) (after : Links) where
  abbrev pub branch_over : List ℕ → BranchText
  branch_over path = record { link = link; path = path; deadline = row.deadline }

  abbrev pub with_one : List ℕ → Links
  with_one path = record links { branches = links.branches ++ branch_over path ∷ [] }

  -- its path goes over ports, and hangs in the tree of its link
  pub record IsBranched : Type 0 where
    pub path : List ℕ
    pub last : Option ℕ
    pub over : path_ports ports row.priority (frame_on_wire row.largest_frame overhead) row.path ≡ Ok path
    pub hangs : hangs_from (paths_of link links.branches) 0 None path ≡ Ok last
    pub made : with_one path ≡ after

  pub branched : with_branch ports overhead link links row ≡ Ok after → IsBranched
  unfolding with_branch
  branched h =
      read_then (at column.Path (path_ports ports row.priority (frame_on_wire row.largest_frame overhead) row.path)) (hung ports overhead link links row) after h
      (λ path over h.
      read_then (at column.Path (hangs_from (paths_of link links.branches) 0 None path)) (λ last. Ok (with_one path)) after h
      (λ last hangs h. record {
        path = path;
        last = last;
        over = cell_read column.Path (path_ports ports row.priority (frame_on_wire row.largest_frame overhead) row.path) path over;
        hangs = cell_read column.Path (hangs_from (paths_of link links.branches) 0 None path) last hangs;
        made = same_read (with_one path) after h;
      }))

-- ---- a row
module _ (ports : Ports) (overhead : ℕ) (head : LinkHead) (before : Links) (row : Row) (after : Links) where
  -- its name, the number of its link where that is there, what it says, and the links with its own
  pub record IsTaken : Type 0 where
    pub name : List ℕ
    pub number : Option ℕ
    pub text : LinkText
    pub links : Links
    pub is_named : row_name head.width head.name row ≡ Ok name
    pub is_numbered : has_room before (position (bytes_eq name) before.names) ≡ Ok number
    pub is_read : link_row head row ≡ Ok text
    pub is_linked : with_link before name number (keys_of text) ≡ Ok links
    pub is_branched : with_branch ports overhead (number_or_next before number) links text ≡ Ok after

  pub taken : with_row ports overhead head before row ≡ Ok after → IsTaken
  unfolding with_row
  taken h =
      let few = not_refused (nat_le most_branches (length before.branches)) (record { column = column.Name; wrong = TooManyRows })
      (and_then (row_name head.width head.name row) (named ports overhead head before row)) after h
      in
      read_then (row_name head.width head.name row) (named ports overhead head before row) after few.1
      (λ name is_named h.
      read_then (has_room before (position (bytes_eq name) before.names)) (roomed ports overhead head before row name) after h
      (λ number is_numbered h.
      read_then (link_row head row) (linked ports overhead head before row name number) after h
      (λ text is_read h.
      read_then (with_link before name number (keys_of text)) (λ links. with_branch ports overhead (number_or_next before number) links text) after h
      (λ links is_linked is_branched. record {
        name = name;
        number = number;
        text = text;
        links = links;
        is_named = is_named;
        is_numbered = is_numbered;
        is_read = is_read;
        is_linked = is_linked;
        is_branched = is_branched;
      }))))
