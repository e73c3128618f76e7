-- The ranges of what tables say.
use Rattle.std.proofs.Common.{◌≡◌, ℕ, ◌<◌, ◌≤◌, refl, nat_le, List, [], ◌∷◌, ◌++◌, length, All, Option, Some, None, Ok, Err, subst, arith, length-append}
use Rattle.std.proofs.lemmas.Bool.{leb-false}
use Rattle.std.specs.Prelude.{slice_get, if◌then◌else◌}
use Rattle.std.specs.List.{list_any}
use Rattle.std.specs.Str.{bytes_eq}
use Rattle.std.proofs.lemmas.List.Elements.{All-nil, All-push}
use Rattle.csv_rows.specs.Rows.{Row}
use Rattle.document_rows.specs.declared.fault.Column.TheVariants as column
use Rattle.document_rows.specs.declared.fault.Wrong.TheVariants.{TooManyRows, NameTwice}
use Rattle.document_rows.specs.declared.heads.PortHead.{PortHead}
use Rattle.document_rows.specs.declared.heads.LinkHead.{LinkHead}
use Rattle.document_rows.specs.Reads.{RowRead, and_then}
use Rattle.document_rows.specs.Heads.{port_head, link_head, row_name}
use Rattle.document_rows.specs.PortRows.{port_row}
use Rattle.document_rows.specs.LinkRows.{LinkText}
use Rattle.document_tables.specs.Ranges.{IsTimeOrNone, IsPortText, IsLinkText, AreLinkKeys}
use Rattle.document_tables.specs.Tables.{LineRow, at_line, after_rows, table_of}
use Rattle.document_tables.specs.Ports.{Ports, with_port, no_ports, ports_of, most_ports}
use Rattle.document_tables.specs.Links.{Links, BranchText, keys_of, with_link, agrees_with, number_or_next, with_branch, with_row, no_links, links_of}
use Rattle.document_tables.proofs.Reading.{both_read, read_then, not_refused, same_read}
use Rattle.document_tables.proofs.RowRanges.{port_says, link_says}
use Rattle.document_tables.proofs.RowTaken.{branched, taken}

-- ---- rows, one after another
pub in_line : {X : Type 0} (line : ℕ) (r : RowRead X) (x : X) → at_line line r ≡ Ok x → r ≡ Ok x
in_line line (Ok y) x h = cc
in_line line (Err fault) x h = cc

-- what holds before the first row, and behind each row of which it holds before, holds behind the last one
pub kept_by_rows : {S : Type 0} (P : S → Type 0) (step : S → Row → RowRead S) → ((s : S) (row : Row) (t : S) → P s → step s row ≡ Ok t → P t)
    → (rows : List LineRow) (s t : S) → P s → after_rows step s rows ≡ Ok t → P t
unfolding after_rows
kept_by_rows P step more [] s t p h = subst P (same_read s t h) p
kept_by_rows P step more (row ∷ rows) s t p h =
    let r = both_read (at_line row.line (step s row.cells)) (λ next. after_rows step next rows) t h in
    kept_by_rows P step more rows r.0 t (more s row.cells r.0 p (in_line row.line (step s row.cells) r.0 r.1)) r.2

pub kept_by_table : {H S : Type 0} (P : S → Type 0) (head : Row → RowRead H) (step : H → S → Row → RowRead S) (none : S) → P none → ((h : H) (s : S) (row : Row) (t : S) → P s → step h s row ≡ Ok t → P t)
    → (rows : List LineRow) (t : S) → table_of head step none rows ≡ Ok t → P t
unfolding table_of
kept_by_table P head step none p more [] t h = cc
kept_by_table P head step none p more (first ∷ rows) t h =
    let r = both_read (at_line first.line (head first.cells)) (λ h. after_rows (step h) none rows) t h in kept_by_rows P (step r.0) (more r.0) rows none t p r.2

-- ---- ports
abbrev AreInRange : Ports → Type 0
AreInRange ports = All IsPortText ports.ports × (length ports.ports ≤ most_ports) × (length ports.names ≡ length ports.ports)

module _ (head : PortHead) (before : Ports) (row : Row) where
  abbrev port_named : List ℕ → RowRead Ports
  port_named name =
      if list_any (bytes_eq name) before.names then Err (record { column = column.Name; wrong = NameTwice })
      else and_then (port_row head row) (λ port. Ok (record { names = before.names ++ name ∷ []; ports = before.ports ++ port ∷ [] }))

  port_more : (after : Ports) → AreInRange before → with_port head before row ≡ Ok after → AreInRange after
  unfolding with_port
  port_more after p h =
      let few = not_refused (nat_le most_ports (length before.ports)) (record { column = column.Name; wrong = TooManyRows }) (and_then (row_name head.width head.name row) port_named) after h in
      read_then (row_name head.width head.name row) port_named after few.1
      (λ name is_named h.
      let new = not_refused (list_any (bytes_eq name) before.names) (record { column = column.Name; wrong = NameTwice })
      (and_then (port_row head row) (λ port. Ok (record { names = before.names ++ name ∷ []; ports = before.ports ++ port ∷ [] }))) after h
      in
      read_then (port_row head row) (λ port. Ok (record { names = before.names ++ name ∷ []; ports = before.ports ++ port ∷ [] })) after new.1
      (λ port is_read h.
      let made : Ports = record { names = before.names ++ name ∷ []; ports = before.ports ++ port ∷ [] } in
      let less : length before.ports < most_ports = leb-false most_ports (length before.ports) few.0 in
      let longer = length-append before.ports (port ∷ []) in
      let names = length-append before.names (name ∷ []) in
      subst AreInRange (same_read made after h) (All-push IsPortText before.ports port p.0 (port_says head row port is_read), omega (arith, less, longer), omega (arith, names, longer, p.2))))

pub ports_in_range : (rows : List LineRow) (ports : Ports) → ports_of rows ≡ Ok ports
    → All IsPortText ports.ports × (length ports.ports ≤ most_ports) × (length ports.names ≡ length ports.ports)
ports_in_range rows ports h = kept_by_table AreInRange port_head with_port no_ports (All-nil IsPortText, omega arith, refl) port_more rows ports h

-- ---- links
abbrev pub HasDeadline : BranchText → Type 0
HasDeadline b = IsTimeOrNone b.deadline

abbrev HaveKeys : Links → Type 0
HaveKeys links = All AreLinkKeys links.keys × All HasDeadline links.branches

keys_in_range : (row : LinkText) → IsLinkText row → AreLinkKeys (keys_of row)
keys_in_range row r = record { gap = r.gap; some_frame = r.some_frame; frame = r.frame; jitter = r.jitter; priority = r.priority }

link_more : (before after : Links) (name : List ℕ) (number : Option ℕ) (row : LinkText) → HaveKeys before → IsLinkText row → with_link before name number (keys_of row) ≡ Ok after → HaveKeys after
link_more before after name None row p r h =
    let made : Links = record { names = before.names ++ name ∷ []; keys = before.keys ++ keys_of row ∷ []; branches = before.branches } in
    subst HaveKeys (same_read made after h) (All-push AreLinkKeys before.keys (keys_of row) p.0 (keys_in_range row r), p.1)
link_more before after name (Some n) row p r h =
    let a = both_read (agrees_with (slice_get before.keys n) (keys_of row)) (λ first. Ok before) after h in subst HaveKeys (same_read before after a.2) p

module _ (ports : Ports) (overhead : ℕ) where
  branch_more : (link : ℕ) (before : Links) (row : LinkText) (after : Links) → HaveKeys before → IsLinkText row → with_branch ports overhead link before row ≡ Ok after → HaveKeys after
  branch_more link before row after p r h =
      let b = branched ports overhead link before row after h in
      subst HaveKeys b.made (p.0, All-push HasDeadline before.branches (record { link = link; path = b.path; deadline = row.deadline }) p.1 r.deadline)

  row_more : (head : LinkHead) (before : Links) (row : Row) (after : Links) → HaveKeys before → with_row ports overhead head before row ≡ Ok after → HaveKeys after
  row_more head before row after p h =
      let t = taken ports overhead head before row after h in
      let says = link_says head row t.text t.is_read in
      branch_more (number_or_next before t.number) t.links t.text after (link_more before t.links t.name t.number t.text p says t.is_linked) says t.is_branched

  pub links_in_range : (rows : List LineRow) (links : Links) → links_of ports overhead rows ≡ Ok links → All AreLinkKeys links.keys × All HasDeadline links.branches
  links_in_range rows links h = kept_by_table HaveKeys link_head (with_row ports overhead) no_links (All-nil AreLinkKeys, All-nil HasDeadline) row_more rows links h
