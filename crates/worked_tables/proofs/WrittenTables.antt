-- What the two tables write, computed from their bytes.
use Rattle.std.specs.Prelude.{◌≡◌, ℕ, List, [], ◌∷◌, ◌++◌, codes, map, Ok}
use Rattle.std.proofs.Common.{refl}
use Rattle.csv.specs.Machine.{Read, next_record}
use Rattle.csv.specs.Reading.{strip_bom}
use Rattle.csv.specs.Records.{trim_start, trim_end, field_at}
use Rattle.csv.specs.declared.parser.State.TheVariants as st
use Rattle.csv_rows.specs.Rows.{AreLinedRowsOf, AreNextOf, Row, from_row, used}
use Rattle.table_cells.specs.Names.{is_name_byte}
use Rattle.table_cells.specs.Words.{words_from}
use Rattle.document_rows.specs.Heads.{port_head, link_head}
use Rattle.document_rows.specs.PortRows.{port_row}
use Rattle.document_rows.specs.LinkRows.{link_row}
use Rattle.document_tables.specs.Links.{links_of, with_branch, with_row}
use Rattle.document_tables.specs.Paths.{path_from}
use Rattle.document_tables.specs.Ports.{ports_of, with_port}
use Rattle.document_tables.specs.Tables.{LineRow, after_rows, table_of}
use Rattle.document_tables.specs.Trees.{comes_otherwise, hangs_from}
use Rattle.worked_tables.specs.WrittenFork.{IsWrittenFork, fork_links, fork_ports, lined, links_bytes, ports_bytes}
use Rattle.worked_tables.proofs.WrittenRun.{written_run}

-- ---- ports
abbrev port_head_row : Row
port_head_row = codes "name" ∷ codes "rate" ∷ codes "latency" ∷ codes "link" ∷ codes "discipline" ∷ []

abbrev port_cells : (name link : List ℕ) → Row
port_cells name link = name ∷ codes "100" ∷ codes "10" ∷ link ∷ [] ∷ []

abbrev port_rows : List LineRow
port_rows =
    record { line = 1; cells = port_head_row } ∷ record { line = 2; cells = port_cells (codes "a") (codes "5") }
    ∷ record { line = 3; cells = port_cells (codes "b") [] } ∷ record { line = 4; cells = port_cells (codes "c") [] } ∷ []

abbrev read_to : Row → List ℕ → Read
read_to row rest = (row, st.StartRecord, rest)

ports_read : AreLinedRowsOf ports_bytes (map lined port_rows)
unfolding AreNextOf next_record strip_bom from_row used trim_start trim_end
ports_read =
    let after_two = codes "c,100,10,,\n" in
    let after_one = codes "b,100,10,,\n" ++ after_two in
    let after_head = codes "a,100,10,5,\n" ++ after_one in record {
      records = map lined port_rows;
      state = st.StartRecord;
      rest = [];
      are = (
        read_to port_head_row after_head,
        refl,
        refl,
        (
          read_to (port_cells (codes "a") (codes "5")) after_one,
          refl,
          refl,
          (
            read_to (port_cells (codes "b") []) after_two,
            refl,
            refl,
            (read_to (port_cells (codes "c") []) [], refl, refl, (refl, refl)),
          ),
        ),
      );
      last = refl;
      all = refl;
    }

ports_are : ports_of port_rows ≡ Ok fork_ports
unfolding table_of after_rows port_head with_port port_row words_from is_name_byte field_at
ports_are = refl

-- ---- links
abbrev link_head_row : Row
link_head_row =
    codes "name" ∷ codes "bag" ∷ codes "largest_frame" ∷ codes "jitter" ∷ codes "priority" ∷ codes "path" ∷ []

abbrev link_cells : (path : List ℕ) → Row
link_cells path = codes "v" ∷ codes "1" ∷ codes "1480" ∷ [] ∷ [] ∷ path ∷ []

abbrev link_rows : List LineRow
link_rows =
    record { line = 1; cells = link_head_row } ∷ record { line = 2; cells = link_cells (codes "a b") }
    ∷ record { line = 3; cells = link_cells (codes "a c") } ∷ []

links_read : AreLinedRowsOf links_bytes (map lined link_rows)
unfolding AreNextOf next_record strip_bom from_row used trim_start trim_end
links_read =
    let after_one = codes "v,1,1480,,,a c\n" in
    let after_head = codes "v,1,1480,,,a b\n" ++ after_one in record {
      records = map lined link_rows;
      state = st.StartRecord;
      rest = [];
      are = (
        read_to link_head_row after_head,
        refl,
        refl,
        (
          read_to (link_cells (codes "a b")) after_one,
          refl,
          refl,
          (read_to (link_cells (codes "a c")) [], refl, refl, (refl, refl)),
        ),
      );
      last = refl;
      all = refl;
    }

links_are : links_of fork_ports 20 link_rows ≡ Ok fork_links
unfolding table_of after_rows link_head with_row link_row with_branch path_from hangs_from comes_otherwise words_from is_name_byte field_at
links_are = refl

pub the_fork_is_written : IsWrittenFork
the_fork_is_written = record {
  port_rows = port_rows;
  link_rows = link_rows;
  ports_read = ports_read;
  links_read = links_read;
  ports_are = ports_are;
  links_are = links_are;
  run = λ net same_ports same_links. written_run net same_links;
}
