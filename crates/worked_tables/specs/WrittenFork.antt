-- Two tables, byte by byte, whose network is the fork, and the run over it as one of the network that they write: so that
-- what is promised of such runs is about something.
use Rattle.std.specs.Prelude.{◌≡◌, ℕ, List, [], ◌∷◌, ◌++◌, codes, map, None, Ok}
use Rattle.csv_rows.specs.Rows.{LinedRow, AreLinedRowsOf}
use Rattle.table_cells.specs.Amounts.{whole}
use Rattle.tree_network.specs.declared.network.Network.{Network}
use Rattle.document_rows.specs.Disciplines.{Fifo}
use Rattle.document_rows.specs.PortRows.{PortText}
use Rattle.document_tables.specs.declared.links.LinkKeys.{LinkKeys}
use Rattle.document_tables.specs.Grids.{grid_port, grid_link, links_from, port_on_grid}
use Rattle.document_tables.specs.Links.{BranchText, Links, links_of}
use Rattle.document_tables.specs.Ports.{Ports, ports_of}
use Rattle.document_tables.specs.Tables.{LineRow}
use Rattle.rounded_runs.specs.Written.{IsWrittenRun}
use Rattle.worked_trees.specs.PacedFork.{over_the_fork}

-- ---- the tables
abbrev pub ports_bytes : List ℕ
ports_bytes =
    codes "name,rate,latency,link,discipline\n" ++ (codes "a,100,10,5,\n" ++ (codes "b,100,10,,\n" ++ codes "c,100,10,,\n"))

abbrev pub links_bytes : List ℕ
links_bytes = codes "name,bag,largest_frame,jitter,priority,path\n" ++ (codes "v,1,1480,,,a b\n" ++ codes "v,1,1480,,,a c\n")

-- ---- what they write, where a frame has 20 bytes on the wire beside its own
abbrev pub slow_text : (link : ℕ) → PortText
slow_text link = record { rate = whole 100; latency = whole 10; link = whole link; discipline = Fifo; gate = None }

abbrev pub fork_ports : Ports
fork_ports = record { names = codes "a" ∷ codes "b" ∷ codes "c" ∷ []; ports = slow_text 5 ∷ slow_text 0 ∷ slow_text 0 ∷ [] }

abbrev pub fork_keys : LinkKeys
fork_keys = record { gap = whole 1; largest_frame = 1480; jitter = whole 0; priority = 0 }

abbrev pub branch_to : ℕ → BranchText
branch_to port = record { link = 0; path = 0 ∷ port ∷ []; deadline = None }

abbrev pub fork_links : Links
fork_links = record { names = codes "v" ∷ []; keys = fork_keys ∷ []; branches = branch_to 1 ∷ branch_to 2 ∷ [] }

-- rows with their lines
abbrev pub lined : LineRow → LinedRow
lined row = (row.line, row.cells)

pub record IsWrittenFork : Type 0 where
  pub port_rows : List LineRow
  pub link_rows : List LineRow
  pub ports_read : AreLinedRowsOf ports_bytes (map lined port_rows)
  pub links_read : AreLinedRowsOf links_bytes (map lined link_rows)
  pub ports_are : ports_of port_rows ≡ Ok fork_ports
  pub links_are : links_of fork_ports 20 link_rows ≡ Ok fork_links
  -- each network that has these numbers on its grid has the run over the fork as one of the network that is written
  pub run : (net : Network) → map grid_port net.ports.items ≡ map port_on_grid fork_ports.ports
      → map grid_link net.links.items ≡ links_from fork_ports.ports 20 fork_links.branches 0 fork_links.keys
      → IsWrittenRun 20 fork_ports.ports fork_links.keys net over_the_fork
