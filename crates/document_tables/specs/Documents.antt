-- What a document of two tables means: its names, its network on the grid and its branches; or its first fault, those
-- of ports before those of links. Own choice.
use Rattle.std.specs.Prelude.{◌≡◌, ℕ, ◌<◌, List, map, length, slice_get, Some, Result, Ok, Err}
use Rattle.tree_network.specs.declared.network.Link.{Link}
use Rattle.tree_network.specs.declared.network.Network.{Network}
use Rattle.document_rows.specs.Reads.{and_then}
use Rattle.document_tables.specs.declared.document.BranchEnd.{BranchEnd}
use Rattle.document_tables.specs.declared.document.Document.{Document}
use Rattle.document_tables.specs.declared.fault.DocumentError.{DocumentError}
use Rattle.document_tables.specs.declared.fault.DocumentError.TheVariants as errors
use Rattle.document_tables.specs.declared.fault.LineError.{LineError}
use Rattle.document_tables.specs.declared.fault.LineError.TheVariants as lines
use Rattle.document_tables.specs.declared.fault.LineFault.{LineFault}
use Rattle.document_tables.specs.declared.fault.TableFile.{TableFile}
use Rattle.document_tables.specs.declared.fault.TableFile.TheVariants as file
use Rattle.document_tables.specs.Ranges.{IsTimeOrNone}
use Rattle.document_tables.specs.Tables.{LineRow, TableRead}
use Rattle.document_tables.specs.Ports.{Ports, ports_of}
use Rattle.document_tables.specs.Links.{Links, links_of}
use Rattle.document_tables.specs.Grids.{PortOnGrid, LinkOnGrid, BranchOnGrid, port_on_grid, grid_port, grid_link, links_from, branch_on_grid}

-- ports and links by their numbers, branches in the order of their rows
pub record DocumentText : Type 0 where
  pub port_names : List (List ℕ)
  pub link_names : List (List ℕ)
  pub ports : List PortOnGrid
  pub links : List LinkOnGrid
  pub branches : List BranchOnGrid

abbrev pub end_view : BranchEnd → BranchOnGrid
end_view b = record { link = b.link; node = b.node; deadline = b.deadline }

abbrev pub document_view : Document → DocumentText
document_view d = record {
  port_names = d.port_names;
  link_names = d.link_names;
  ports = map grid_port d.network.ports.items;
  links = map grid_link d.network.links.items;
  branches = map end_view d.branches.items;
}

abbrev pub document_with : (overhead : ℕ) → Ports → Links → DocumentText
document_with overhead ports links = record {
  port_names = ports.names;
  link_names = links.names;
  ports = map port_on_grid ports.ports;
  links = links_from ports.ports overhead links.branches 0 links.keys;
  branches = map (branch_on_grid links.branches) links.branches;
}

-- a branch is of one of the links, ends at one of its nodes, and has no deadline above the longest time
pub record IsBranchOf (net : Network) (b : BranchEnd) : Type 0 where
  pub in_links : b.link < length net.links.items
  pub in_nodes : (link : Link) → slice_get net.links.items b.link ≡ Some link → b.node < length link.nodes.items
  pub deadline : IsTimeOrNone b.deadline

-- each port and each link has a name
pub record HasNames (d : Document) : Type 0 where
  pub ports : length d.port_names ≡ length d.network.ports.items
  pub links : length d.link_names ≡ length d.network.links.items

-- ---- reads
-- a fault, and the table that has it
pub record FileFault : Type 0 where
  pub file : TableFile
  pub fault : LineFault

abbrev pub in_file : {X : Type 0} → TableFile → TableRead X → Result X FileFault
in_file file (Ok x) = Ok x
in_file file (Err fault) = Err (record { file = file; fault = fault })

-- the document of the rows of the two tables, where a frame has so many bytes on the wire beside its own
unfoldable pub document_of : (overhead : ℕ) → (ports links : List LineRow) → Result DocumentText FileFault
document_of overhead port_rows link_rows =
    and_then (in_file file.Ports (ports_of port_rows)) (λ ports.
    and_then (in_file file.Links (links_of ports overhead link_rows)) (λ links.
    Ok (document_with overhead ports links)))

abbrev pub error_in : TableFile → LineError → DocumentError
error_in file (lines.Fault fault) = errors.Fault file fault
error_in file lines.NoMemory = errors.NoMemory

-- what a call answers: the document, or its first fault; want of memory says nothing
abbrev pub TellsDocument : Result Document DocumentError → Result DocumentText FileFault → Type 0
TellsDocument (Ok d) read = read ≡ Ok (document_view d)
TellsDocument (Err (errors.Fault file fault)) read = read ≡ Err (record { file = file; fault = fault })
TellsDocument (Err errors.NoMemory) read = Unit {0}
