-- What is answered on the bytes of two tables: the first fault of the document, a ring of its ports, or the report on
-- its bounds.
use Rattle.std.specs.Prelude.{◌≡◌, ◌⊎◌, ◌<◌, ℕ, List, map, length, None, Ok, Err}
use Rattle.csv_rows.specs.Rows.{LinedRow, AreLinedRowsOf}
use Rattle.document_tables.specs.declared.fault.TableFile.{TableFile}
use Rattle.document_tables.specs.declared.fault.TableFile.TheVariants.{Ports, Links}
use Rattle.document_tables.specs.Tables.{LineRow}
use Rattle.document_tables.specs.Links as link_table
use Rattle.document_tables.specs.Ports as port_table
use Rattle.rounded_runs.specs.Written.{IsRounded}
use Rattle.document_tables.specs.Documents.{DocumentText, FileFault, document_of}
use Rattle.document_tables.specs.Ways.{AreBranchesOf}
use Rattle.tree_network.specs.Networks.{IsNetwork, port_at, queues_of}
use Rattle.tree_network.specs.declared.network.Network.{Network}
use Rattle.tree_network.specs.Rings.{IsNetworkToldRing}
use Rattle.tree_bounds.specs.Tables.{IsTableOf, row_in}
use Rattle.tree_bounds.specs.declared.analysis.Table.{Table}
use Rattle.tree_bounds.specs.guarantee.Causes.{IsCausedIn}
use Rattle.tree_bounds.specs.guarantee.Loads.{HasLoadOrLimitIn}
use Rattle.tree_bounds.specs.guarantee.Roots.{IsRootedIn}
use Rattle.bounds_report.specs.declared.rows.Report.{Report}
use Rattle.bounds_command.specs.declared.form.Form.{Form}
use Rattle.bounds_command.specs.Promises.{Guarantees, WrittenGuarantees}
use Rattle.bounds_command.specs.Replies.{Reply, has_fault, goes_round}
use Rattle.bounds_command.specs.Reports.{IsNetworkOf, IsReportOf, name_at, status_with}
use Rattle.bounds_command.specs.Sums.{AreSums}
use Rattle.bounds_command.specs.View.{text_in}

-- the names of the two files, and what they hold
pub record Tables : Type 0 where
  pub ports_file : List ℕ
  pub ports : List ℕ
  pub links_file : List ℕ
  pub links : List ℕ

abbrev pub tables : (ports_file ports links_file links : List ℕ) → Tables
tables ports_file ports links_file links =
    record { ports_file = ports_file; ports = ports; links_file = links_file; links = links }

abbrev pub named : (ports links : List ℕ) → TableFile → List ℕ
named ports links Ports = ports
named ports links Links = links

abbrev pub name_of : Tables → TableFile → List ℕ
name_of t file = named t.ports_file t.links_file file

-- ---- rows
-- those of the bytes, each with the line on which it begins
abbrev pub lined : LineRow → LinedRow
lined row = (row.line, row.cells)

abbrev pub AreLinesOf : List ℕ → List LineRow → Type 0
AreLinesOf bytes rows = AreLinedRowsOf bytes (map lined rows)

-- the rows of both tables
pub record AreRowsOfBoth (t : Tables) (ports links : List LineRow) : Type 0 where
  pub ports_rows : AreLinesOf t.ports ports
  pub links_rows : AreLinesOf t.links links

-- ---- a document, or its first fault
-- What the rows write, exact, and that a network has it on its grid.
pub record AreWritten (overhead : ℕ) (port_rows link_rows : List LineRow) (net : Network) : Type 0 where
  pub ports : port_table.Ports
  pub links : link_table.Links
  pub ports_are : port_table.ports_of port_rows ≡ Ok ports
  pub links_are : link_table.links_of ports overhead link_rows ≡ Ok links
  pub rounded : IsRounded overhead ports.ports links.keys net

pub record Gives (t : Tables) (overhead : ℕ) (d : DocumentText) (net : Network) : Type 0 where
  pub port_rows : List LineRow
  pub link_rows : List LineRow
  pub rows : AreRowsOfBoth t port_rows link_rows
  pub reads : document_of overhead port_rows link_rows ≡ Ok d
  pub network : IsNetworkOf d net
  pub in_range : IsNetwork net
  pub written : AreWritten overhead port_rows link_rows net
  -- each row of links has its branch, whose way on the network's trees is over the ports that the row's path names, on a link
  -- with the row's numbers
  pub ways : AreBranchesOf overhead link_rows d

pub record IsFaulty (t : Tables) (overhead : ℕ) (form : Form) (reply : Reply) : Type 0 where
  pub port_rows : List LineRow
  pub link_rows : List LineRow
  pub rows : AreRowsOfBoth t port_rows link_rows
  pub fault : FileFault
  pub first : document_of overhead port_rows link_rows ≡ Err fault
  pub is : reply ≡ has_fault (name_of t fault.file) fault.fault

-- ---- on the network of a document
-- links go round; of the rings one is told, which the network determines
pub record HasRing (d : DocumentText) (net : Network) (reply : Reply) : Type 0 where
  pub ring : List ℕ
  pub told : IsNetworkToldRing net ring
  pub is : reply ≡ goes_round (map (name_at d.port_names) ring)

-- the report of a table that meets the equations, in a form; its status tells whether a deadline is missed, and each
-- lawful run of the network that keeps the premises keeps what it says
pub record IsReported (d : DocumentText) (net : Network) (form : Form) (reply : Reply) : Type 0 where
  pub table : Table
  pub bounded : IsTableOf net table
  pub report : Report
  pub tells : IsReportOf d net table report
  -- a branch's bound is the sum of the delays of the queues on its way and of the links behind them
  pub sums : AreSums d net table report
  pub guarantees : Guarantees d net report
  -- so does each lawful run of the network that the rows write, exact
  pub written : WrittenGuarantees d net report
  -- a queue has no number only where nothing bounds what comes there, its load is above the rate, or it waits too long
  pub causes : (s q : ℕ) → s < length net.ports.items → q < queues_of (port_at net s).discipline
      → row_in table s q ≡ None
      → IsCausedIn net table s q
  -- and at the root of it, there or at a port before it, a queue's load is above its rate, or a number passes its limit
  pub roots : (s q : ℕ) → s < length net.ports.items → q < queues_of (port_at net s).discipline
      → row_in table s q ≡ None
      → IsRootedIn net table s q
  -- in the links' own rates, on the grid: the load of the links that pass a queue, there or at a port before it, is above its rate, or a number passes its limit
  pub loads : (s q : ℕ) → s < length net.ports.items → q < queues_of (port_at net s).discipline
      → row_in table s q ≡ None
      → HasLoadOrLimitIn net table s q
  pub is : reply ≡ record { status = status_with report; bytes = text_in form report }

abbrev pub IsReplyOnDocument : DocumentText → Network → Form → Reply → Type 0
IsReplyOnDocument d net form reply = HasRing d net reply ⊎ IsReported d net form reply

-- ---- on two tables
-- P holds of their document and its network
pub record OfDocument (t : Tables) (overhead : ℕ) (P : DocumentText → Network → Type 0) : Type 0 where
  pub document : DocumentText
  pub net : Network
  pub gives : Gives t overhead document net
  pub holds : P document net

abbrev pub IsCyclic : Tables → ℕ → Form → Reply → Type 0
IsCyclic t overhead form reply = OfDocument t overhead (λ d net. HasRing d net reply)

abbrev pub IsDone : Tables → ℕ → Form → Reply → Type 0
IsDone t overhead form reply = OfDocument t overhead (λ d net. IsReported d net form reply)

abbrev pub IsReplyOn : Tables → ℕ → Form → Reply → Type 0
IsReplyOn t overhead form reply =
    IsFaulty t overhead form reply ⊎ (IsCyclic t overhead form reply ⊎ IsDone t overhead form reply)
