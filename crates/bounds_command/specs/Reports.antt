-- What a report tells of a document and a table of its network's bounds.
use Rattle.std.specs.Prelude.{◌≡◌, ℕ, Bool, false, not, List, [], length, map, slice_get, get_or, unwrap_or, Option, Some, None, option_map, if◌then◌else◌}
use Rattle.std.specs.List.{flat_map, list_any, range_with_len}
use Rattle.arrival_lines.specs.declared.grid.Queue.{Queue}
use Rattle.table_cells.specs.declared.amount.Amount.{Amount}
use Rattle.tree_network.specs.Networks.{port_at, queues_of, node_at}
use Rattle.tree_network.specs.declared.network.Port.{Port}
use Rattle.tree_network.specs.declared.network.Link.{Link}
use Rattle.tree_network.specs.declared.network.Network.{Network}
use Rattle.document_tables.specs.Documents.{DocumentText}
use Rattle.document_tables.specs.Grids.{BranchOnGrid, grid_port, grid_link}
use Rattle.tree_bounds.specs.Tables.{row_in, bounds_in}
use Rattle.tree_bounds.specs.declared.analysis.Table.{Table}
use Rattle.bounds_report.specs.Numbers.{is_met}
use Rattle.bounds_report.specs.declared.rows.QueueRow.{QueueRow}
use Rattle.bounds_report.specs.declared.rows.BranchRow.{BranchRow}
use Rattle.bounds_report.specs.declared.rows.Report.{Report}
use Rattle.tree_bounds.specs.guarantee.Loads.{rates_at}
use Rattle.bounds_command.specs.Loads.{load_of}

-- ---- rows
pub record QueueText : Type 0 where
  pub name : List ℕ
  pub queue : ℕ
  pub load : Option ℕ
  pub delay : Option ℕ
  pub backlog : Option ℕ

abbrev pub queue_view : QueueRow → QueueText
queue_view row = record {
  name = row.name.now;
  queue = row.queue;
  load = row.load;
  delay = row.delay;
  backlog = row.backlog;
}

pub record BranchText : Type 0 where
  pub link : List ℕ
  pub port : List ℕ
  pub bound : Option ℕ
  pub deadline : Option Amount

abbrev pub branch_view : BranchRow → BranchText
branch_view row = record { link = row.link.now; port = row.port.now; bound = row.bound; deadline = row.deadline }

-- ---- of the document
-- the name of this number
abbrev pub name_at : List (List ℕ) → ℕ → List ℕ
name_at names number = unwrap_or (slice_get names number) []

-- of a queue of a port of this name: the load of these rates, and what the table says
abbrev pub queue_text : List ℕ → Port → (q rates : ℕ) → Option Queue → QueueText
queue_text name port q rates row = record {
  name = name;
  queue = q;
  load = load_of port rates;
  delay = option_map (λ found. found.delay) row;
  backlog = option_map (λ found. found.backlog) row;
}

-- of the queues of a port
abbrev pub queues_with : List ℕ → Port → (rates : ℕ → ℕ) → (row : ℕ → Option Queue) → ℕ → List QueueText
queues_with name port rates row count = map (λ q. queue_text name port q (rates q) (row q)) (range_with_len 0 count)

abbrev pub queues_at : DocumentText → Network → Table → ℕ → List QueueText
queues_at d net table s =
    queues_with (name_at d.port_names s) (port_at net s) (rates_at net s) (row_in table s)
    (queues_of (port_at net s).discipline)

abbrev pub all_queues : DocumentText → Network → Table → List QueueText
all_queues d net table = flat_map (queues_at d net table) (range_with_len 0 (length net.ports.items))

-- of a branch: the names of its link and of its last port, and what the table says of the end behind that
abbrev pub port_in : Option Link → ℕ → ℕ
port_in None place = 0
port_in (Some link) place = (node_at link place).port

abbrev pub last_port : Network → BranchOnGrid → ℕ
last_port net b = port_in (slice_get net.links.items b.link) b.node

abbrev pub branch_text : DocumentText → Network → Table → BranchOnGrid → BranchText
branch_text d net table b = record {
  link = name_at d.link_names b.link;
  port = name_at d.port_names (last_port net b);
  bound = get_or (bounds_in table b.link) b.node None;
  deadline = b.deadline;
}

-- ---- the report
-- the network has these ports and links
pub record IsNetworkOf (d : DocumentText) (net : Network) : Type 0 where
  pub ports : map grid_port net.ports.items ≡ d.ports
  pub links : map grid_link net.links.items ≡ d.links

pub record IsReportOf (d : DocumentText) (net : Network) (table : Table) (report : Report) : Type 0 where
  pub ports : report.ports ≡ length net.ports.items
  pub links : report.links ≡ length net.links.items
  pub queues : map queue_view report.queues.items ≡ all_queues d net table
  pub branches : map branch_view report.branches.items ≡ map (branch_text d net table) d.branches

-- ---- its status: 9 where some branch has a deadline and misses it
abbrev pub misses : Option ℕ → Option Amount → Bool
misses bound None = false
misses bound (Some deadline) = not (is_met bound deadline)

abbrev pub is_missed : BranchRow → Bool
is_missed row = misses row.bound row.deadline

abbrev pub some_missed : List BranchRow → Bool
some_missed = list_any is_missed

abbrev pub status_with : Report → ℕ
status_with report = if some_missed report.branches.items then 9 else 0
