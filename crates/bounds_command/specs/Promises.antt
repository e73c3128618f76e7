-- What a report promises: in every lawful run over the network of its document whose links keep their frames, gaps and
-- jitters and whose ports keep their service curves, no frame stays longer at a queue than the delay that is printed
-- for it, no queue holds more bits than the backlog, and no frame of a branch takes longer from its entry to the end of
-- the link behind the branch's last port than the bound, nor than its deadline where that is told as met. Where `none`
-- is printed nothing is promised.
use Rattle.std.specs.Prelude.{◌≡◌, ◌+◌, ◌*◌, ◌/◌, ◌<◌, ℕ, true, List, length, slice_get, Option, Some, None}
use Rattle.rational.specs.Rational.{ℚ}
use Rattle.rational.specs.Extended.{Ext}
use Rattle.rational.specs.declared.Extended.TheVariants.{Fin, Inf}
use Rattle.run_laws.specs.Runs.{SpecRun}
use Rattle.run_laws.specs.Cards.{whole}
use Rattle.run_laws.specs.Bounds.{IsQueueBounded}
use Rattle.run_laws.specs.Delays.{AreAtMost}
use Rattle.tree_runs.specs.Trees.{flat}
use Rattle.tree_runs.specs.Branches.{delays_to}
use Rattle.arrival_lines.specs.Grid.{micros}
use Rattle.table_cells.specs.declared.amount.Amount.{Amount}
use Rattle.tree_network.specs.declared.network.Network.{Network}
use Rattle.document_rows.specs.PortRows.{PortText}
use Rattle.document_tables.specs.declared.links.LinkKeys.{LinkKeys}
use Rattle.document_tables.specs.Documents.{DocumentText}
use Rattle.document_tables.specs.Grids.{BranchOnGrid}
use Rattle.bounds_report.specs.Numbers.{is_met}
use Rattle.bounds_report.specs.declared.rows.QueueRow.{QueueRow}
use Rattle.bounds_report.specs.declared.rows.BranchRow.{BranchRow}
use Rattle.bounds_report.specs.declared.rows.Report.{Report}
use Rattle.tree_bounds.specs.guarantee.Routes.{routes_of}
use Rattle.tree_bounds.specs.guarantee.Guarantee.{IsRunOf}
use Rattle.rounded_runs.specs.Written.{IsRounded, IsWrittenRun, exact}
use Rattle.bounds_command.specs.Reports.{name_at, last_port}

-- a time as it is printed: picoseconds in microseconds, rounded up to thousandths
abbrev pub printed : ℕ → ℚ
printed time = micros ((time + 999) / 1000 * 1000)

-- where there is no number, nothing is said
abbrev pub or_infinite : (ℕ → ℚ) → Option ℕ → Ext
or_infinite value None = Inf
or_infinite value (Some n) = Fin (value n)

-- the row is of the queue of a port of its name, and the delay and the backlog are kept there
pub record QueueIsKept (d : DocumentText) (net : Network) (run : SpecRun) (row : QueueRow) : Type 0 where
  pub port : ℕ
  pub inside : port < length net.ports.items
  pub name : row.name.now ≡ name_at d.port_names port
  pub bounded : IsQueueBounded (flat (routes_of net)) run port row.queue
      (or_infinite printed row.delay) (or_infinite whole row.backlog)

-- the row is of the branch, and the bound is kept there, and a deadline that is told as met
pub record BranchIsKept (d : DocumentText) (net : Network) (run : SpecRun) (b : BranchOnGrid) (row : BranchRow)
    : Type 0 where
  pub link : row.link.now ≡ name_at d.link_names b.link
  pub port : row.port.now ≡ name_at d.port_names (last_port net b)
  pub bounded : AreAtMost (or_infinite printed row.bound) (delays_to (routes_of net) run b.link (last_port net b))
  pub met : (deadline : Amount) → row.deadline ≡ Some deadline → is_met row.bound deadline ≡ true
      → AreAtMost (Fin (exact deadline)) (delays_to (routes_of net) run b.link (last_port net b))

pub record IsKept (d : DocumentText) (net : Network) (report : Report) (run : SpecRun) : Type 0 where
  pub queues : (k : ℕ) (row : QueueRow) → slice_get report.queues.items k ≡ Some row → QueueIsKept d net run row
  pub branches : (k : ℕ) (b : BranchOnGrid) (row : BranchRow) → slice_get d.branches k ≡ Some b
      → slice_get report.branches.items k ≡ Some row → BranchIsKept d net run b row

-- each such run keeps the report
abbrev pub Guarantees : DocumentText → Network → Report → Type 0
Guarantees d net report = (run : SpecRun) → IsRunOf net run → IsKept d net report run

-- and each lawful run of the network that is written, exact, keeps it, where this one has its numbers on the grid
abbrev pub WrittenGuarantees : DocumentText → Network → Report → Type 0
WrittenGuarantees d net report =
    (overhead : ℕ) (texts : List PortText) (keys : List LinkKeys) (run : SpecRun) → IsRounded overhead texts keys net
    → IsWrittenRun overhead texts keys net run → IsKept d net report run
