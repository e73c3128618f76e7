-- What holds of the replies on two tables.
use Rattle.std.specs.Prelude.{◌≡◌, ◌⊎◌, ℕ, ◌+◌, Bool, true, false, List, get_or, slice_get, Some, None, Ok}
use Rattle.rational.specs.Rational.{◌≤ℚ◌, ◌<ℚ◌}
use Rattle.arrival_lines.specs.Grid.{micros}
use Rattle.table_cells.specs.declared.amount.Amount.{Amount}
use Rattle.table_cells.specs.Amounts.{amount_in}
use Rattle.document_tables.specs.Tables.{LineRow}
use Rattle.document_tables.specs.Documents.{DocumentText, document_of}
use Rattle.tree_network.specs.declared.network.Network.{Network}
use Rattle.tree_network.specs.Networks.{IsNetwork}
use Rattle.tree_network.specs.Orders.{IsNetworkRing}
use Rattle.tree_bounds.specs.Tables.{IsTableOf, bounds_in, row_in}
use Rattle.tree_bounds.specs.declared.analysis.Table.{Table}
use Rattle.rounded_runs.specs.Written.{exact}
use Rattle.bounds_report.specs.Numbers.{microseconds}
use Rattle.bounds_report.specs.declared.rows.QueueRow.{QueueRow}
use Rattle.bounds_report.specs.declared.rows.BranchRow.{BranchRow}
use Rattle.bounds_report.specs.declared.rows.Report.{Report}
use Rattle.bounds_command.specs.declared.form.Form.{Form}
use Rattle.bounds_command.specs.Replies.{Reply}
use Rattle.bounds_command.specs.Promises.{printed}
use Rattle.bounds_command.specs.Reports.{IsNetworkOf, IsReportOf, some_missed}
use Rattle.bounds_command.specs.OnTables.{Tables, AreRowsOfBoth, OfDocument, IsReported, IsFaulty, IsCyclic, IsReplyOn}

-- ---- one reply
-- status and text are determined by the names and the bytes of the files, the overhead and the form
abbrev pub RepliesAreDetermined : Type 0
RepliesAreDetermined =
    (t : Tables) (overhead : ℕ) (form : Form) (x y : Reply) → IsReplyOn t overhead form x → IsReplyOn t overhead form y
    → x ≡ y

-- ---- one table
-- tables that meet the equations of a network agree in each row and each bound
abbrev pub TablesAreDetermined : Type 0
TablesAreDetermined =
    (net : Network) (one other : Table) → IsNetwork net → IsTableOf net one → IsTableOf net other
    → ((s q : ℕ) → row_in one s q ≡ row_in other s q)
    × ((i place : ℕ) → get_or (bounds_in one i) place None ≡ get_or (bounds_in other i) place None)

-- ---- printed times
-- The text of so many picoseconds, read as a cell of a table is: the number of microseconds that is promised, no less than the
-- time and less than a thousandth of a microsecond above it.
pub record TellsTime (time : ℕ) : Type 0 where
  pub amount : Amount
  pub reads : amount_in (microseconds time) ≡ Some amount
  pub promised : exact amount ≡ printed time
  pub no_less : micros time ≤ℚ printed time
  pub close : printed time <ℚ micros (time + 1000)

-- each delay and each bound of a report
pub record TellsBounds (report : Report) : Type 0 where
  pub delays : (k delay : ℕ) (row : QueueRow) → slice_get report.queues.items k ≡ Some row → row.delay ≡ Some delay
      → TellsTime delay
  pub bounds : (k bound : ℕ) (row : BranchRow) → slice_get report.branches.items k ≡ Some row → row.bound ≡ Some bound
      → TellsTime bound

abbrev pub ReportsTellBounds : Type 0
ReportsTellBounds =
    (d : DocumentText) (net : Network) (table : Table) (report : Report) → IsNetwork net → IsTableOf net table
    → IsReportOf d net table report → TellsBounds report

-- ---- tables that are answered
-- a document without a fault, whose links go round nowhere
pub record IsAnswerable (t : Tables) (overhead : ℕ) : Type 0 where
  pub port_rows : List LineRow
  pub link_rows : List LineRow
  pub rows : AreRowsOfBoth t port_rows link_rows
  pub document : DocumentText
  pub reads : document_of overhead port_rows link_rows ≡ Ok document
  pub no_ring : (net : Network) (ring : List ℕ) → IsNetworkOf document net → IsNetworkRing net ring → ⊥

-- their reply is a report
abbrev pub RepliesAreComplete : Type 0
RepliesAreComplete =
    (t : Tables) (overhead : ℕ) (form : Form) (reply : Reply) → IsAnswerable t overhead
    → IsReplyOn t overhead form reply
    → (reply.status ≡ 0) ⊎ (reply.status ≡ 9)

-- ---- statuses
-- a report by which some branch misses its deadline, or by which none does
pub record IsReportedWith (missed : Bool) (d : DocumentText) (net : Network) (form : Form) (reply : Reply) : Type 0
  where
    pub reported : IsReported d net form reply
    pub misses : some_missed reported.report.branches.items ≡ missed

abbrev pub IsReport : Bool → Tables → ℕ → Form → Reply → Type 0
IsReport missed t overhead form reply = OfDocument t overhead (λ d net. IsReportedWith missed d net form reply)

-- each status has its cause, and there is no other status
pub record HasCause (t : Tables) (overhead : ℕ) (form : Form) (reply : Reply) : Type 0 where
  pub known : (reply.status ≡ 0) ⊎ ((reply.status ≡ 1) ⊎ ((reply.status ≡ 8) ⊎ (reply.status ≡ 9)))
  pub malformed : reply.status ≡ 1 → IsFaulty t overhead form reply
  pub cyclic : reply.status ≡ 8 → IsCyclic t overhead form reply
  pub met : reply.status ≡ 0 → IsReport false t overhead form reply
  pub missed : reply.status ≡ 9 → IsReport true t overhead form reply

abbrev pub StatusesHaveCauses : Type 0
StatusesHaveCauses =
    (t : Tables) (overhead : ℕ) (form : Form) (reply : Reply) → IsReplyOn t overhead form reply
    → HasCause t overhead form reply
