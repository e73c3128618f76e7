-- The rows of a report, and what of a table they tell.
use Rattle.std.proofs.Common.{◌≡◌, ℕ, ◌<◌, Some, List, length, map, sym, ◌∙◌, ap}
use Rattle.std.specs.Prelude.{slice_get, option_map}
use Rattle.std.specs.List.{range_with_len}
use Rattle.std.proofs.lemmas.Option.{slice_get-map}
use Rattle.tree_network.specs.Networks.{port_at, queues_of}
use Rattle.tree_network.specs.declared.network.Network.{Network}
use Rattle.document_tables.specs.Documents.{DocumentText}
use Rattle.document_tables.specs.Grids.{BranchOnGrid}
use Rattle.tree_bounds.specs.Tables.{row_in}
use Rattle.tree_bounds.specs.declared.analysis.Table.{Table}
use Rattle.bounds_report.specs.declared.rows.QueueRow.{QueueRow}
use Rattle.bounds_report.specs.declared.rows.BranchRow.{BranchRow}
use Rattle.bounds_report.specs.declared.rows.Report.{Report}
use Rattle.tree_bounds.specs.guarantee.Loads.{rates_at}
use Rattle.bounds_command.specs.Reports.{IsReportOf, QueueText, BranchText, queue_view, branch_view, queue_text, branch_text, queues_at, all_queues, name_at}
use Rattle.bounds_command.proofs.Places.{in_flat, in_map, in_range}

-- ---- what is told of a branch
pub told_branch : (d : DocumentText) (net : Network) (table : Table) (report : Report) (k : ℕ) (b : BranchOnGrid)
    (row : BranchRow) → IsReportOf d net table report → slice_get d.branches k ≡ Some b
    → slice_get report.branches.items k ≡ Some row → branch_text d net table b ≡ branch_view row
told_branch d net table report k b row is e f =
    let viewed : slice_get (map branch_view report.branches.items) k ≡ Some (branch_view row) =
    slice_get-map branch_view report.branches.items k ∙ ap (option_map branch_view) f in
    let told : slice_get (map (branch_text d net table) d.branches) k ≡ Some (branch_text d net table b) =
    slice_get-map (branch_text d net table) d.branches k ∙ ap (option_map (branch_text d net table)) e in
    let both : Some (branch_text d net table b) ≡ Some (branch_view row) =
    sym told ∙ ap (λ (xs : List BranchText). slice_get xs k) (sym is.branches) ∙ viewed in
    cc

-- ---- what is told of a queue
pub record ToldQueue (d : DocumentText) (net : Network) (table : Table) (row : QueueRow) : Type 0 where
  pub port : ℕ
  pub queue : ℕ
  pub inside : port < length net.ports.items
  pub within : queue < queues_of (port_at net port).discipline
  pub is : queue_text (name_at d.port_names port) (port_at net port) queue (rates_at net port queue) (row_in table port queue) ≡ queue_view row

pub told_queue : (d : DocumentText) (net : Network) (table : Table) (report : Report) (k : ℕ) (row : QueueRow)
    → IsReportOf d net table report → slice_get report.queues.items k ≡ Some row → ToldQueue d net table row
told_queue d net table report k row is e =
    let viewed : slice_get (map queue_view report.queues.items) k ≡ Some (queue_view row) =
    slice_get-map queue_view report.queues.items k ∙ ap (option_map queue_view) e in
    let told : slice_get (all_queues d net table) k ≡ Some (queue_view row) =
    ap (λ (xs : List QueueText). slice_get xs k) (sym is.queues) ∙ viewed in
    let at = in_flat (queues_at d net table) (range_with_len 0 (length net.ports.items)) k (queue_view row) told in
    let s = at.of in
    let count = queues_of (port_at net s).discipline in
    let one = in_map (λ q. queue_text (name_at d.port_names s) (port_at net s) q (rates_at net s q) (row_in table s q))
    (range_with_len 0 count) at.place (queue_view row) at.is in record {
      port = s;
      queue = one.of;
      inside = in_range (length net.ports.items) at.at s at.there;
      within = in_range count at.place one.of one.there;
      is = one.is;
    }
