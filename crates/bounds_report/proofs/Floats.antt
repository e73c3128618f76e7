-- No value of a report has a float.
use Rattle.std.proofs.Common.{◌≡◌, ℕ, false, List, [], ◌∷◌, map, Option, Some, None, refl}
use Rattle.table_cells.specs.declared.amount.Amount.{Amount}
use Rattle.serde_json.specs.Data.{Data}
use Rattle.serde_json.specs.View.{items_of}
use Rattle.serde_json.specs.Written.{has_float, items_have_float, members_have_float}
use Rattle.bounds_report.specs.declared.rows.QueueRow.{QueueRow}
use Rattle.bounds_report.specs.declared.rows.BranchRow.{BranchRow}
use Rattle.bounds_report.specs.declared.rows.Report.{Report}
use Rattle.bounds_report.specs.Data.{queue_data, branch_members, branch_data, report_data}

of_values : {X : Type 0} (f : X → Data) → ((x : X) → has_float (f x) ≡ false) → (xs : List X) → items_have_float (items_of (map f xs)) ≡ false
of_values f h [] = refl
of_values f h (x ∷ xs) = rw (h x) (of_values f h xs)

of_queue : (row : QueueRow) → has_float (queue_data row) ≡ false
unfolding queue_data
of_queue row = refl

of_members : (link port : List ℕ) (bound : Option ℕ) (deadline : Option Amount) → members_have_float (branch_members link port bound deadline) ≡ false
of_members link port bound None = refl
of_members link port bound (Some deadline) = refl

of_branch : (row : BranchRow) → has_float (branch_data row) ≡ false
unfolding branch_data
of_branch row = of_members row.link.now row.port.now row.bound row.deadline

pub no_float : (report : Report) → has_float (report_data report) ≡ false
no_float report =
    let branches = of_values branch_data of_branch report.branches.items in
    let queues = of_values queue_data of_queue report.queues.items in
    rw (branches, queues) refl
