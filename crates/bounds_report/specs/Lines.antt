-- The lines of a report on bounds. Own choice.
use Rattle.std.specs.Prelude.{ℕ, List, [], length, ◌++◌, codes, Option, Some, None, if◌then◌else◌}
use Rattle.std.specs.List.{flat_map}
use Rattle.std.specs.Fmt.{decimal}
use Rattle.table_cells.specs.declared.amount.Amount.{Amount}
use Rattle.bounds_report.specs.declared.rows.QueueRow.{QueueRow}
use Rattle.bounds_report.specs.declared.rows.BranchRow.{BranchRow}
use Rattle.bounds_report.specs.declared.rows.Report.{Report}
use Rattle.bounds_report.specs.Numbers.{exact, thousandths, microseconds, or_none, is_met}

abbrev pub met_text : Option ℕ → Amount → List ℕ
met_text bound deadline = if is_met bound deadline then codes "met" else codes "missed"

abbrev pub deadline_text : Option ℕ → Option Amount → List ℕ
deadline_text bound None = []
deadline_text bound (Some deadline) =
    codes " deadline " ++ (exact deadline ++ (codes " " ++ met_text bound deadline))

-- `port NAME Q load X delay D backlog B`
unfoldable pub queue_line : QueueRow → List ℕ
queue_line row =
    codes "port " ++ (row.name.now ++ (codes " " ++ (decimal row.queue
    ++ (codes " load " ++ (or_none thousandths row.load
    ++ (codes " delay " ++ (or_none microseconds row.delay
    ++ (codes " backlog " ++ (or_none decimal row.backlog ++ codes "\n")))))))))

-- `branch LINK LASTPORT bound Z`, and with a deadline what it is and whether it is met
unfoldable pub branch_line : BranchRow → List ℕ
branch_line row =
    codes "branch " ++ (row.link.now ++ (codes " " ++ (row.port.now
    ++ (codes " bound " ++ (or_none microseconds row.bound
    ++ (deadline_text row.bound row.deadline ++ codes "\n"))))))

-- `ports NP links NL branches NB`
unfoldable pub head_line : Report → List ℕ
head_line r =
    codes "ports " ++ (decimal r.ports ++ (codes " links " ++ (decimal r.links
    ++ (codes " branches " ++ (decimal (length r.branches.items) ++ codes "\n")))))

unfoldable pub report_lines : Report → List ℕ
report_lines r = head_line r ++ flat_map queue_line r.queues.items ++ flat_map branch_line r.branches.items
