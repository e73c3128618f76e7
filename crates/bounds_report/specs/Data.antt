-- A report on bounds as JSON. Keys stand in the order of their bytes. Own choice.
use Rattle.std.specs.Prelude.{ℕ, List, ◌++◌, codes, map, Option, Some, None}
use Rattle.std.specs.Fmt.{decimal}
use Rattle.table_cells.specs.declared.amount.Amount.{Amount}
use Rattle.serde_json.specs.Data.{Data, Members, string, number, unsigned, boolean, array, object, no_members, member}
use Rattle.serde_json.specs.View.{items_of}
use Rattle.serde_json.specs.Written.{compact_text}
use Rattle.bounds_report.specs.declared.rows.QueueRow.{QueueRow}
use Rattle.bounds_report.specs.declared.rows.BranchRow.{BranchRow}
use Rattle.bounds_report.specs.declared.rows.Report.{Report}
use Rattle.bounds_report.specs.Numbers.{exact, thousandths, microseconds, or_none, is_met}

-- a text's member before others
abbrev pub text_member : List ℕ → List ℕ → Members → Members
text_member key text rest = member key (string text) rest

-- texts as the lines show them; the queue's number is a JSON number
unfoldable pub queue_data : QueueRow → Data
queue_data row =
    object (text_member (codes "backlog") (or_none decimal row.backlog)
    (text_member (codes "delay") (or_none microseconds row.delay)
    (text_member (codes "load") (or_none thousandths row.load)
    (text_member (codes "name") row.name.now
    (member (codes "queue") (number (unsigned row.queue)) no_members)))))

-- a deadline, and whether it is met, only where there is one
abbrev pub branch_members : List ℕ → List ℕ → Option ℕ → Option Amount → Members
branch_members link port bound None =
    text_member (codes "bound") (or_none microseconds bound)
    (text_member (codes "link") link
    (text_member (codes "port") port no_members))
branch_members link port bound (Some deadline) =
    text_member (codes "bound") (or_none microseconds bound)
    (text_member (codes "deadline") (exact deadline)
    (text_member (codes "link") link
    (member (codes "met") (boolean (is_met bound deadline))
    (text_member (codes "port") port no_members))))

unfoldable pub branch_data : BranchRow → Data
branch_data row = object (branch_members row.link.now row.port.now row.bound row.deadline)

abbrev pub report_data : Report → Data
report_data r =
    object (member (codes "branches") (array (items_of (map branch_data r.branches.items)))
    (member (codes "ports") (array (items_of (map queue_data r.queues.items))) no_members))

-- a value without a space, and one newline after it
unfoldable pub report_json : Report → List ℕ
report_json r = compact_text (report_data r) ++ codes "\n"
