use Rattle.std.specs.Fmt.{decimal}
use Rattle.std.proofs.Common.{◌≡◌, ◌++◌, List, ℕ, codes, append_assoc}
use Rattle.std.proofs.lemmas.Result.{on_ok_weaker}
use Rattle.net_cells.specs.declared.cell.Kind.TheVariants.{QueueDelay, QueueBacklog}
use Rattle.report_text.specs.Shown.{shown}
use Rattle.report_text.specs.Report.{queue_line}
use Rattle.report_text.proofs.lines.push_queue_line.Goals as goal

-- a text, words and a text twice, and an end
joined : (old a v s w t n first second third last : List ℕ) → first ≡ old ++ a → second ≡ first ++ (v ++ s) → third ≡ second ++ (w ++ t) → last ≡ third ++ n
    → last ≡ old ++ (a ++ v ++ s ++ w ++ t ++ n)
joined old a v s w t n first second third last h k l m = rw (m, l, k, h) (simp append_assoc)

pub returns : goal.returns
unfolding queue_line
returns g c =
    let at = g.T.Table.at c.args.table.now in
    on_ok_weaker c.push_text.result
    (joined c.args.into.now.items (codes "queue " ++ c.args.name.now ++ codes " " ++ decimal c.args.queue) (codes " delay ") (shown at QueueDelay c.args.server c.args.queue)
    (codes " backlog ") (shown at QueueBacklog c.args.server c.args.queue) (codes "\n") c.push_queue_name.new.into.items c.push_number_after.new.into.items c.push_number_after-2.new.into.items
    c.push_text.new.into.items c.in_ok-push_queue_name.ensures c.in_ok-push_number_after.ensures c.in_ok-push_number_after-2.ensures)
    c.push_text.ensures
