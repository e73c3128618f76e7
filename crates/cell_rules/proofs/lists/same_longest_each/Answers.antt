use Rattle.net_cells.specs.Visits.{longest}
use Rattle.cell_rules.proofs.Tells.{tells_yes, tells_no, other_row, longer_row}
use Rattle.cell_rules.proofs.lists.same_longest_each.Goals as goal
use Rattle.std.proofs.Common.{arith}

pub returns-then-not-same_longest : goal.returns-then-not-same_longest
returns-then-not-same_longest c =
    let f = longest c.args.old.now c.args.server in
    let g = longest c.args.new.now c.args.server in
    let j = c.loop-queue.queue in
    other_row f g c.args.count j (omega arith)
    (tells_no (f j) (g j) c.same_longest.result c.same_longest.ensures c.if-not-same_longest.true)

pub loop-queue-preserved : goal.loop-queue-preserved
loop-queue-preserved c =
    let f = longest c.args.old.now c.args.server in
    let g = longest c.args.new.now c.args.server in
    let j = c.loop-queue.queue in
    longer_row f g j c.loop-queue.invariant
    (tells_yes (f j) (g j) c.same_longest.result c.same_longest.ensures c.if-not-same_longest.false)
