use Rattle.std.proofs.Common.{inl}
use Rattle.std.proofs.lemmas.Result.{IfOk-weaker}
use Rattle.commands.proofs.Stopped.{none_counted}
use Rattle.commands.proofs.tabled.table_of.Goals as goal

pub returns-in-Err-Cycle-clause-stopped : goal.returns-in-Err-Cycle-clause-stopped
returns-in-Err-Cycle-clause-stopped g c =
    let cycle = rw c.in-Err-Cycle.field-0-is at c.in-Err-Cycle.ensures.fault in
    IfOk-weaker c.goes_round.result _ _
    (λ r is. inl record { walk = _; cycle = cycle; is = is })
    (rw c.deref-in-Err-Cycle.ensures.value at c.goes_round.ensures)

-- ---- what is counted
pub returns-in-Ok-clause-counts : goal.returns-in-Ok-clause-counts
returns-in-Ok-clause-counts g c = c.in_order.ensures.counts

pub returns-in-Err-Cycle-clause-counts : goal.returns-in-Err-Cycle-clause-counts
returns-in-Err-Cycle-clause-counts g c = none_counted c.args.net.now c.args.steps.now _

pub returns-in-Err-NoMemory-clause-counts : goal.returns-in-Err-NoMemory-clause-counts
returns-in-Err-NoMemory-clause-counts g c = none_counted c.args.net.now c.args.steps.now _
