use Rattle.std.proofs.lemmas.Result.{IfOk-weaker}
use Rattle.outcomes.specs.Stages.{stops}
use Rattle.commands.proofs.edit.on_net.on_network.Goals as goal

pub returns-in-Err-Cycle-clause-reply : goal.returns-in-Err-Cycle-clause-reply
returns-in-Err-Cycle-clause-reply g c =
    let cycle = rw c.in-Err-Cycle.field-0-is at c.in-Err-Cycle.ensures.fault in
    let told = rw c.deref-in-Err-Cycle.ensures.value at c.goes_round.ensures in
    IfOk-weaker c.goes_round.result _ _
    (λ r is. stops record { walk = _; cycle = cycle; is = is })
    (rw c.in-Err-Cycle.field-0-is at told)
