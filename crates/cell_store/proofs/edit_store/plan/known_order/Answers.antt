use Rattle.std.proofs.Common.{◌∙◌}
use Rattle.cell_store.proofs.edit_store.Ordered.{copy_orders}
use Rattle.cell_store.proofs.edit_store.plan.known_order.Goals as goal

pub returns-in_ok-again-in-Some-clause-order : goal.returns-in_ok-again-in-Some-clause-order
returns-in_ok-again-in-Some-clause-order c =
    copy_orders c.args.known.now c.in-Some.servers c.args.net.now c.in_ok-again-in-Some.again.items c.in-Some.is c.requires
    (c.in_ok-again-in-Some.ensures.items ∙ c.deref.ensures.value)
