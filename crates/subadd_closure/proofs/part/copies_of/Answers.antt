use Rattle.subadd_closure.proofs.PartCopies.{early_copies, late_copies}
use Rattle.subadd_closure.proofs.part.copies_of.Goals as goal

pub returns-then-is_less : goal.returns-then-is_less
returns-then-is_less c =
    early_copies c.args.tail.now c.args.e.now c.in-Periodic.rank c.in-Periodic.period c.in-Periodic.rise c.start_of.result c.is_less.result
    c.in-Periodic.is c.start_of.ensures c.is_less.ensures.test c.if-is_less.true

pub returns-else-is_less : goal.returns-else-is_less
returns-else-is_less c =
    late_copies c.args.tail.now c.args.e.now c.in-Periodic.rank c.in-Periodic.period c.in-Periodic.rise c.start_of.result c.is_less.result
    c.in-Periodic.is c.start_of.ensures c.is_less.ensures.test c.if-is_less.false
