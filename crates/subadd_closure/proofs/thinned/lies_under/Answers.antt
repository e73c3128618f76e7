use Rattle.std.proofs.Common.{refl}
use Rattle.subadd_closure.proofs.ThinnedElements.{lies_under}
use Rattle.subadd_closure.proofs.thinned.lies_under.Goals as goal

pub returns-then-starts_under : goal.returns-then-starts_under
returns-then-starts_under c h =
    let low = c.if-is_low.ensures refl in
    lies_under c.args.p.now c.in-Some.own c.args.line.now c.args.from c.args.to c.in-Some.is low.0 low.1
    (c.if-starts_under.ensures refl)
