use Rattle.element_envelope.proofs.PaceSteps.{seen_is}
use Rattle.element_envelope.proofs.pace.seen_more.Goals as goal

pub returns : goal.returns
returns c =
    seen_is c.args.slope c.args.until c.args.p.now c.args.seen c.in-Fin.v c.in-Some.line c.in_ok-start.start c.in_ok-after.after c.in_ok-before.before c.lesser-low.result c.greater.result c.greater-top.result c.in_ok-more.more
    c.greater-2.result c.in-Fin.is c.in-Some.is c.in_ok-start.ensures c.in_ok-after.ensures c.in_ok-before.ensures c.lesser-low.ensures c.greater.ensures c.greater-top.ensures c.in_ok-more.ensures c.greater-2.ensures
