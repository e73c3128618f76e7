use Rattle.std.proofs.Common.{refl}
use Rattle.curve_conv.proofs.Lowers.{lower_goes, lower_next, lower_stands, lower_crosses}
use Rattle.curve_conv.proofs.lower.lower.Goals as goal

pub either_under-line-requires : goal.either_under-line-requires
either_under-line-requires c = let w = c.requires in lower_crosses w.0 w.1 c.args.t c.args.s.now c.args.r.now w.2 w.3 w.4

pub returns-clause-goes : goal.returns-clause-goes
returns-clause-goes c f g F G = lower_goes f g c.args.t c.args.s.now c.args.r.now _ c.either_under-line.result c.earliest-next.result F G c.either_under-line.ensures c.earliest-next.ensures c.lesser_value.ensures refl c.earliest.ensures

pub returns-clause-next : goal.returns-clause-next
returns-clause-next c u h = lower_next u c.args.s.now.next c.args.r.now.next c.either_under-line.result.turn c.earliest-next.result c.earliest.result c.earliest-next.ensures c.earliest.ensures h

pub returns-clause-sizes : goal.returns-clause-sizes
returns-clause-sizes c z end T S R =
    lower_stands z end c.args.t c.args.s.now c.args.r.now _ c.either_under-line.result c.earliest-next.result T S R c.either_under-line.ensures c.earliest-next.ensures c.lesser_value.ensures refl c.earliest.ensures
