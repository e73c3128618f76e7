use Rattle.std.proofs.Common.{arith}
use Rattle.curve_conv.proofs.ConvolveCalls.{frame_fits, frame_parts, frame_at_once}
use Rattle.subadd_closure.proofs.star_convolution.frame_at_once.Goals as goal

pub difference-from-requires : goal.difference-from-requires
difference-from-requires c = frame_fits c.args.f.now c.args.g.now c.in-Ok.frame c.in-Ok.ensures.frame

pub quick_bounds-requires-clause-parts : goal.quick_bounds-requires-clause-parts
quick_bounds-requires-clause-parts c = frame_parts c.args.f.now c.args.g.now c.in-Ok.frame c.difference-from.result c.in-Ok.ensures.frame c.difference-from.ensures

pub returns : goal.returns
returns c = frame_at_once c.args.f.now c.args.g.now c.in-Ok.frame c.difference-from.result c.in-Some.bounds c.in-Ok.ensures.frame c.difference-from.ensures c.in-Some.ensures (omega arith)
