use Rattle.std.proofs.Common.{refl}
use Rattle.curve_call.proofs.EitherOrder.{of_first, of_second}
use Rattle.plain_operators.proofs.pointwise.leaning.least_by_lines.Goals as goal

pub returns-then-is_slower : goal.returns-then-is_slower
returns-then-is_slower c = of_first c.args.f.now c.args.g.now c.args.from c.args.period c.least_soon.result (c.if-is_slower.ensures.0 refl) c.least_soon.ensures

pub returns-then-is_slower-2 : goal.returns-then-is_slower-2
returns-then-is_slower-2 c =
    of_second c.args.f.now c.args.g.now c.args.from c.args.period c.least_soon-then-is_slower-2.result (c.if-is_slower-2.ensures.0 refl) c.least_soon-then-is_slower-2.ensures
