use Rattle.plain_operators.proofs.pointwise.Nowhere.{IsNowhere, made_curve, made_values}
use Rattle.plain_operators.proofs.pointwise.shifts.infinite_curve.Goals as goal

pub from_normal-requires : goal.from_normal-requires
from_normal-requires c =
    let one : IsNowhere c.push.new.self.items c.new-pieces.result.items c.zero.result c.zero-2.result =
    record { zero = c.zero.ensures; at = c.zero-2.ensures; none = c.new-pieces.ensures.items; one = c.in_ok-push.ensures.items } in
    made_curve c.push.new.self.items c.new-pieces.result.items c.zero.result c.zero-2.result one

pub returns : goal.returns
returns c = λ t low.
    let one : IsNowhere c.push.new.self.items c.new-pieces.result.items c.zero.result c.zero-2.result =
    record { zero = c.zero.ensures; at = c.zero-2.ensures; none = c.new-pieces.ensures.items; one = c.in_ok-push.ensures.items } in
    made_values c.push.new.self.items c.new-pieces.result.items c.zero.result c.zero-2.result t c.from_normal.result one c.from_normal.ensures
