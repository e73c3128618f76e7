use Rattle.plain_operators.proofs.running.Nothing.{nothing_is, nothing_curve, nothing_value}
use Rattle.upp_curve.proofs.ReadableKinds.{zero_small}
use Rattle.plain_operators.proofs.running.leftover.nothing.Goals as goal

pub from_normal-requires : goal.from_normal-requires
from_normal-requires c =
    nothing_curve c.push.new.self.items c.zero-5.result zero_small
    (nothing_is c.push.new.self.items c.new-pieces.result.items c.zero.result c.zero-2.result c.zero-3.result c.zero-4.result c.zero-5.result c.new-pieces.ensures.items c.in_ok-push.ensures.items c.zero.ensures c.zero-2.ensures c.zero-3.ensures
    c.zero-4.ensures c.zero-5.ensures)

pub returns : goal.returns
returns c = λ t low.
    nothing_value c.push.new.self.items c.zero-5.result c.from_normal.result t
    (nothing_is c.push.new.self.items c.new-pieces.result.items c.zero.result c.zero-2.result c.zero-3.result c.zero-4.result c.zero-5.result c.new-pieces.ensures.items c.in_ok-push.ensures.items c.zero.ensures c.zero-2.ensures c.zero-3.ensures
    c.zero-4.ensures c.zero-5.ensures) c.from_normal.ensures low
