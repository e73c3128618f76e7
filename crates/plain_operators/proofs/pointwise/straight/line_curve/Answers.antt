use Rattle.plain_operators.proofs.pointwise.straight.line_curve.Goals as goal

pub from_normal-requires : goal.from_normal-requires
from_normal-requires c = rw (c.in-Ok.ensures.items, c.zero-zero.ensures) c.is_kept.ensures
