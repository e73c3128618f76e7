use Rattle.element_envelope.proofs.least.early.Goals as goal
use Rattle.upp_normal.proofs.NormaliseShape.{taken_is}

pub returns : goal.returns
returns c =
    taken_is c.args.end c.args.pieces.items c.deref.result.now c.truncate.new.self.items c.count_before-count.result c.truncate.ensures.items c.count_before-count.ensures c.deref.ensures.value
