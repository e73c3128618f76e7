use Rattle.plain_operators.proofs.pointwise.Leanings.{span_time}
use Rattle.plain_operators.proofs.pointwise.leaning.start_icept.Goals as goal

pub stretch_at-requires : goal.stretch_at-requires
stretch_at-requires c = span_time c.args.c.now c.args.from c.args.end c.requires
