use Rattle.std.proofs.Common.{arith}
use Rattle.upp_limits.proofs.Lengths.{narrow_length}
use Rattle.upp_limits.proofs.gauges.is_narrow.Goals as goal

pub returns : goal.returns
returns c = λ h. narrow_length c.args.a c.args.b c.args.c (omega arith) (omega arith) (omega arith) c.if-first-second.false
