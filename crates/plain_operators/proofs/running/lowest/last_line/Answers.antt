use Rattle.std.proofs.Common.{sym}
use Rattle.upp_curve.proofs.PieceLoops.{last_is}
use Rattle.plain_operators.proofs.running.lowest.last_line.Goals as goal

pub returns-in-Some : goal.returns-in-Some
returns-in-Some c = sym (last_is c.args.pieces.now c.in-Some.p.now (sym c.in-Some.ensures.value))
