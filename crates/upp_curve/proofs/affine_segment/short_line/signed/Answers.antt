use mir.Syntax.{w128}
use Rattle.std.proofs.Common.{arith}
use Rattle.std.proofs.lemmas.Int.{to_z_pos}
use Rattle.upp_curve.proofs.affine_segment.short_line.signed.Goals as goal

pub returns : goal.returns
returns c = to_z_pos w128 c.args.n (omega arith)
