use Rattle.std.proofs.Common.{◌∙◌, sym}
use Rattle.upp_curve.proofs.affine_segment.PieceIn.{value_later, value_start}
use Rattle.upp_curve.proofs.affine_segment.reading.piece_value.Goals as goal

pub returns-in-Greater : goal.returns-in-Greater
returns-in-Greater c = c.line_value.ensures ∙ sym (value_later c.args.p.now c.args.t c.cmp.result c.cmp.ensures.is c.in-Greater.is)

pub returns-in_default : goal.returns-in_default
returns-in_default c = sym (value_start c.args.p.now c.args.t c.cmp.result c.cmp.ensures.is c.in_default.not-Greater)
