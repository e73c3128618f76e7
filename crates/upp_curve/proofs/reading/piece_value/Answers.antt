use Rattle.std.proofs.Common.{◌≡◌, subst, sym, IfOk}
use Rattle.upp_curve.proofs.affine_segment.PieceIn.{value_later, value_start}
use Rattle.upp_curve.proofs.reading.piece_value.Goals as goal

pub returns-in-Greater-clause-value : goal.returns-in-Greater-clause-value
returns-in-Greater-clause-value c =
    subst (λ z. IfOk c.line_value.result (λ v. v ≡ z)) (sym (value_later c.args.p.now c.args.t c.cmp.result c.cmp.ensures.is c.in-Greater.is)) c.line_value.ensures.value

pub returns-in_default : goal.returns-in_default
returns-in_default c = record { value = sym (value_start c.args.p.now c.args.t c.cmp.result c.cmp.ensures.is c.in_default.not-Greater); wide = tt }
