use Rattle.std.proofs.Common.{◌∙◌, sym}
use Rattle.upp_curve.specs.affine_segment.Values.{line_value}
use Rattle.upp_curve.specs.affine_segment.Reading.{piece_value}
use Rattle.rational.proofs.Compared.{not_less_out}
use Rattle.upp_limits.proofs.AtRank.{same_test, same_by, same_values}
use Rattle.upp_limits.proofs.own_window.keeps_line.Goals as goal
use Rattle.upp_curve.proofs.affine_segment.PieceIn.{value_by, value_past}

pub returns-then-is_less-clause-value : goal.returns-then-is_less-clause-value
returns-then-is_less-clause-value c =
    same_by (piece_value c.args.last.now c.args.rank) (line_value c.args.last.now.line c.args.rank) (value_past c.args.last.now c.args.rank (c.is_less.ensures.less.0 c.if-is_less.true))

pub returns-in-Some-clause-value : goal.returns-in-Some-clause-value
returns-in-Some-clause-value c =
    let p = c.args.last.now in
    let h = not_less_out c.is_less.result p.x c.args.rank c.is_less.ensures.less c.if-is_less.false in
    same_test c.same_ext.result p.at c.in-Some.value c.same_ext.ensures
    ∙ same_values p.at (piece_value p c.args.rank) c.in-Some.value (line_value p.line c.args.rank) (sym (value_by p c.args.rank h)) c.in-Some.ensures.value

pub returns-in-None-clause-fits : goal.returns-in-None-clause-fits
returns-in-None-clause-fits c = λ k.
    c.in-None.ensures.fits (k (not_less_out c.is_less.result c.args.last.now.x c.args.rank c.is_less.ensures.less c.if-is_less.false))
