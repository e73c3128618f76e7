use Rattle.std.specs.Prelude.{◌↔◌, IsTrue}
use Rattle.std.proofs.Common.{pos, subst, sym}
use Rattle.rational.specs.Rational.{◌≤ℚ◌, ◌<ℚ◌, int}
use Rattle.upp_curve.specs.declared.affine_segment.line.Piece.{Piece}
use Rattle.rational.proofs.Compared.{not_less_out}
use Rattle.upp_normal.proofs.GivenCurves.{no_rank, rank_told}
use Rattle.upp_normal.proofs.given.fits_rank.Goals as goal

pub returns-then-is_less : goal.returns-then-is_less
returns-then-is_less c = no_rank c.args.pieces.now c.args.rank c.zero.result c.zero.ensures (c.is_less.ensures.less.0 c.if-is_less.true)

pub returns : goal.returns
returns c =
    let rank = c.args.rank in
    let low : int (pos 0) ≤ℚ rank = subst (λ x. x ≤ℚ rank) c.zero.ensures (not_less_out c.is_less.result rank c.zero.result c.is_less.ensures.less c.if-is_less.false) in
    rank_told c.args.pieces.now rank c.index-pieces-pieces.result c.is_less-2.result c.requires low c.index-pieces-pieces.is
    (subst (λ (p : Piece). IsTrue c.is_less-2.result ↔ (rank <ℚ p.x)) (sym c.index-pieces-pieces.is) c.is_less-2.ensures.less)
