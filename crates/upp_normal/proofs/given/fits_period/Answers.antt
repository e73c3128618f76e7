use Rattle.std.specs.Prelude.{◌↔◌, IsTrue}
use Rattle.std.proofs.Common.{pos, subst, sym}
use Rattle.rational.specs.Rational.{◌+ℚ◌, ◌*ℚ◌, ◌≤ℚ◌, ◌<ℚ◌, int}
use Rattle.upp_curve.specs.declared.affine_segment.line.Piece.{Piece}
use Rattle.rational.proofs.Laws.{le_of_lt}
use Rattle.rational.proofs.Compared.{not_less_out}
use Rattle.upp_normal.proofs.GivenCurves.{no_period, period_told}
use Rattle.upp_normal.proofs.given.fits_period.Goals as goal

pub returns-then-is_less : goal.returns-then-is_less
returns-then-is_less c = no_period c.args.pieces.now c.args.rank c.args.period c.zero.result c.zero.ensures (c.is_less.ensures.less.0 c.if-is_less.true)

pub is_after-requires-clause-start : goal.is_after-requires-clause-start
is_after-requires-clause-start c =
    subst (λ x. x ≤ℚ c.args.rank) c.zero.ensures (not_less_out c.is_less.result c.args.rank c.zero.result c.is_less.ensures.less c.if-is_less.false)

pub is_after-requires-clause-step : goal.is_after-requires-clause-step
is_after-requires-clause-step c = le_of_lt (subst (λ x. x <ℚ c.args.period) c.zero-2.ensures (c.is_less-2.ensures.less.0 c.if-not-is_less.false))

pub returns : goal.returns
returns c =
    let rank = c.args.rank in
    let period = c.args.period in
    let low : int (pos 0) ≤ℚ rank = subst (λ x. x ≤ℚ rank) c.zero.ensures (not_less_out c.is_less.result rank c.zero.result c.is_less.ensures.less c.if-is_less.false) in
    let some : int (pos 0) <ℚ period = subst (λ x. x <ℚ period) c.zero-2.ensures (c.is_less-2.ensures.less.0 c.if-not-is_less.false) in
    period_told c.args.pieces.now rank period c.index-pieces-pieces.result c.is_after.result c.requires low some c.index-pieces-pieces.is
    (subst (λ (p : Piece). IsTrue c.is_after.result ↔ (p.x <ℚ rank +ℚ int (pos 1) *ℚ period)) (sym c.index-pieces-pieces.is) c.is_after.ensures)
