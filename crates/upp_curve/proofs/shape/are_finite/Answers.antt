use Rattle.std.proofs.Common.{refl, true≢false, sym, ◌∙◌}
use Rattle.upp_curve.specs.Shapes.{IsFinitePiece}
use Rattle.upp_curve.proofs.PieceLoops.{each_on, each_off, each_end}
use Rattle.upp_curve.proofs.shape.are_finite.Goals as goal

pub returns-then-not-is_finite_piece : goal.returns-then-not-is_finite_piece
returns-then-not-is_finite_piece c = (
  λ h. absurd (true≢false (sym h)),
  λ h. absurd (each_off IsFinitePiece c.args.pieces.now c.loop-p.p-index c.p-item.result c.loop-p.invariant c.loop-p-test.true c.p-item.is
      (λ k. true≢false (sym (c.is_finite_piece.ensures.1 k) ∙ c.if-not-is_finite_piece.true)) h),
)

pub loop-p-preserved : goal.loop-p-preserved
loop-p-preserved c =
    each_on IsFinitePiece c.args.pieces.now c.loop-p.p-index c.p-item.result c.loop-p.invariant c.loop-p-test.true c.p-item.is
    (c.is_finite_piece.ensures.0 c.if-not-is_finite_piece.false)

pub returns : goal.returns
returns c = (λ h. each_end IsFinitePiece c.args.pieces.now c.loop-p.p-index c.loop-p.invariant c.loop-p-test.false, λ h. refl)
