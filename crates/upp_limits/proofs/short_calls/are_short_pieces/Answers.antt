use Rattle.std.proofs.Common.{refl, true≢false, sym, ◌∙◌}
use Rattle.upp_limits.specs.Short.{IsShortPiece}
use Rattle.upp_curve.proofs.PieceLoops.{each_on, each_off, each_end}
use Rattle.upp_limits.proofs.short_calls.are_short_pieces.Goals as goal

pub returns-then-not-is_short_piece : goal.returns-then-not-is_short_piece
returns-then-not-is_short_piece c = (
  λ h. absurd (true≢false (sym h)),
  λ h. absurd (each_off IsShortPiece c.args.pieces.now c.loop-piece.piece-index c.piece-item.result c.loop-piece.invariant c.loop-piece-test.true c.piece-item.is
      (λ k. true≢false (sym (c.is_short_piece.ensures.1 k) ∙ c.if-not-is_short_piece.true)) h),
)

pub loop-piece-preserved : goal.loop-piece-preserved
loop-piece-preserved c =
    each_on IsShortPiece c.args.pieces.now c.loop-piece.piece-index c.piece-item.result c.loop-piece.invariant c.loop-piece-test.true c.piece-item.is (c.is_short_piece.ensures.0 c.if-not-is_short_piece.false)

pub returns : goal.returns
returns c = (λ h. each_end IsShortPiece c.args.pieces.now c.loop-piece.piece-index c.loop-piece.invariant c.loop-piece-test.false, λ h. refl)
