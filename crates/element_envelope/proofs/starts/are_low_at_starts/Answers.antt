use Rattle.std.proofs.Common.{sym, subst}
use Rattle.rational.proofs.Laws.{le_of_lt}
use Rattle.element_envelope.specs.ConvolutionWindows.{WindowPiece}
use Rattle.upp_normal.proofs.AnswerRoom.{operand_line_fits}
use Rattle.upp_normal.proofs.NormaliseRank.{each_index}
use Rattle.element_envelope.proofs.starts.are_low_at_starts.Goals as goal

pub is_below-requires : goal.is_below-requires
is_below-requires c =
    let end = c.requires.0 in
    let R = c.requires.1 in
    let p = c.p-item.result in
    let P = subst (WindowPiece R.sizes end) (sym c.p-item.is) (each_index (WindowPiece R.sizes end) c.args.pieces.now c.loop-p.p-index p c.loop-p-test.true R.each) in
    operand_line_fits R.sizes end p.x c.loop-p.before R.limited (c.loop-p.invariant.1 R.sizes end R.each) P.start P.nonneg (le_of_lt P.before)

pub is_below-requires-in-loop-p : goal.is_below-requires-in-loop-p
is_below-requires-in-loop-p c =
    let end = c.requires.0 in
    let R = c.requires.1 in
    let p = c.p-item.result in
    let P = subst (WindowPiece R.sizes end) (sym c.p-item.is) (each_index (WindowPiece R.sizes end) c.args.pieces.now c.loop-p.p-index p c.loop-p-test.true R.each) in
    operand_line_fits R.sizes end p.x p.line R.limited P.line P.start P.nonneg (le_of_lt P.before)
