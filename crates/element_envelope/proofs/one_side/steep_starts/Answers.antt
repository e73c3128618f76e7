use Rattle.std.specs.Prelude.{Vec, pos}
use Rattle.std.proofs.Common.{◌+◌, ◌∙◌, ap, inl, inr, drop, drop_of_length-le, Global}
use Rattle.rational.specs.Rational.{int}
use Rattle.upp_curve.specs.declared.affine_segment.line.Piece.{Piece}
use Rattle.upp_curve.proofs.affine_segment.NextPiece.{next_piece}
use Rattle.element_envelope.specs.NearStarts.{RisesWithin}
use Rattle.element_envelope.proofs.NearCopies.{IsPutOr, without_step, without_end, without_none}
use Rattle.element_envelope.proofs.StartTests.{piece_there, line_there}
use Rattle.element_envelope.proofs.one_side.steep_starts.Goals as goal
use Rattle.element_envelope.proofs.one_side.steep_starts.Goals.{then-not-is_flat+in_ok-push, else-not-is_flat}

pub loop-p-init : goal.loop-p-init
loop-p-init c = without_none (RisesWithin (int (pos 0))) c.args.pieces.now c.in_ok-kept.kept.items c.in_ok-kept.ensures.items

pub is_flat-requires : goal.is_flat-requires
is_flat-requires c =
    let R = c.requires.1 in
    let p = c.p-item.result in
    let P = piece_there R.sizes c.requires.0 c.args.pieces.now c.loop-p.p-index p c.loop-p-test.true c.p-item.is R.each in
    line_there R.sizes c.requires.0 p.line p R.limited P P.line

pub loop-p-preserved : goal.loop-p-preserved
loop-p-preserved c =
    let all = c.args.pieces.now in
    let i = c.loop-p.p-index in
    let items = λ (v : Vec Piece Global). v.items in
    let p = c.p-item.result in
    let step : IsPutOr (RisesWithin (int (pos 0))) p c.loop-p.kept.items c.if-not-is_flat.kept.items =
    elim c.if-not-is_flat.branch [
      | then-not-is_flat+in_ok-push w ↦ inr (ap items w.kept-is ∙ w.in_ok-push.ensures.items)
      | else-not-is_flat w ↦ inl (c.is_flat.ensures w.if-not-is_flat.false, ap items w.kept-is)
    ] in
    without_step (RisesWithin (int (pos 0))) p (drop i all) (drop (i + 1) all) all c.loop-p.kept.items c.if-not-is_flat.kept.items (next_piece p all i c.loop-p-test.true c.p-item.is) step c.loop-p.invariant

pub returns : goal.returns
returns c = without_end (RisesWithin (int (pos 0))) _ c.args.pieces.now c.loop-p.kept.items (drop_of_length-le c.args.pieces.now c.loop-p-test.false) c.loop-p.invariant
