use Rattle.std.specs.Prelude.{Vec}
use Rattle.std.proofs.Common.{◌+◌, ◌∙◌, ap, inl, inr, drop, drop_of_length-le, Global}
use Rattle.upp_curve.specs.declared.affine_segment.line.Piece.{Piece}
use Rattle.upp_curve.proofs.affine_segment.NextPiece.{next_piece}
use Rattle.element_envelope.proofs.StartTests.{piece_there, line_there, IsKeptOrBent, thinned_step, thinned_end, thinned_none}
use Rattle.element_envelope.proofs.starts.turning_starts.Goals as goal
use Rattle.element_envelope.proofs.starts.turning_starts.Goals.{then-not-bends_down+in_ok-push, else-not-bends_down}

pub loop-p-init : goal.loop-p-init
loop-p-init c = (thinned_none c.args.pieces.now c.in_ok-kept.kept.items c.in_ok-kept.ensures.items, λ z end h. tt)

pub bends_down-requires : goal.bends_down-requires
bends_down-requires c =
    let R = c.requires.1 in
    let p = c.p-item.result in
    let P = piece_there R.sizes c.requires.0 c.args.pieces.now c.loop-p.p-index p c.loop-p-test.true c.p-item.is R.each in
    record {
      left = line_there R.sizes c.requires.0 c.loop-p.before p R.limited P (c.loop-p.invariant.1 R.sizes c.requires.0 R.each);
      right = line_there R.sizes c.requires.0 p.line p R.limited P P.line;
    }

pub loop-p-preserved : goal.loop-p-preserved
loop-p-preserved c =
    let p = c.p-item.result in
    let i = c.loop-p.p-index in
    let all = c.args.pieces.now in
    let items = λ (v : Vec Piece Global). v.items in
    let step : IsKeptOrBent c.loop-p.before p c.loop-p.kept.items c.if-not-bends_down.kept.items =
    elim c.if-not-bends_down.branch [
      | then-not-bends_down+in_ok-push w ↦ inr (ap items w.kept-is ∙ w.in_ok-push.ensures.items)
      | else-not-bends_down w ↦ inl (c.bends_down.ensures w.if-not-bends_down.false, ap items w.kept-is)
    ] in (
      thinned_step c.loop-p.before p (drop i all) (drop (i + 1) all) all c.loop-p.kept.items c.if-not-bends_down.kept.items (next_piece p all i c.loop-p-test.true c.p-item.is) step
          c.loop-p.invariant.0,
      λ z end h. (piece_there z end all i p c.loop-p-test.true c.p-item.is h).line,
    )

pub returns : goal.returns
returns c = thinned_end c.loop-p.before _ c.args.pieces.now c.loop-p.kept.items (drop_of_length-le c.args.pieces.now c.loop-p-test.false) c.loop-p.invariant.0
