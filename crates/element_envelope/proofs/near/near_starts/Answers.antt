use Rattle.std.specs.Prelude.{Vec}
use Rattle.std.proofs.Common.{◌+◌, ◌∙◌, ap, inl, inr, drop, drop_of_length-le, Global}
use Rattle.upp_curve.specs.declared.affine_segment.line.Piece.{Piece}
use Rattle.upp_curve.proofs.affine_segment.NextPiece.{next_piece}
use Rattle.element_envelope.specs.NearStarts.{IsFar}
use Rattle.element_envelope.proofs.NearCopies.{IsPutOr, without_step, without_end, without_none}
use Rattle.element_envelope.proofs.near.near_starts.Goals as goal
use Rattle.element_envelope.proofs.near.near_starts.Goals.{then-not-is_far+in_ok-push, else-not-is_far}

pub loop-q-init : goal.loop-q-init
loop-q-init c = without_none (IsFar c.args.pace.now.slope c.args.pace.now.more c.args.first.now) c.args.starts.now c.in_ok-kept.kept.items c.in_ok-kept.ensures.items

pub loop-q-preserved : goal.loop-q-preserved
loop-q-preserved c =
    let q = c.q-item.result in
    let i = c.loop-q.q-index in
    let all = c.args.starts.now in
    let items = λ (v : Vec Piece Global). v.items in
    let step : IsPutOr (IsFar c.args.pace.now.slope c.args.pace.now.more c.args.first.now) q c.loop-q.kept.items c.if-not-is_far.kept.items =
    elim c.if-not-is_far.branch [
      | then-not-is_far+in_ok-push w ↦ inr (ap items w.kept-is ∙ w.in_ok-push.ensures.items)
      | else-not-is_far w ↦ inl (c.is_far.ensures w.if-not-is_far.false, ap items w.kept-is)
    ] in
    without_step (IsFar c.args.pace.now.slope c.args.pace.now.more c.args.first.now) q (drop i all) (drop (i + 1) all) all c.loop-q.kept.items c.if-not-is_far.kept.items (next_piece q all i c.loop-q-test.true c.q-item.is) step c.loop-q.invariant

pub returns : goal.returns
returns c = without_end (IsFar c.args.pace.now.slope c.args.pace.now.more c.args.first.now) _ c.args.starts.now c.loop-q.kept.items (drop_of_length-le c.args.starts.now c.loop-q-test.false) c.loop-q.invariant
