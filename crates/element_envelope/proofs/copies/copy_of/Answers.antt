use Rattle.element_envelope.proofs.CopyReads.{starts_fit}
use Rattle.std.proofs.Common.{◌+◌, ◌++◌, ◌∙◌, ap, drop, drop_of_length-le, subst, sym}
use Rattle.rational.specs.Rational.{◌≤ℚ◌, ◌<ℚ◌}
use Rattle.upp_curve.specs.Fitting.{LaterFits}
use Rattle.element_envelope.specs.JoinedWindows.{lead_of}
use Rattle.upp_curve.specs.Unrolled.{each_later, upto}
use Rattle.rational.proofs.Compared.{not_less_out}
use Rattle.upp_curve.proofs.affine_segment.NextPiece.{next_piece}
use Rattle.upp_normal.proofs.NormaliseRank.{each_index}
use Rattle.upp_normal.proofs.UnrollLoops.{push_ends, push_more, push_stops}
use Rattle.element_envelope.proofs.copies.copy_of.Goals as goal

pub later-requires : goal.later-requires
later-requires c =
    let a = c.args in
    let p = c.p-item.result in
    subst (LaterFits a.x a.v) (sym c.p-item.is) (each_index (LaterFits a.x a.v) a.pieces.now c.loop-p.p-index p c.loop-p-test.true c.requires.fits)

pub loop-p-preserved : goal.loop-p-preserved
loop-p-preserved c =
    let a = c.args in
    let p = c.p-item.result in
    let i = c.loop-p.p-index in
    push_more a.end a.x a.v p c.later.result _ (drop (i + 1) a.pieces.now) c.loop-p.copy.items c.push.new.self.items (c.in_ok-copy.copy.items ++ upto a.end (each_later a.x a.v a.pieces.now))
    (next_piece p a.pieces.now i c.loop-p-test.true c.p-item.is) c.later.ensures
    (subst (λ x. p.x <ℚ x) c.difference-left.ensures (c.is_less.ensures.less.0 c.if-not-is_less.false)) c.in_ok-push.ensures.items c.loop-p.invariant

pub returns : goal.returns
returns c =
    let a = c.args in
    push_ends a.end a.x a.v _ c.loop-p.copy.items (c.in_ok-copy.copy.items ++ upto a.end (each_later a.x a.v a.pieces.now))
    (drop_of_length-le a.pieces.now c.loop-p-test.false) c.loop-p.invariant
    ∙ ap (λ z. z ++ upto a.end (each_later a.x a.v a.pieces.now)) (c.in_ok-copy.ensures ∙ ap lead_of c.copy_start.ensures)

pub returns-then-not-is_less : goal.returns-then-not-is_less
returns-then-not-is_less c =
    let a = c.args in
    let p = c.p-item.result in
    let i = c.loop-p.p-index in
    push_stops a.end a.x a.v p _ (drop (i + 1) a.pieces.now) c.loop-p.copy.items (c.in_ok-copy.copy.items ++ upto a.end (each_later a.x a.v a.pieces.now))
    (next_piece p a.pieces.now i c.loop-p-test.true c.p-item.is)
    (subst (λ x. x ≤ℚ p.x) c.difference-left.ensures (not_less_out c.is_less.result p.x c.difference-left.result c.is_less.ensures.less c.if-not-is_less.true)) c.loop-p.invariant
    ∙ ap (λ z. z ++ upto a.end (each_later a.x a.v a.pieces.now)) (c.in_ok-copy.ensures ∙ ap lead_of c.copy_start.ensures)

pub copy_start-requires : goal.copy_start-requires
copy_start-requires c = starts_fit c.args.x c.args.v c.args.pieces.now c.requires.fits
