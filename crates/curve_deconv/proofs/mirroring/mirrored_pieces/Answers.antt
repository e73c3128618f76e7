use Rattle.std.proofs.Common.{◌≡◌, ◌≤◌, ◌<◌, ◌+◌, ◌-◌, ◌∷◌, length, drop, arith, refl, sym, subst}
use Rattle.std.proofs.lemmas.List.{drop_all}
use Rattle.rational.specs.Rational.{neg_ℚ}
use Rattle.rational.specs.Ratio.{SumFits}
use Rattle.upp_curve.proofs.affine_segment.NextPiece.{next_piece}
use Rattle.upp_normal.proofs.NormaliseRank.{each_index}
use Rattle.curve_deconv.specs.Mirrored.{IsMirrorable}
use Rattle.curve_deconv.proofs.MirroredPieces.{MirrorLoop, fits_from, mirror_next, mirror_last}
use Rattle.curve_deconv.proofs.mirroring.mirrored_pieces.Goals as goal

pub loop-i-init : goal.loop-i-init
loop-i-init c =
    let ps = c.args.pieces.now in
    let all : length ps ≤ length ps = omega arith in
    subst (λ ys. MirrorLoop c.args.reach c.args.at ys c.new-made.result.items c.args.reach c.args.at) (sym (drop_all (length ps) ps all)) record { list = c.new-made.ensures.items; ends = refl; value = refl }

pub mirrored_piece-requires-clause-time : goal.mirrored_piece-requires-clause-time
mirrored_piece-requires-clause-time c =
    let reach = c.args.reach in
    subst (λ x. SumFits reach (neg_ℚ x)) (sym c.loop-i.invariant.ends) (fits_from reach c.args.pieces.now c.loop-i.i c.requires)

pub mirrored_piece-requires-clause-line : goal.mirrored_piece-requires-clause-line
mirrored_piece-requires-clause-line c =
    let ps = c.args.pieces.now in let p = c.index-pieces-i.result in let i = c.loop-i.i in
    let some = c.loop-i-test.true in let by = c.loop-i.auto.i in
    let early : i - 1 < length ps = omega (arith, some, by) in
    (subst (IsMirrorable c.args.reach) (sym c.index-pieces-i.is) (each_index (IsMirrorable c.args.reach) ps (i - 1) p early c.requires.each)).line

pub loop-i-preserved : goal.loop-i-preserved
loop-i-preserved c =
    let ps = c.args.pieces.now in let p = c.index-pieces-i.result in let i = c.loop-i.i in
    let some = c.loop-i-test.true in let by = c.loop-i.auto.i in
    let early : i - 1 < length ps = omega (arith, some, by) in
    let same : i - 1 + 1 ≡ i = omega (arith, some) in
    mirror_next c.args.reach c.loop-i.until c.args.at c.loop-i.ended p c.mirrored_piece.result (drop i ps) (drop (i - 1) ps) c.loop-i.made.items c.push.new.self.items
    (subst (λ k. drop (i - 1) ps ≡ p ∷ drop k ps) same (next_piece p ps (i - 1) early c.index-pieces-i.is)) c.loop-i.invariant c.mirrored_piece.ensures c.in_ok-push.ensures.items

pub mirrored_piece-requires-2-clause-time : goal.mirrored_piece-requires-2-clause-time
mirrored_piece-requires-2-clause-time c =
    let reach = c.args.reach in
    subst (λ x. SumFits reach (neg_ℚ x)) (sym c.loop-i.invariant.ends) (fits_from reach c.args.pieces.now c.loop-i.i c.requires)

pub returns : goal.returns
returns c =
    let none : c.loop-i.i ≡ 0 = omega arith in
    mirror_last c.args.reach c.loop-i.until c.args.at c.loop-i.ended c.mirrored_piece-2.result c.args.pieces.now c.loop-i.made.items c.push-2.new.self.items
    (subst (λ n. MirrorLoop c.args.reach c.args.at (drop n c.args.pieces.now) c.loop-i.made.items c.loop-i.until c.loop-i.ended) none c.loop-i.invariant) c.mirrored_piece-2.ensures c.in_ok-push-2.ensures.items
