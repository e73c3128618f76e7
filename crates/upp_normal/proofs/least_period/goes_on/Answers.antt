use Rattle.std.proofs.Common.{arith, sym, ◌∙◌, ◌+◌, ◌<◌, ◌≤◌, pos, true≢false, length, refl}
use Rattle.rational.specs.Rational.{int}
use Rattle.upp_curve.specs.Kinds.{piece}
use Rattle.upp_normal.proofs.NormaliseGoes.{goes_on_all, goes_on_more, moved_is}
use Rattle.upp_normal.proofs.least_period.goes_on.Goals as goal

pub returns-then-not-same_piece : goal.returns-then-not-same_piece
returns-then-not-same_piece c =
    let ps = c.args.pieces.now in
    let i = c.loop-i.i in
    let early : c.args.k ≤ i = omega (arith, c.loop-i.auto) in (
      λ e. absurd (true≢false (sym e)),
      λ G. sym c.if-not-same_piece.true ∙ c.same_piece.ensures.1 (moved_is ps c.args.k c.args.by c.args.rise i c.later-moved.result c.index-pieces-i.result c.index-pieces-i-in-loop-i.result
          early c.loop-i-test.true c.later-moved.ensures c.index-pieces-i.is c.index-pieces-i-in-loop-i.is G),
    )

pub loop-i-preserved : goal.loop-i-preserved
loop-i-preserved c =
    let ps = c.args.pieces.now in
    let i = c.loop-i.i in
    let early : c.args.k ≤ i = omega (arith, c.loop-i.auto) in
    let same = c.same_piece.ensures.0 c.if-not-same_piece.false in
    goes_on_more ps c.args.k c.args.by c.args.rise i c.later-moved.result c.index-pieces-i.result c.index-pieces-i-in-loop-i.result
    early c.loop-i-test.true c.later-moved.ensures c.index-pieces-i.is c.index-pieces-i-in-loop-i.is same c.loop-i.invariant

pub returns : goal.returns
returns c =
    let z = piece (int (pos 0)) (int (pos 0)) (int (pos 0)) (int (pos 0)) in
    let ps = c.args.pieces.now in
    let far : length ps ≤ c.loop-i.i = c.loop-i-test.false in (
      λ _. goes_on_all ps c.args.k c.args.by c.args.rise z (λ j h. let l : c.args.k + j < c.loop-i.i = omega (arith, far, h) in c.loop-i.invariant j z l),
      λ _. refl,
    )
