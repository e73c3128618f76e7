use Rattle.std.proofs.Common.{◌+◌, ◌∙◌, ◌∷◌, ap, sym, subst, drop, drop_of_length-le, map}
use Rattle.rational.specs.Rational.{◌≤ℚ◌}
use Rattle.upp_curve.specs.affine_segment.Pieces.{StartsAtZero}
use Rattle.upp_normal.specs.Normalising.{cut_at, past}
use Rattle.upp_curve.proofs.affine_segment.NextPiece.{next_piece}
use Rattle.upp_normal.proofs.NormaliseLoops.{past_go}
use Rattle.plain_operators.specs.pointwise.Shifting.{left_piece}
use Rattle.plain_operators.proofs.pointwise.LeftWindow.{left_more, left_skips, left_ends}
use Rattle.plain_operators.proofs.pointwise.ShiftCall.{here_fits}
use Rattle.plain_operators.proofs.pointwise.shifts.left_window.Goals as goal
use Rattle.plain_operators.proofs.pointwise.shifts.left_window.Goals.{in-Greater+in_ok-push-in-Greater, in_default}

pub piece_value-requires : goal.piece_value-requires
piece_value-requires c = λ l. here_fits c.args.x c.args.pieces.now c.piece_at-here.result c.requires.starts c.requires.fits c.piece_at-here.ensures

pub left_piece-requires : goal.left_piece-requires
left_piece-requires c = record {
  start = c.requires.zero;
  line = here_fits c.args.x c.args.pieces.now c.piece_at-here.result c.requires.starts c.requires.fits c.piece_at-here.ensures;
}

pub loop-p-preserved : goal.loop-p-preserved
loop-p-preserved c = λ first rest is.
    let p = c.p-item.result in
    let ps = c.args.pieces.now in
    let i = c.loop-p.p-index in
    let x = c.args.x in
    let todo = next_piece p ps i c.loop-p-test.true c.p-item.is in
    let all = left_piece x (cut_at first rest x) ∷ map (left_piece x) (past x ps) in
    elim c.match-cmp.branch [
      | in-Greater+in_ok-push-in-Greater w ↦
          left_more x p w.left_piece-in-Greater.result _ (drop (i + 1) ps) c.loop-p.found.items c.match-cmp.found.items all c.cmp.result
          todo c.cmp.ensures.is w.in-Greater.is w.left_piece-in-Greater.ensures (ap (λ v. v.items) w.found-is ∙ w.in_ok-push-in-Greater.ensures.items) (c.loop-p.invariant first rest is)
      | in_default w ↦
          left_skips x p _ (drop (i + 1) ps) c.loop-p.found.items c.match-cmp.found.items all c.cmp.result
          todo c.cmp.ensures.is w.in_default.not-Greater (ap (λ v. v.items) w.found-is) (c.loop-p.invariant first rest is)
    ]

pub returns : goal.returns
returns c = λ p ps e.
    let x = c.args.x in
    let pieces = c.args.pieces.now in
    let zero : StartsAtZero (p ∷ ps) = subst StartsAtZero e c.requires.starts in
    left_ends x _ c.loop-p.found.items (left_piece x (cut_at p ps x) ∷ map (left_piece x) (past x pieces)) (drop_of_length-le pieces c.loop-p-test.false) (c.loop-p.invariant p ps e)
    ∙ ap (λ zs. left_piece x (cut_at p ps x) ∷ map (left_piece x) (past x zs)) e
    ∙ ap (λ zs. left_piece x (cut_at p ps x) ∷ map (left_piece x) zs) (past_go x p ps (subst (λ a. a ≤ℚ x) (sym zero.0) c.requires.time))
