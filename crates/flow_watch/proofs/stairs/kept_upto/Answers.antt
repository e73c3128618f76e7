use Rattle.std.proofs.Common.{List, pos, refl, sym, subst}
use Rattle.std.proofs.lemmas.Option.{IfSome_then}
use Rattle.rational.specs.Rational.{ℚ, int, ◌≤ℚ◌}
use Rattle.rational.proofs.Laws.{le_refl}
use Rattle.upp_curve.specs.declared.affine_segment.line.Piece.{Piece}
use Rattle.flow_watch.specs.Stairs.{IsStair}
use Rattle.flow_watch.proofs.StairPaces.{none_past_stair, always_climbed}
use Rattle.flow_watch.proofs.stairs.kept_upto.Goals as goal

pub seen_upto-requires-clause-some : goal.seen_upto-requires-clause-some
seen_upto-requires-clause-some c = subst (λ (x : ℚ). int (pos 0) ≤ℚ x) (sym c.zero-spare.ensures) (le_refl (int (pos 0)))

pub returns : goal.returns
returns c =
    let t = c.in-Some.cycle in
    let s = c.in-Some-stair_of.stair in
    let f = c.args.arrival.now in
    let yes = c.if-not-is_stair.ensures refl in
    let S = subst (λ (x : ℚ). IsStair s.height s.slack s.rate x f.pieces) c.in-Some.ensures.end
    (subst (λ (ps : List Piece). IsStair s.height s.slack s.rate t.end ps) c.pieces-pieces.ensures.pieces yes) in
    IfSome_then c.seen_upto.result c.seen_upto.ensures
    (λ upto K. none_past_stair f c.args.entries.now s.height c.zero-spare.result s.slack s.rate upto c.zero-spare.ensures c.requires S.some S.rises
    (λ d low. always_climbed f t.rank t.period t.rise s.height s.slack s.rate d c.pieces-pieces.ensures.kept c.in-Some.ensures.tail c.in-Some-stair_of.ensures S low) K)
