use Rattle.std.proofs.Common.{List, ℕ, ◌<◌, length, drop, subst}
use Rattle.std.proofs.lemmas.Option.{IfSome_then}
use Rattle.rational.specs.Rational.{ℚ}
use Rattle.upp_curve.specs.declared.affine_segment.line.Piece.{Piece}
use Rattle.flow_watch.specs.Repeats.{HoldsAt}
use Rattle.flow_watch.proofs.Buckets.{times_rise}
use Rattle.flow_watch.proofs.Repeated.{none_repeated}
use Rattle.flow_watch.proofs.repeats.repeated_upto.Goals as goal

pub cycle_upto-requires : goal.cycle_upto-requires
cycle_upto-requires c = times_rise c.args.arrival.now c.args.entries.now c.requires

pub returns : goal.returns
returns c =
    let t = c.in-Some.cycle in
    let f = c.args.arrival.now in
    let es = c.args.entries.now in
    IfSome_then c.cycle_upto.result c.cycle_upto.ensures
    (λ upto H. none_repeated f es t.rank t.period t.rise upto c.requires c.pieces.ensures.kept c.in-Some.ensures.tail
    (subst (λ (x : ℚ). (i : ℕ) → i < length f.pieces → HoldsAt t.rank t.period t.rise es x upto (drop i f.pieces)) c.in-Some.ensures.end
    (subst (λ (ps : List Piece). (i : ℕ) → i < length ps → HoldsAt t.rank t.period t.rise es t.end upto (drop i ps)) c.pieces.ensures.pieces H)))
