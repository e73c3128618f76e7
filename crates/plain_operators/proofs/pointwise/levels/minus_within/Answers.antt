use Rattle.std.proofs.Common.{refl}
use Rattle.upp_curve.specs.Unrolled.{unroll}
use Rattle.upp_normal.proofs.NormaliseForm.{ok_map}
use Rattle.curve_call.specs.Levels.{level_curve}
use Rattle.plain_operators.specs.declared.pointwise.lattice.Lattice.TheVariants.{Excess}
use Rattle.plain_operators.proofs.pointwise.LatticeCalls.{left_rise, from_fits}
use Rattle.plain_operators.proofs.pointwise.LatticeAnswers.{lattice_answer, lattice_values}
use Rattle.plain_operators.proofs.pointwise.LatticeLevels.{minus_rise, minus_values}
use Rattle.plain_operators.proofs.pointwise.levels.minus_within.Goals as goal

pub gain-rise-requires : goal.gain-rise-requires
gain-rise-requires c = let r = c.args.frame.now in let F = c.requires.call in (left_rise c.args.f.now (level_curve c.args.l) r.start r.period r.end F.number F.sizes F.call).fits

pub difference-from-requires : goal.difference-from-requires
difference-from-requires c = let r = c.args.frame.now in let F = c.requires.call in from_fits c.args.f.now (level_curve c.args.l) r.start r.period r.end F.number F.sizes F.call

pub framed_answer-requires : goal.framed_answer-requires
framed_answer-requires c =
    let r = c.args.frame.now in let F = c.requires.call in let g = level_curve c.args.l in
    lattice_answer Excess c.args.f.now g r (unroll c.args.f.now r.end) (unroll g r.end) c.in_ok-pieces.pieces.items c.difference-from.result c.gain-rise.result F
    refl refl c.in_ok-pieces.ensures c.difference-from.ensures
    (minus_rise c.args.l c.args.f.now _ r.period c.gain-rise.result c.is_gaining.ensures.0 c.is_gaining.ensures.1 c.gain-rise.ensures)

pub returns : goal.returns
returns c =
    let r = c.args.frame.now in let F = c.requires.call in let g = level_curve c.args.l in
    ok_map c.framed_answer.result _ _
    (λ a h.
    minus_values c.args.l c.args.f.now a (lattice_values Excess c.args.f.now g r (unroll c.args.f.now r.end) (unroll g r.end) c.in_ok-pieces.pieces.items c.difference-from.result c.gain-rise.result a F c.requires.finite
    refl refl c.in_ok-pieces.ensures c.difference-from.ensures
    (minus_rise c.args.l c.args.f.now _ r.period c.gain-rise.result c.is_gaining.ensures.0 c.is_gaining.ensures.1 c.gain-rise.ensures) h))
    c.framed_answer.ensures
