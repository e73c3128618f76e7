use Rattle.std.proofs.Common.{refl}
use Rattle.upp_curve.specs.Unrolled.{unroll}
use Rattle.upp_normal.proofs.NormaliseForm.{ok_map}
use Rattle.plain_operators.proofs.pointwise.LatticeCalls.{left_rise, right_rise, rises_fit, from_fits}
use Rattle.plain_operators.proofs.pointwise.LatticeAnswers.{lattice_answer, lattice_values}
use Rattle.plain_operators.proofs.pointwise.lattice.made_within.Goals as goal

pub tail_rise-rise-requires-clause-first : goal.tail_rise-rise-requires-clause-first
tail_rise-rise-requires-clause-first c = let r = c.args.frame.now in let F = c.requires.call in (left_rise c.args.f.now c.args.g.now r.start r.period r.end F.number F.sizes F.call).fits

pub tail_rise-rise-requires-clause-second : goal.tail_rise-rise-requires-clause-second
tail_rise-rise-requires-clause-second c = let r = c.args.frame.now in let F = c.requires.call in (right_rise c.args.f.now c.args.g.now r.start r.period r.end F.number F.sizes F.call).fits

pub tail_rise-rise-requires-clause-apart : goal.tail_rise-rise-requires-clause-apart
tail_rise-rise-requires-clause-apart c = let r = c.args.frame.now in let F = c.requires.call in rises_fit c.args.f.now c.args.g.now r.start r.period r.end F.number F.sizes F.call

pub difference-from-requires : goal.difference-from-requires
difference-from-requires c = let r = c.args.frame.now in let F = c.requires.call in from_fits c.args.f.now c.args.g.now r.start r.period r.end F.number F.sizes F.call

pub framed_answer-requires : goal.framed_answer-requires
framed_answer-requires c =
    lattice_answer c.args.of c.args.f.now c.args.g.now c.args.frame.now (unroll c.args.f.now c.args.frame.now.end) (unroll c.args.g.now c.args.frame.now.end) c.in_ok-pieces.pieces.items c.difference-from.result c.tail_rise-rise.result c.requires.call
    refl refl c.in_ok-pieces.ensures c.difference-from.ensures c.tail_rise-rise.ensures

pub returns : goal.returns
returns c =
    ok_map c.framed_answer.result _ _
    (λ a h.
    lattice_values c.args.of c.args.f.now c.args.g.now c.args.frame.now (unroll c.args.f.now c.args.frame.now.end) (unroll c.args.g.now c.args.frame.now.end) c.in_ok-pieces.pieces.items c.difference-from.result c.tail_rise-rise.result a c.requires.call c.requires.finite
    refl refl c.in_ok-pieces.ensures c.difference-from.ensures c.tail_rise-rise.ensures h)
    c.framed_answer.ensures
