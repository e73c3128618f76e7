use Rattle.std.proofs.Common.{refl}
use Rattle.std.specs.Prelude.{◌+◌}
use Rattle.upp_curve.specs.Unrolled.{unroll}
use Rattle.upp_normal.proofs.NormaliseForm.{ok_map}
use Rattle.plain_operators.proofs.pointwise.LatticeCalls.{left_rise, right_rise, from_fits}
use Rattle.curve_conv.proofs.ConvolveAnswers.{convolved_answer, convolved_values}
use Rattle.curve_conv.proofs.operator.convolved_within.Goals as goal

pub repetition-repeats-requires-clause-first : goal.repetition-repeats-requires-clause-first
repetition-repeats-requires-clause-first c = let r = c.args.frame.now in let F = c.requires in (left_rise c.args.f.now c.args.g.now r.start r.period r.end (F.number + 1) F.sizes F.call).fits

pub repetition-repeats-requires-clause-second : goal.repetition-repeats-requires-clause-second
repetition-repeats-requires-clause-second c = let r = c.args.frame.now in let F = c.requires in (right_rise c.args.f.now c.args.g.now r.start r.period r.end (F.number + 1) F.sizes F.call).fits

pub repetition-repeats-requires-clause-fits : goal.repetition-repeats-requires-clause-fits
repetition-repeats-requires-clause-fits c = let r = c.args.frame.now in let F = c.requires in from_fits c.args.f.now c.args.g.now r.start r.period r.end (F.number + 1) F.sizes F.call

pub framed_answer-requires : goal.framed_answer-requires
framed_answer-requires c =
    convolved_answer c.args.f.now c.args.g.now c.args.frame.now (unroll c.args.f.now c.args.frame.now.end) (unroll c.args.g.now c.args.frame.now.end) c.in_ok-pieces.pieces.items c.repetition-repeats.result.0 c.repetition-repeats.result.1 c.requires
    refl refl c.in_ok-pieces.ensures c.repetition-repeats.ensures.from c.repetition-repeats.ensures.rise

pub returns : goal.returns
returns c =
    ok_map c.framed_answer.result _ _
    (λ a h.
    convolved_values c.args.f.now c.args.g.now c.args.frame.now (unroll c.args.f.now c.args.frame.now.end) (unroll c.args.g.now c.args.frame.now.end) c.in_ok-pieces.pieces.items c.repetition-repeats.result.0 c.repetition-repeats.result.1 a c.requires
    refl refl c.in_ok-pieces.ensures c.repetition-repeats.ensures.from c.repetition-repeats.ensures.rise h)
    c.framed_answer.ensures
