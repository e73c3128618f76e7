use Rattle.std.proofs.Common.{refl}
use Rattle.std.specs.Prelude.{◌+◌}
use Rattle.upp_curve.specs.Unrolled.{unroll}
use Rattle.upp_normal.proofs.NormaliseForm.{ok_map}
use Rattle.plain_operators.proofs.pointwise.LatticeCalls.{from_fits}
use Rattle.curve_conv.proofs.ConvolveAnswers.{convolved_answer, convolved_values}
use Rattle.subadd_closure.proofs.star_convolution.curve_of.Goals as goal

pub difference-from-requires : goal.difference-from-requires
difference-from-requires c = let r = c.args.frame.now in let F = c.requires.frame in from_fits c.args.f.now c.args.g.now r.start r.period r.end (F.number + 1) F.sizes F.call

pub framed_answer-requires : goal.framed_answer-requires
framed_answer-requires c =
    let end = c.args.frame.now.end in
    convolved_answer c.args.f.now c.args.g.now c.args.frame.now (unroll c.args.f.now end) (unroll c.args.g.now end) c.args.pieces.items c.difference-from.result c.slower_rise-rise.result c.requires.frame
    refl refl c.requires.window c.difference-from.ensures c.slower_rise-rise.ensures

pub returns : goal.returns
returns c =
    let end = c.args.frame.now.end in
    ok_map c.framed_answer.result _ _
    (λ a h.
    convolved_values c.args.f.now c.args.g.now c.args.frame.now (unroll c.args.f.now end) (unroll c.args.g.now end) c.args.pieces.items c.difference-from.result c.slower_rise-rise.result a c.requires.frame
    refl refl c.requires.window c.difference-from.ensures c.slower_rise-rise.ensures h)
    c.framed_answer.ensures
