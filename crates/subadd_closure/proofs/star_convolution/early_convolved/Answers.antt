use Rattle.std.proofs.Common.{◌∙◌}
use Rattle.upp_normal.proofs.NormaliseForm.{ok_map}
use Rattle.subadd_closure.proofs.OrderedWindows.{early_answer, early_values, early_windows, first_to, second_to}
use Rattle.subadd_closure.proofs.star_convolution.early_convolved.Goals as goal

pub unrolled-requires : goal.unrolled-requires
unrolled-requires c =
    let F = c.requires.frame in
    first_to c.args.f.now c.args.g.now c.args.frame.now F c.args.n.now (c.requires.repeats F)

pub unrolled-requires-2 : goal.unrolled-requires-2
unrolled-requires-2 c =
    let F = c.requires.frame in
    second_to c.args.f.now c.args.g.now c.args.frame.now F c.args.n.now (c.requires.repeats F)

pub window_between-requires-clause-windows : goal.window_between-requires-clause-windows
window_between-requires-clause-windows c =
    let F = c.requires.frame in
    early_windows c.args.f.now c.args.g.now c.args.frame.now F c.args.n.now (c.requires.repeats F) c.deref.result.now c.deref-2.result.now
    (c.deref.ensures.value ∙ c.in_ok-left.ensures) (c.deref-2.ensures.value ∙ c.in_ok-right.ensures)

pub answer-requires : goal.answer-requires
answer-requires c =
    let F = c.requires.frame in
    early_answer c.args.f.now c.args.g.now c.args.frame.now F c.args.n.now (c.requires.repeats F) c.deref.result.now c.deref-2.result.now
    (c.deref.ensures.value ∙ c.in_ok-left.ensures) (c.deref-2.ensures.value ∙ c.in_ok-right.ensures) c.in_ok-pieces.pieces.items c.in_ok-pieces.ensures

pub returns : goal.returns
returns c =
    let F = c.requires.frame in
    ok_map c.answer.result _ _
    (λ a h.
    early_values c.args.f.now c.args.g.now c.args.frame.now F c.args.n.now (c.requires.repeats F) c.deref.result.now c.deref-2.result.now
    (c.deref.ensures.value ∙ c.in_ok-left.ensures) (c.deref-2.ensures.value ∙ c.in_ok-right.ensures) c.in_ok-pieces.pieces.items a c.in_ok-pieces.ensures h)
    c.answer.ensures
