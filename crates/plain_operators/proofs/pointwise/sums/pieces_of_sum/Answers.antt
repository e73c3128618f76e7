use Rattle.std.proofs.Common.{◌∙◌, subst}
use Rattle.upp_curve.specs.Unrolled.{unroll}
use Rattle.upp_limits.specs.declared.op_kind.OpKind.TheVariants.{Sum}
use Rattle.upp_normal.proofs.NormaliseForm.{ok_map}
use Rattle.curve_call.specs.Pointwise.{IsWindowSum}
use Rattle.curve_call.proofs.OperandWindows.{cuts_fit, sums_fit}
use Rattle.curve_call.specs.Frames.{sizes_at}
use Rattle.curve_call.proofs.Operands.{operand_to}
use Rattle.plain_operators.proofs.pointwise.SumCall.{sum_call, left_pieces, right_pieces}
use Rattle.plain_operators.proofs.pointwise.sums.pieces_of_sum.Goals as goal

pub unrolled-requires : goal.unrolled-requires
unrolled-requires c =
    let f = c.args.f.now in let g = c.args.g.now in let r = c.args.frame.now in
    let h = sum_call f g r c.requires in
    operand_to (sizes_at Sum f g 0 0) r.end f h.facts.limited h.left

pub unrolled-requires-2 : goal.unrolled-requires-2
unrolled-requires-2 c =
    let f = c.args.f.now in let g = c.args.g.now in let r = c.args.frame.now in
    let h = sum_call f g r c.requires in
    operand_to (sizes_at Sum f g 0 0) r.end g h.facts.limited h.right

pub window_sum-requires-clause-left : goal.window_sum-requires-clause-left
window_sum-requires-clause-left c =
    let f = c.args.f.now in let g = c.args.g.now in let r = c.args.frame.now in
    (left_pieces f g r (sizes_at Sum f g 0 0) c.deref.result.now (sum_call f g r c.requires) (c.deref.ensures.value ∙ c.in_ok-left.ensures)).starts

pub window_sum-requires-clause-right : goal.window_sum-requires-clause-right
window_sum-requires-clause-right c =
    let f = c.args.f.now in let g = c.args.g.now in let r = c.args.frame.now in
    (right_pieces f g r (sizes_at Sum f g 0 0) c.deref-2.result.now (sum_call f g r c.requires) (c.deref-2.ensures.value ∙ c.in_ok-right.ensures)).starts

pub window_sum-requires-clause-cuts : goal.window_sum-requires-clause-cuts
window_sum-requires-clause-cuts c =
    let f = c.args.f.now in let g = c.args.g.now in let r = c.args.frame.now in
    let z = sizes_at Sum f g 0 0 in
    let h = sum_call f g r c.requires in
    cuts_fit z r.end c.deref.result.now c.deref-2.result.now h.facts.limited
    (left_pieces f g r z c.deref.result.now h (c.deref.ensures.value ∙ c.in_ok-left.ensures)) (right_pieces f g r z c.deref-2.result.now h (c.deref-2.ensures.value ∙ c.in_ok-right.ensures))

pub window_sum-requires-clause-sums : goal.window_sum-requires-clause-sums
window_sum-requires-clause-sums c =
    let f = c.args.f.now in let g = c.args.g.now in let r = c.args.frame.now in
    let z = sizes_at Sum f g 0 0 in
    let h = sum_call f g r c.requires in
    sums_fit z r.end c.deref.result.now c.deref-2.result.now h.facts.limited
    (left_pieces f g r z c.deref.result.now h (c.deref.ensures.value ∙ c.in_ok-left.ensures)) (right_pieces f g r z c.deref-2.result.now h (c.deref-2.ensures.value ∙ c.in_ok-right.ensures))

pub returns : goal.returns
returns c =
    let f = c.args.f.now in let g = c.args.g.now in let end = c.args.frame.now.end in
    ok_map c.window_sum.result (λ v. IsWindowSum c.deref.result.now c.deref-2.result.now v.items) (λ v. IsWindowSum (unroll f end) (unroll g end) v.items)
    (λ v h. subst (λ ps. IsWindowSum ps (unroll g end) v.items) (c.deref.ensures.value ∙ c.in_ok-left.ensures)
    (subst (λ ps. IsWindowSum c.deref.result.now ps v.items) (c.deref-2.ensures.value ∙ c.in_ok-right.ensures) h)) c.window_sum.ensures
