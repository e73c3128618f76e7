use Rattle.std.proofs.Common.{◌∙◌, subst}
use Rattle.upp_curve.specs.Unrolled.{unroll}
use Rattle.upp_normal.proofs.NormaliseForm.{ok_map}
use Rattle.curve_call.specs.Operands.{IsMadeOf}
use Rattle.plain_operators.specs.pointwise.Lattice.{made_of, rises_of}
use Rattle.plain_operators.proofs.pointwise.LatticeCalls.{operands}
use Rattle.plain_operators.proofs.pointwise.lattice.pieces_of.Goals as goal

pub unrolled-requires : goal.unrolled-requires
unrolled-requires c = let F = c.requires in record { sizes = F.sizes; limited = F.call.limited; stands = F.call.left }

pub unrolled-requires-2 : goal.unrolled-requires-2
unrolled-requires-2 c = let F = c.requires in record { sizes = F.sizes; limited = F.call.limited; stands = F.call.right }

pub window_of-requires : goal.window_of-requires
window_of-requires c =
    let r = c.args.frame.now in let F = c.requires in
    (F.sizes, operands c.args.f.now c.args.g.now r.start r.period r.end F.number F.sizes c.deref.result.now c.deref-2.result.now F.call (c.deref.ensures.value ∙ c.in_ok-left.ensures) (c.deref-2.ensures.value ∙ c.in_ok-right.ensures))

pub returns : goal.returns
returns c =
    let f = c.args.f.now in let g = c.args.g.now in let end = c.args.frame.now.end in
    let made = IsMadeOf (made_of c.args.of) (rises_of c.args.of) in
    ok_map c.window_of.result (λ v. made c.deref.result.now c.deref-2.result.now end v.items) (λ v. made (unroll f end) (unroll g end) end v.items)
    (λ v h. subst (λ ps. made ps (unroll g end) end v.items) (c.deref.ensures.value ∙ c.in_ok-left.ensures)
    (subst (λ ps. made c.deref.result.now ps end v.items) (c.deref-2.ensures.value ∙ c.in_ok-right.ensures) h)) c.window_of.ensures
