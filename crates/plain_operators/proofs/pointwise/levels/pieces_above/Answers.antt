use Rattle.std.proofs.Common.{◌∙◌, subst}
use Rattle.upp_curve.specs.Unrolled.{unroll}
use Rattle.upp_normal.proofs.NormaliseForm.{ok_map}
use Rattle.curve_call.specs.Operands.{IsMadeOf}
use Rattle.curve_call.specs.Levels.{level_curve}
use Rattle.plain_operators.specs.declared.pointwise.lattice.Lattice.TheVariants.{Excess}
use Rattle.plain_operators.specs.pointwise.Lattice.{made_of, rises_of}
use Rattle.plain_operators.proofs.pointwise.LatticeCalls.{operands, some_end}
use Rattle.plain_operators.proofs.pointwise.LatticeLevels.{level_unrolled}
use Rattle.plain_operators.proofs.pointwise.levels.pieces_above.Goals as goal

pub unrolled-requires : goal.unrolled-requires
unrolled-requires c = let F = c.requires in record { sizes = F.sizes; limited = F.call.limited; stands = F.call.left }

pub window_excess-requires : goal.window_excess-requires
window_excess-requires c =
    let r = c.args.frame.now in let F = c.requires in let g = level_curve c.args.l in
    let some = some_end c.args.f.now g r.start r.period r.end F.number F.sizes F.call in (
      F.sizes,
      operands c.args.f.now g r.start r.period r.end F.number F.sizes c.deref.result.now c.deref-2.result.now F.call (c.deref.ensures.value ∙ c.in_ok-left.ensures)
          (c.deref-2.ensures.value ∙ c.in_ok-right.ensures ∙ level_unrolled c.args.l r.end some),
    )

pub returns : goal.returns
returns c =
    let f = c.args.f.now in let g = level_curve c.args.l in let r = c.args.frame.now in let F = c.requires in
    let some = some_end f g r.start r.period r.end F.number F.sizes F.call in
    let made = IsMadeOf (made_of Excess) (rises_of Excess) in
    ok_map c.window_excess.result (λ v. made c.deref.result.now c.deref-2.result.now r.end v.items) (λ v. made (unroll f r.end) (unroll g r.end) r.end v.items)
    (λ v h. subst (λ ps. made ps (unroll g r.end) r.end v.items) (c.deref.ensures.value ∙ c.in_ok-left.ensures)
    (subst (λ ps. made c.deref.result.now ps r.end v.items) (c.deref-2.ensures.value ∙ c.in_ok-right.ensures ∙ level_unrolled c.args.l r.end some) h)) c.window_excess.ensures
