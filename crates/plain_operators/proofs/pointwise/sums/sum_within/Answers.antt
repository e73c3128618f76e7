use Rattle.std.proofs.Common.{◌≡◌, ◌∙◌, refl, sym, ap₂, subst}
use Rattle.rational.specs.Rational.{ℚ, ◌+ℚ◌}
use Rattle.rational.specs.Ratio.{SumFits}
use Rattle.upp_curve.specs.Steady.{rise_over}
use Rattle.upp_curve.specs.Unrolled.{unroll}
use Rattle.upp_limits.specs.declared.op_kind.OpKind.TheVariants.{Sum}
use Rattle.upp_normal.proofs.NormaliseForm.{ok_map}
use Rattle.curve_call.specs.Frames.{sizes_at}
use Rattle.plain_operators.proofs.pointwise.Noughts.{nought_left, nought_right}
use Rattle.plain_operators.proofs.pointwise.SumCall.{sum_call, rises_fit, sum_answer, sum_values}
use Rattle.plain_operators.proofs.pointwise.sums.sum_within.Goals as goal

pub returns-then-is_nought : goal.returns-then-is_nought
returns-then-is_nought c =
    let f = c.args.f.now in let g = c.args.g.now in
    ok_map c.copy.result (λ d. d ≡ g) _ (λ d same t low. nought_left f g d t (c.is_nought.ensures c.if-is_nought.true) same low) c.copy.ensures

pub returns-then-is_nought-2 : goal.returns-then-is_nought-2
returns-then-is_nought-2 c =
    let f = c.args.f.now in let g = c.args.g.now in
    ok_map c.copy-then-is_nought-2.result (λ d. d ≡ f) _ (λ d same t low. nought_right f g d t (c.is_nought-2.ensures c.if-is_nought-2.true) same low) c.copy-then-is_nought-2.ensures

pub rise_over-first-requires : goal.rise_over-first-requires
rise_over-first-requires c = (sum_call c.args.f.now c.args.g.now c.args.frame.now c.requires).left_rise.fits

pub rise_over-second-requires : goal.rise_over-second-requires
rise_over-second-requires c = (sum_call c.args.f.now c.args.g.now c.args.frame.now c.requires).right_rise.fits

pub sum-rise-requires : goal.sum-rise-requires
sum-rise-requires c =
    let f = c.args.f.now in let g = c.args.g.now in let r = c.args.frame.now in
    subst (λ (y : ℚ). SumFits c.rise_over-first.result y) (sym c.rise_over-second.ensures)
    (subst (λ (x : ℚ). SumFits x (rise_over g r.period)) (sym c.rise_over-first.ensures) (rises_fit f g r (sizes_at Sum f g 0 0) (sum_call f g r c.requires)))

pub framed_answer-requires : goal.framed_answer-requires
framed_answer-requires c =
    let f = c.args.f.now in let g = c.args.g.now in let r = c.args.frame.now in
    sum_answer f g r (sizes_at Sum f g 0 0) (unroll f r.end) (unroll g r.end) c.in_ok-pieces.pieces.items c.sum-rise.result (sum_call f g r c.requires)
    refl refl c.in_ok-pieces.ensures
    (c.sum-rise.ensures ∙ ap₂ (λ (x y : ℚ). x +ℚ y) c.rise_over-first.ensures c.rise_over-second.ensures)

pub returns : goal.returns
returns c =
    let f = c.args.f.now in let g = c.args.g.now in let r = c.args.frame.now in
    ok_map c.framed_answer.result _ _
    (λ a h. sum_values f g r (sizes_at Sum f g 0 0) (unroll f r.end) (unroll g r.end) c.in_ok-pieces.pieces.items c.sum-rise.result a (sum_call f g r c.requires)
    refl refl c.in_ok-pieces.ensures
    (c.sum-rise.ensures ∙ ap₂ (λ (x y : ℚ). x +ℚ y) c.rise_over-first.ensures c.rise_over-second.ensures) h)
    c.framed_answer.ensures
