use Rattle.std.proofs.Common.{◌∙◌, ap, sym, subst}
use Rattle.upp_curve.specs.Curve.{SpecCurve}
use Rattle.upp_limits.specs.Periods.{period_of, period_or}
use Rattle.upp_limits.specs.declared.op_kind.OpKind.TheVariants.{Deconvolve}
use Rattle.upp_normal.proofs.NormaliseForm.{ok_map}
use Rattle.curve_call.specs.Rises.{CurveRiseFits}
use Rattle.curve_call.specs.Frames.{sizes_at}
use Rattle.curve_call.proofs.Operands.{operand_to}
use Rattle.curve_deconv.proofs.DeconvolveCall.{deconvolve_call, begin_fits, past_fits, reach_fits, reach_named, windows_by, deconvolve_answer_by, deconvolve_values_by}
use Rattle.curve_deconv.proofs.operator.deconvolved_within.Goals as goal

pub unrolled-requires : goal.unrolled-requires
unrolled-requires c =
    let f = c.args.f.now in let g = c.args.g.now in let r = c.args.frame.now in
    let h = deconvolve_call f g r c.requires.frame in
    operand_to (sizes_at Deconvolve f g 0 0) r.end f h.limited h.left

pub unrolled-requires-2 : goal.unrolled-requires-2
unrolled-requires-2 c =
    let f = c.args.f.now in let g = c.args.g.now in let r = c.args.frame.now in
    let h = deconvolve_call f g r c.requires.frame in
    operand_to (sizes_at Deconvolve f g 0 0) r.end g h.limited h.right

pub begin-from-requires : goal.begin-from-requires
begin-from-requires c =
    let f = c.args.f.now in let g = c.args.g.now in let r = c.args.frame.now in
    begin_fits f g r (sizes_at Deconvolve f g 0 0) (deconvolve_call f g r c.requires.frame)

pub difference-past-requires : goal.difference-past-requires
difference-past-requires c =
    let f = c.args.f.now in let g = c.args.g.now in let r = c.args.frame.now in
    past_fits f g r (sizes_at Deconvolve f g 0 0) c.begin-from.result (deconvolve_call f g r c.requires.frame) c.begin-from.ensures

pub difference-reach-requires : goal.difference-reach-requires
difference-reach-requires c =
    let f = c.args.f.now in let g = c.args.g.now in let r = c.args.frame.now in
    reach_fits f g r (sizes_at Deconvolve f g 0 0) c.begin-from.result c.difference-past.result c.period_or-period.result (deconvolve_call f g r c.requires.frame) c.begin-from.ensures c.difference-past.ensures
    (c.period_or-period.ensures ∙ ap (λ d. period_or d (period_of f.tail)) (deconvolve_call f g r c.requires.frame).common_is)

pub window_deconvolution-requires : goal.window_deconvolution-requires
window_deconvolution-requires c =
    let f = c.args.f.now in let g = c.args.g.now in let r = c.args.frame.now in
    let h = deconvolve_call f g r c.requires.frame in
    let period = c.period_or-period.ensures ∙ ap (λ d. period_or d (period_of f.tail)) h.common_is in
    windows_by f g r (sizes_at Deconvolve f g 0 0) c.deref.result.now c.deref-2.result.now c.difference-reach.result h c.requires.finite (c.deref.ensures.value ∙ c.in_ok-left.ensures)
    (c.deref-2.ensures.value ∙ c.in_ok-right.ensures)
    (reach_named f g r c.begin-from.result c.difference-past.result c.period_or-period.result c.difference-reach.result c.begin-from.ensures c.difference-past.ensures period c.difference-reach.ensures)

pub rise_over-rise-requires : goal.rise_over-rise-requires
rise_over-rise-requires c =
    let f = c.args.f.now in let g = c.args.g.now in let r = c.args.frame.now in
    let h = deconvolve_call f g r c.requires.frame in
    let period = c.period_or-period.ensures ∙ ap (λ d. period_or d (period_of f.tail)) h.common_is in
    subst (CurveRiseFits f) (sym period) h.rise.fits

pub answer-requires : goal.answer-requires
answer-requires c =
    let f = c.args.f.now in let g = c.args.g.now in let r = c.args.frame.now in
    let h = deconvolve_call f g r c.requires.frame in
    let period = c.period_or-period.ensures ∙ ap (λ d. period_or d (period_of f.tail)) h.common_is in
    let reach = reach_named f g r c.begin-from.result c.difference-past.result c.period_or-period.result c.difference-reach.result c.begin-from.ensures c.difference-past.ensures period c.difference-reach.ensures in
    deconvolve_answer_by f g r (sizes_at Deconvolve f g 0 0) c.deref.result.now c.deref-2.result.now c.in_ok-pieces.pieces.items c.begin-from.result c.period_or-period.result c.difference-reach.result
    c.rise_over-rise.result h c.requires.finite (c.deref.ensures.value ∙ c.in_ok-left.ensures) (c.deref-2.ensures.value ∙ c.in_ok-right.ensures) c.begin-from.ensures period reach c.rise_over-rise.ensures
    c.in_ok-pieces.ensures

pub returns : goal.returns
returns c =
    let f = c.args.f.now in let g = c.args.g.now in let r = c.args.frame.now in
    let h = deconvolve_call f g r c.requires.frame in
    let period = c.period_or-period.ensures ∙ ap (λ d. period_or d (period_of f.tail)) h.common_is in
    let reach = reach_named f g r c.begin-from.result c.difference-past.result c.period_or-period.result c.difference-reach.result c.begin-from.ensures c.difference-past.ensures period c.difference-reach.ensures in
    let values = λ (a : SpecCurve). deconvolve_values_by f g r (sizes_at Deconvolve f g 0 0) c.deref.result.now c.deref-2.result.now c.in_ok-pieces.pieces.items c.begin-from.result c.period_or-period.result
    c.difference-reach.result c.rise_over-rise.result a h c.requires.finite c.requires.slow (c.deref.ensures.value ∙ c.in_ok-left.ensures) (c.deref-2.ensures.value ∙ c.in_ok-right.ensures)
    c.begin-from.ensures period reach c.rise_over-rise.ensures c.in_ok-pieces.ensures in
    record {
      value = ok_map c.answer.result _ _ (λ a k t low. (values a k t low).deconvolves) c.answer.ensures;
      finite = λ finite. ok_map c.answer.result _ _ (λ a k t low. (values a k t low).number finite) c.answer.ensures;
    }
