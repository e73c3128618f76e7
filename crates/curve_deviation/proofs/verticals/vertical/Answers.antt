use Rattle.std.proofs.Common.{◌∙◌, sym, true≢false}
use Rattle.std.proofs.lemmas.Result.{err_from_is_err_and}
use Rattle.upp_limits.specs.declared.op_kind.OpKind.TheVariants.{Vertical}
use Rattle.curve_call.proofs.Limited.{vertical_least, frame_within, refused_cause}
use Rattle.curve_deviation.proofs.AtOnce.{not_finite_deviation}
use Rattle.curve_deviation.proofs.VerticalCall.{faster_at_once, not_known, not_memory}
use Rattle.curve_deviation.proofs.verticals.vertical.Goals as goal

pub returns-then-not-is_number-clause-value : goal.returns-then-not-is_number-clause-value
returns-then-not-is_number-clause-value g c =
    not_finite_deviation c.args.f.now c.args.g.now c.is_number.ensures.kept (λ h. true≢false (sym (c.is_number.ensures.finite.1 h) ∙ c.if-not-is_number.true)) c.requires

pub returns-then-is_faster-clause-value : goal.returns-then-is_faster-clause-value
returns-then-is_faster-clause-value g c =
    faster_at_once c.args.f.now c.args.g.now c.is_number.ensures.kept c.is_faster.ensures.kept (c.is_faster.ensures.faster.0 c.if-is_faster.true)
    (c.is_number.ensures.finite.0 c.if-not-is_number.false) c.requires

pub returns-in_err-frame-clause-limits : goal.returns-in_err-frame-clause-limits
returns-in_err-frame-clause-limits g c =
    let p = err_from_is_err_and c.from_residual.result c.from_residual.ensures.1 in
    let looks = not_known c.args.f.now c.args.g.now (c.is_number.ensures.finite.0 c.if-not-is_number.false) (λ h. true≢false (sym (c.is_faster.ensures.faster.1 h) ∙ c.if-is_faster.false)) in
    rw (p.1, p.2) (refused_cause Vertical c.args.f.now c.args.g.now 0 0 _ looks (vertical_least c.args.f.now c.args.g.now) c.in_err-frame.ensures.refused)

pub returns-in_err-frame-clause-memory : goal.returns-in_err-frame-clause-memory
returns-in_err-frame-clause-memory g c =
    let p = err_from_is_err_and c.from_residual.result c.from_residual.ensures.1 in
    rw (p.1, p.2) (not_memory c.args.f.now c.args.g.now _ c.in_err-frame.ensures.refused)

pub vertical_in-requires-clause-first : goal.vertical_in-requires-clause-first
vertical_in-requires-clause-first g c = c.is_number.ensures.finite.0 c.if-not-is_number.false

pub returns-clause-limits : goal.returns-clause-limits
returns-clause-limits g c = frame_within Vertical c.args.f.now c.args.g.now 0 0 c.in_ok-frame.frame (vertical_least c.args.f.now c.args.g.now) c.in_ok-frame.ensures.frame
