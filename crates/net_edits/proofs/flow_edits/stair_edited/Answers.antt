use Rattle.std.proofs.Common.{◌≡◌, Ok, Err, pos, sym, ap, ◌∙◌, subst, Option}
use Rattle.std.proofs.lemmas.Result.{err_from_is_err_and}
use Rattle.rational.specs.Rational.{int}
use Rattle.upp_curve.specs.Curve.{SpecCurve}
use Rattle.upp_curve.specs.Kinds.{stair}
use Rattle.net_model.specs.Accepted.{IsAccepted}
use Rattle.net_model.specs.Networks.{NetFlow}
use Rattle.net_model.specs.Views.{flow_of}
use Rattle.net_edits.specs.declared.fault.EditFault.TheVariants.{NoMemory}
use Rattle.net_edits.specs.Changed.{put_flow, with_arrival}
use Rattle.net_edits.specs.Edited.{Edited, as_arrival, stair_edited}
use Rattle.net_edits.specs.Replies.{IsChange}
use Rattle.net_edits.proofs.Signs.{nonneg_of, positive_of}
use Rattle.net_edits.proofs.Steps.{change_reply, over_reply}
use Rattle.net_edits.proofs.OverNone.{within_none, memory_within, unknown_none}
use Rattle.net_edits.proofs.FlowEdits.{stair_stands, stair_edit}
use Rattle.net_edits.proofs.flow_edits.stair_edited.Goals as goal
use Rattle.net_edits.proofs.flow_edits.stair_edited.Goals.{After-flow_of_number-old}

pub stair_at-requires-clause-jitter : goal.stair_at-requires-clause-jitter
stair_at-requires-clause-jitter c = nonneg_of c.args.jitter (sym c.is_negative.ensures ∙ c.if-is_negative.false)

pub returns-in_err-number-clause-memory : goal.returns-in_err-number-clause-memory
returns-in_err-number-clause-memory c = λ told.
    unknown_none _ _ c.args.name.now c.in_err-number.ensures.unknown

-- the network, where the stair is over no limit
abbrev stair_made : After-flow_of_number-old → SpecCurve
stair_made c = stair (int (pos (flow_of c.flow_of_number-old.result.now).packet)) c.args.period c.args.jitter

abbrev after : After-flow_of_number-old → Edited
after c = record {
  net = put_flow c.args.net.now c.in_ok-number.number (with_arrival (stair_made c) (flow_of c.flow_of_number-old.result.now));
  made = as_arrival c.in_ok-number.number (stair_made c);
}

is_edit : (c : After-flow_of_number-old) → stair_edited c.args.net.now c.args.name.now c.args.period c.args.jitter ≡ Ok (after c)
is_edit c =
    let at = c.flow_of_number-old in
    stair_edit c.args.net.now c.args.name.now c.in_ok-number.number c.args.period c.args.jitter (flow_of at.result.now) at.ensures.accepted
    c.in_ok-number.ensures.number at.ensures.flow at.ensures.kept (sym c.is_positive.ensures ∙ c.if-not-is_positive.false)
    (sym c.is_negative.ensures ∙ c.if-is_negative.false)

pub returns-in_err-arrival-clause-reply : goal.returns-in_err-arrival-clause-reply
returns-in_err-arrival-clause-reply c =
    let p = err_from_is_err_and c.from_residual-in_err-arrival.result c.from_residual-in_err-arrival.ensures.1 in
    rw (p.1, p.2)
    (over_reply (IsChange (stair_edited c.args.net.now c.args.name.now c.args.period c.args.jitter) c.args.net.now) _ _ c.in_err-arrival.field-0.0 (is_edit (goal.at.returns-in_err-arrival-clause-reply c).After-flow_of_number-old)
    c.in_err-arrival.ensures)

pub returns-in_err-arrival-clause-memory : goal.returns-in_err-arrival-clause-memory
returns-in_err-arrival-clause-memory c = λ told.
    let p = err_from_is_err_and c.from_residual-in_err-arrival.result c.from_residual-in_err-arrival.ensures.1 in
    let here = (goal.at.returns-in_err-arrival-clause-memory c).After-flow_of_number-old in
    let same : Err c.in_err-arrival.field-0.0 ≡ Err NoMemory = ap Err (sym p.2) ∙ sym p.1 ∙ told in
    within_none _ _ (is_edit here) (memory_within (after here).made c.in_err-arrival.field-0.0 c.in_err-arrival.ensures cc)

pub returns-in_err-flow-clause-memory : goal.returns-in_err-flow-clause-memory
returns-in_err-flow-clause-memory c = λ told.
    within_none _ _ (is_edit (goal.at.returns-in_err-flow-clause-memory c).After-flow_of_number-old) c.in_ok-arrival.ensures.1

-- ---- the flow with the stair
pub returns-clause-reply : goal.returns-clause-reply
returns-clause-reply c =
    let net = c.args.net.now in
    let i = c.in_ok-number.number in
    let at = c.flow_of_number-old in
    let old = flow_of at.result.now in
    let same = c.in_ok-flow.ensures ∙ ap (λ (x : SpecCurve). with_arrival x old) c.in_ok-arrival.ensures.0 in
    change_reply _ _ net _ (is_edit (goal.at.returns-clause-reply c).After-flow_of_number-old) (ap (put_flow net i) same)
    c.in_ok-arrival.ensures.1
    (subst (λ (p : Option NetFlow). IsAccepted (put_flow net i p)) (sym same)
    (stair_stands net i old at.ensures.accepted at.ensures.flow at.ensures.kept c.args.period c.args.jitter
    (positive_of c.args.period (sym c.is_positive.ensures ∙ c.if-not-is_positive.false))
    (nonneg_of c.args.jitter (sym c.is_negative.ensures ∙ c.if-is_negative.false))))
