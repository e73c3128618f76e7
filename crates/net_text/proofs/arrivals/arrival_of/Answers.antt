use Rattle.std.specs.String.{string_bytes}
use Rattle.std.proofs.Common.{◌-◌, Err, refl, sym, ap}
use Rattle.std.proofs.lemmas.Result.{err_from_is_err_and}
use Rattle.outcomes.proofs.Spending.{spends_nothing, spends_stopped, spends_by}
use Rattle.net_draft.specs.CurveTexts.{text_of}
use Rattle.net_text.specs.Becoming.{IsCurveOf}
use Rattle.net_text.proofs.FoldSteps.{fold_is, open_is}
use Rattle.net_text.proofs.Wanting.{closure_wants, open_wants}
use Rattle.net_text.proofs.ClosedArrivals.{made_is, arrival_stands, closed_ok, closed_err, limit_is_told}
use Rattle.net_text.proofs.arrivals.arrival_of.Goals as goal

pub closure_of-requires-clause-finite : goal.closure_of-requires-clause-finite
closure_of-requires-clause-finite g c = (arrival_stands c.args.flow.now.packet c.args.flow.now.arrival c.in-Ok.curve c.requires c.in-Ok.is).finite

pub closure_of-requires-clause-nonneg : goal.closure_of-requires-clause-nonneg
closure_of-requires-clause-nonneg g c = (arrival_stands c.args.flow.now.packet c.args.flow.now.arrival c.in-Ok.curve c.requires c.in-Ok.is).nonnegative

pub returns-then-flow-clause-becomes : goal.returns-then-flow-clause-becomes
returns-then-flow-clause-becomes g c =
    let f = c.args.flow.now in
    let is : IsCurveOf (text_of f.arrival.text) c.in-Ok.curve = record { curve = c.closure_of.ensures.own; made = made_is f.packet f.arrival c.in-Ok.curve c.requires c.in-Ok.is } in
    closed_ok f.closes (text_of f.arrival.text) c.in-Ok.curve c.closure_of.result c.if-flow.true is c.closure_of.ensures.closed

pub returns-then-flow-clause-over : goal.returns-then-flow-clause-over
returns-then-flow-clause-over g c =
    let f = c.args.flow.now in
    let is : IsCurveOf (text_of f.arrival.text) c.in-Ok.curve = record { curve = c.closure_of.ensures.own; made = made_is f.packet f.arrival c.in-Ok.curve c.requires c.in-Ok.is } in
    closed_err f.closes (text_of f.arrival.text) c.in-Ok.curve (string_bytes c.args.place) c.closure_of.result c.if-flow.true is c.closure_of.ensures.over

-- ---- what is counted, and want of memory
pub returns-then-flow-clause-spends : goal.returns-then-flow-clause-spends
returns-then-flow-clause-spends g c =
    let f = c.args.flow.now in
    let text = text_of f.arrival.text in
    let curve = c.in-Ok.curve in
    let is : IsCurveOf text curve = record { curve = c.closure_of.ensures.own; made = made_is f.packet f.arrival curve c.requires c.in-Ok.is } in
    spends_by c.closure_of.ensures.spends (λ k h. sym (fold_is f.closes text curve k c.if-flow.true is h))
    (closure_wants f.closes text curve (c.closure_of.new.steps - c.args.steps.now) c.if-flow.true is)

pub returns-in_err-copy_of-in-Ok-clause-spends : goal.returns-in_err-copy_of-in-Ok-clause-spends
returns-in_err-copy_of-in-Ok-clause-spends g c =
    let f = c.args.flow.now in
    let p = err_from_is_err_and c.from_residual.result c.from_residual.ensures.1 in
    spends_stopped c.from_residual.result p.0 p.1
    (λ lack n none. open_wants f.closes (text_of f.arrival.text) c.in-Ok.curve n c.if-flow.false
    (made_is f.packet f.arrival c.in-Ok.curve c.requires c.in-Ok.is) none)

pub returns-in_ok-copy_of-in-Ok-clause-spends : goal.returns-in_ok-copy_of-in-Ok-clause-spends
returns-in_ok-copy_of-in-Ok-clause-spends g c =
    let f = c.args.flow.now in
    spends_nothing (λ n work. open_is f.closes (text_of f.arrival.text) n c.if-flow.false work)

pub returns-in-Err-clause-spends : goal.returns-in-Err-clause-spends
returns-in-Err-clause-spends g c =
    spends_stopped _ c.limit_fault.result refl
    (λ lack. absurd (limit_is_told c.in-Err.limit (string_bytes c.args.place) c.limit_fault.result c.limit_fault.ensures (ap Err lack)))
