use Rattle.std.proofs.Common.{List, ℕ, Ok, sym, ap}
use Rattle.net_draft.specs.CurveTexts.{text_of}
use Rattle.net_draft.specs.Faults.{Read}
use Rattle.net_draft.specs.Texts.{FlowText}
use Rattle.net_draft.specs.Tables.{flow_with}
use Rattle.net_draft.specs.declared.fault.DraftFault.TheVariants as answers
use Rattle.net_draft.proofs.Chain.{handed_on, fails_here, fails_after, read_on, no_value}
use Rattle.net_draft.proofs.flows.flow_of.Goals as goal

pub returns-in_err-table-clause-value : goal.returns-in_err-table-clause-value
unfolding flow_with
returns-in_err-table-clause-value c =
    let e = c.in_err-table.field-0.0 in
    handed_on _ _ _ _ c.from_residual.ensures.1 (fails_here _ _ e c.in_err-table.ensures)

pub returns-in_err-table-clause-fresh : goal.returns-in_err-table-clause-fresh
returns-in_err-table-clause-fresh c = no_value c.from_residual.result _ _ c.from_residual.ensures.1

pub returns-in_err-table-clause-grown : goal.returns-in_err-table-clause-grown
returns-in_err-table-clause-grown c = no_value c.from_residual.result _ _ c.from_residual.ensures.1

pub returns-in_err-table-clause-kept : goal.returns-in_err-table-clause-kept
returns-in_err-table-clause-kept c = no_value c.from_residual.result _ _ c.from_residual.ensures.1

pub returns-in_err-only-clause-value : goal.returns-in_err-only-clause-value
unfolding flow_with
returns-in_err-only-clause-value c =
    let e = c.in_err-only.field-0.0 in
    handed_on _ _ _ _ c.from_residual-in_err-only.ensures.1 (fails_after _ e c.in_ok-table.ensures (fails_here _ _ e c.in_err-only.ensures))

pub returns-in_err-only-clause-fresh : goal.returns-in_err-only-clause-fresh
returns-in_err-only-clause-fresh c = no_value c.from_residual-in_err-only.result _ _ c.from_residual-in_err-only.ensures.1

pub returns-in_err-only-clause-grown : goal.returns-in_err-only-clause-grown
returns-in_err-only-clause-grown c = no_value c.from_residual-in_err-only.result _ _ c.from_residual-in_err-only.ensures.1

pub returns-in_err-only-clause-kept : goal.returns-in_err-only-clause-kept
returns-in_err-only-clause-kept c = no_value c.from_residual-in_err-only.result _ _ c.from_residual-in_err-only.ensures.1

pub returns-in_err-name-clause-value : goal.returns-in_err-name-clause-value
unfolding flow_with
returns-in_err-name-clause-value c =
    let e = c.in_err-name.field-0.0 in
    handed_on _ _ _ _ c.from_residual-in_err-name.ensures.1 (fails_after _ e c.in_ok-table.ensures (fails_after _ e c.in_ok-only.ensures (fails_here _ _ e c.in_err-name.ensures.value)))

pub returns-in_err-name-clause-fresh : goal.returns-in_err-name-clause-fresh
returns-in_err-name-clause-fresh c = no_value c.from_residual-in_err-name.result _ _ c.from_residual-in_err-name.ensures.1

pub returns-in_err-name-clause-grown : goal.returns-in_err-name-clause-grown
returns-in_err-name-clause-grown c = no_value c.from_residual-in_err-name.result _ _ c.from_residual-in_err-name.ensures.1

pub returns-in_err-name-clause-kept : goal.returns-in_err-name-clause-kept
returns-in_err-name-clause-kept c = no_value c.from_residual-in_err-name.result _ _ c.from_residual-in_err-name.ensures.1

pub returns-in_err-packet-clause-value : goal.returns-in_err-packet-clause-value
unfolding flow_with
returns-in_err-packet-clause-value c =
    let e = c.in_err-packet.field-0.0 in
    handed_on _ _ _ _ c.from_residual-in_err-packet.ensures.1 (fails_after _ e c.in_ok-table.ensures (fails_after _ e c.in_ok-only.ensures (fails_after _ e c.in_ok-name.ensures.value (fails_here _ _ e c.in_err-packet.ensures.value))))

pub returns-in_err-packet-clause-fresh : goal.returns-in_err-packet-clause-fresh
returns-in_err-packet-clause-fresh c = no_value c.from_residual-in_err-packet.result _ _ c.from_residual-in_err-packet.ensures.1

pub returns-in_err-packet-clause-grown : goal.returns-in_err-packet-clause-grown
returns-in_err-packet-clause-grown c = no_value c.from_residual-in_err-packet.result _ _ c.from_residual-in_err-packet.ensures.1

pub returns-in_err-packet-clause-kept : goal.returns-in_err-packet-clause-kept
returns-in_err-packet-clause-kept c = no_value c.from_residual-in_err-packet.result _ _ c.from_residual-in_err-packet.ensures.1

pub returns-in_err-arrival-clause-value : goal.returns-in_err-arrival-clause-value
unfolding flow_with
returns-in_err-arrival-clause-value c =
    let e = c.in_err-arrival.field-0.0 in
    handed_on _ _ _ _ c.from_residual-in_err-arrival.ensures.1 (fails_after _ e c.in_ok-table.ensures (fails_after _ e c.in_ok-only.ensures (fails_after _ e c.in_ok-name.ensures.value (fails_after _ e c.in_ok-packet.ensures.value (fails_here _ _ e c.in_err-arrival.ensures.value)))))

pub returns-in_err-arrival-clause-fresh : goal.returns-in_err-arrival-clause-fresh
returns-in_err-arrival-clause-fresh c = no_value c.from_residual-in_err-arrival.result _ _ c.from_residual-in_err-arrival.ensures.1

pub returns-in_err-arrival-clause-grown : goal.returns-in_err-arrival-clause-grown
returns-in_err-arrival-clause-grown c = no_value c.from_residual-in_err-arrival.result _ _ c.from_residual-in_err-arrival.ensures.1

pub returns-in_err-arrival-clause-kept : goal.returns-in_err-arrival-clause-kept
returns-in_err-arrival-clause-kept c = no_value c.from_residual-in_err-arrival.result _ _ c.from_residual-in_err-arrival.ensures.1

pub returns-in_err-path-clause-value : goal.returns-in_err-path-clause-value
unfolding flow_with
returns-in_err-path-clause-value c =
    let e = c.in_err-path.field-0.0 in
    handed_on _ _ _ _ c.from_residual-in_err-path.ensures.1 (fails_after _ e c.in_ok-table.ensures (fails_after _ e c.in_ok-only.ensures (fails_after _ e c.in_ok-name.ensures.value (fails_after _ e c.in_ok-packet.ensures.value (fails_after _ e c.in_ok-arrival.ensures.value (fails_here _ _ e c.in_err-path.ensures.value))))))

pub returns-in_err-path-clause-fresh : goal.returns-in_err-path-clause-fresh
returns-in_err-path-clause-fresh c = no_value c.from_residual-in_err-path.result _ _ c.from_residual-in_err-path.ensures.1

pub returns-in_err-path-clause-grown : goal.returns-in_err-path-clause-grown
returns-in_err-path-clause-grown c = no_value c.from_residual-in_err-path.result _ _ c.from_residual-in_err-path.ensures.1

pub returns-in_err-path-clause-kept : goal.returns-in_err-path-clause-kept
returns-in_err-path-clause-kept c = no_value c.from_residual-in_err-path.result _ _ c.from_residual-in_err-path.ensures.1

pub returns-in_err-from_str-clause-value : goal.returns-in_err-from_str-clause-value
returns-in_err-from_str-clause-value c = handed_on _ _ answers.NoMemory _ c.from_residual-in_err-from_str.ensures.1 tt

pub returns-in_err-from_str-clause-fresh : goal.returns-in_err-from_str-clause-fresh
returns-in_err-from_str-clause-fresh c = no_value c.from_residual-in_err-from_str.result _ _ c.from_residual-in_err-from_str.ensures.1

pub returns-in_err-from_str-clause-grown : goal.returns-in_err-from_str-clause-grown
returns-in_err-from_str-clause-grown c = no_value c.from_residual-in_err-from_str.result _ _ c.from_residual-in_err-from_str.ensures.1

pub returns-in_err-from_str-clause-kept : goal.returns-in_err-from_str-clause-kept
returns-in_err-from_str-clause-kept c = no_value c.from_residual-in_err-from_str.result _ _ c.from_residual-in_err-from_str.ensures.1

pub returns-clause-value : goal.returns-clause-value
unfolding flow_with
returns-clause-value c =
    let read : List ℕ → Read FlowText = λ name. Ok (record { name = name; packet = c.in_ok-packet.packet; arrival = text_of c.in_ok-arrival.arrival.text; closes = c.in_ok-arrival.closes; path = c.in_ok-path.path.items }) in
    read_on _ c.in_ok-table.ensures (read_on _ c.in_ok-only.ensures (read_on _ c.in_ok-name.ensures.value (read_on _ c.in_ok-packet.ensures.value (read_on _ c.in_ok-arrival.ensures.value (read_on _ c.in_ok-path.ensures.value (ap read (sym c.in_ok-from_str.ensures.ok)))))))
