use Rattle.std.proofs.Common.{List, ℕ, Ok, sym, ap}
use Rattle.net_model.specs.Views.{discipline_of}
use Rattle.net_draft.specs.CurveTexts.{text_of}
use Rattle.net_draft.specs.Faults.{Read}
use Rattle.net_draft.specs.Texts.{ServerText}
use Rattle.net_draft.specs.Tables.{server_with}
use Rattle.net_draft.specs.declared.fault.DraftFault.TheVariants as answers
use Rattle.net_draft.proofs.Chain.{handed_on, fails_here, fails_after, read_on, no_value}
use Rattle.net_draft.proofs.servers.server_of.Goals as goal

pub returns-in_err-table-clause-value : goal.returns-in_err-table-clause-value
unfolding server_with
returns-in_err-table-clause-value c =
    let e = c.in_err-table.field-0.0 in
    handed_on _ _ _ _ c.from_residual.ensures.1 (fails_here _ _ e c.in_err-table.ensures)

pub returns-in_err-table-clause-kept : goal.returns-in_err-table-clause-kept
returns-in_err-table-clause-kept c = no_value c.from_residual.result _ _ c.from_residual.ensures.1

pub returns-in_err-table-clause-fresh : goal.returns-in_err-table-clause-fresh
returns-in_err-table-clause-fresh c = no_value c.from_residual.result _ _ c.from_residual.ensures.1

pub returns-in_err-table-clause-grown : goal.returns-in_err-table-clause-grown
returns-in_err-table-clause-grown c = no_value c.from_residual.result _ _ c.from_residual.ensures.1

pub returns-in_err-only-clause-value : goal.returns-in_err-only-clause-value
unfolding server_with
returns-in_err-only-clause-value c =
    let e = c.in_err-only.field-0.0 in
    handed_on _ _ _ _ c.from_residual-in_err-only.ensures.1 (fails_after _ e c.in_ok-table.ensures (fails_here _ _ e c.in_err-only.ensures))

pub returns-in_err-only-clause-kept : goal.returns-in_err-only-clause-kept
returns-in_err-only-clause-kept c = no_value c.from_residual-in_err-only.result _ _ c.from_residual-in_err-only.ensures.1

pub returns-in_err-only-clause-fresh : goal.returns-in_err-only-clause-fresh
returns-in_err-only-clause-fresh c = no_value c.from_residual-in_err-only.result _ _ c.from_residual-in_err-only.ensures.1

pub returns-in_err-only-clause-grown : goal.returns-in_err-only-clause-grown
returns-in_err-only-clause-grown c = no_value c.from_residual-in_err-only.result _ _ c.from_residual-in_err-only.ensures.1

pub returns-in_err-name-clause-value : goal.returns-in_err-name-clause-value
unfolding server_with
returns-in_err-name-clause-value c =
    let e = c.in_err-name.field-0.0 in
    handed_on _ _ _ _ c.from_residual-in_err-name.ensures.1 (fails_after _ e c.in_ok-table.ensures (fails_after _ e c.in_ok-only.ensures (fails_here _ _ e c.in_err-name.ensures.value)))

pub returns-in_err-name-clause-kept : goal.returns-in_err-name-clause-kept
returns-in_err-name-clause-kept c = no_value c.from_residual-in_err-name.result _ _ c.from_residual-in_err-name.ensures.1

pub returns-in_err-name-clause-fresh : goal.returns-in_err-name-clause-fresh
returns-in_err-name-clause-fresh c = no_value c.from_residual-in_err-name.result _ _ c.from_residual-in_err-name.ensures.1

pub returns-in_err-name-clause-grown : goal.returns-in_err-name-clause-grown
returns-in_err-name-clause-grown c = no_value c.from_residual-in_err-name.result _ _ c.from_residual-in_err-name.ensures.1

pub returns-in_err-rate-clause-value : goal.returns-in_err-rate-clause-value
unfolding server_with
returns-in_err-rate-clause-value c =
    let e = c.in_err-rate.field-0.0 in
    handed_on _ _ _ _ c.from_residual-in_err-rate.ensures.1 (fails_after _ e c.in_ok-table.ensures (fails_after _ e c.in_ok-only.ensures (fails_after _ e c.in_ok-name.ensures.value (fails_here _ _ e c.in_err-rate.ensures.value))))

pub returns-in_err-rate-clause-kept : goal.returns-in_err-rate-clause-kept
returns-in_err-rate-clause-kept c = no_value c.from_residual-in_err-rate.result _ _ c.from_residual-in_err-rate.ensures.1

pub returns-in_err-rate-clause-fresh : goal.returns-in_err-rate-clause-fresh
returns-in_err-rate-clause-fresh c = no_value c.from_residual-in_err-rate.result _ _ c.from_residual-in_err-rate.ensures.1

pub returns-in_err-rate-clause-grown : goal.returns-in_err-rate-clause-grown
returns-in_err-rate-clause-grown c = no_value c.from_residual-in_err-rate.result _ _ c.from_residual-in_err-rate.ensures.1

pub returns-in_err-service-clause-value : goal.returns-in_err-service-clause-value
unfolding server_with
returns-in_err-service-clause-value c =
    let e = c.in_err-service.field-0.0 in
    handed_on _ _ _ _ c.from_residual-in_err-service.ensures.1 (fails_after _ e c.in_ok-table.ensures (fails_after _ e c.in_ok-only.ensures (fails_after _ e c.in_ok-name.ensures.value (fails_after _ e c.in_ok-rate.ensures.value (fails_here _ _ e c.in_err-service.ensures.value)))))

pub returns-in_err-service-clause-kept : goal.returns-in_err-service-clause-kept
returns-in_err-service-clause-kept c = no_value c.from_residual-in_err-service.result _ _ c.from_residual-in_err-service.ensures.1

pub returns-in_err-service-clause-fresh : goal.returns-in_err-service-clause-fresh
returns-in_err-service-clause-fresh c = no_value c.from_residual-in_err-service.result _ _ c.from_residual-in_err-service.ensures.1

pub returns-in_err-service-clause-grown : goal.returns-in_err-service-clause-grown
returns-in_err-service-clause-grown c = no_value c.from_residual-in_err-service.result _ _ c.from_residual-in_err-service.ensures.1

pub returns-in_err-link-clause-value : goal.returns-in_err-link-clause-value
unfolding server_with
returns-in_err-link-clause-value c =
    let e = c.in_err-link.field-0.0 in
    handed_on _ _ _ _ c.from_residual-in_err-link.ensures.1 (fails_after _ e c.in_ok-table.ensures (fails_after _ e c.in_ok-only.ensures (fails_after _ e c.in_ok-name.ensures.value (fails_after _ e c.in_ok-rate.ensures.value (fails_after _ e c.in_ok-service.ensures.value (fails_here _ _ e c.in_err-link.ensures.value))))))

pub returns-in_err-link-clause-kept : goal.returns-in_err-link-clause-kept
returns-in_err-link-clause-kept c = no_value c.from_residual-in_err-link.result _ _ c.from_residual-in_err-link.ensures.1

pub returns-in_err-link-clause-fresh : goal.returns-in_err-link-clause-fresh
returns-in_err-link-clause-fresh c = no_value c.from_residual-in_err-link.result _ _ c.from_residual-in_err-link.ensures.1

pub returns-in_err-link-clause-grown : goal.returns-in_err-link-clause-grown
returns-in_err-link-clause-grown c = no_value c.from_residual-in_err-link.result _ _ c.from_residual-in_err-link.ensures.1

pub returns-in_err-discipline-clause-value : goal.returns-in_err-discipline-clause-value
unfolding server_with
returns-in_err-discipline-clause-value c =
    let e = c.in_err-discipline.field-0.0 in
    handed_on _ _ _ _ c.from_residual-in_err-discipline.ensures.1 (fails_after _ e c.in_ok-table.ensures (fails_after _ e c.in_ok-only.ensures (fails_after _ e c.in_ok-name.ensures.value (fails_after _ e c.in_ok-rate.ensures.value (fails_after _ e c.in_ok-service.ensures.value (fails_after _ e c.in_ok-link.ensures.value (fails_here _ _ e c.in_err-discipline.ensures.value)))))))

pub returns-in_err-discipline-clause-kept : goal.returns-in_err-discipline-clause-kept
returns-in_err-discipline-clause-kept c = no_value c.from_residual-in_err-discipline.result _ _ c.from_residual-in_err-discipline.ensures.1

pub returns-in_err-discipline-clause-fresh : goal.returns-in_err-discipline-clause-fresh
returns-in_err-discipline-clause-fresh c = no_value c.from_residual-in_err-discipline.result _ _ c.from_residual-in_err-discipline.ensures.1

pub returns-in_err-discipline-clause-grown : goal.returns-in_err-discipline-clause-grown
returns-in_err-discipline-clause-grown c = no_value c.from_residual-in_err-discipline.result _ _ c.from_residual-in_err-discipline.ensures.1

pub returns-in_err-from_str-clause-value : goal.returns-in_err-from_str-clause-value
returns-in_err-from_str-clause-value c = handed_on _ _ answers.NoMemory _ c.from_residual-in_err-from_str.ensures.1 tt

pub returns-in_err-from_str-clause-kept : goal.returns-in_err-from_str-clause-kept
returns-in_err-from_str-clause-kept c = no_value c.from_residual-in_err-from_str.result _ _ c.from_residual-in_err-from_str.ensures.1

pub returns-in_err-from_str-clause-fresh : goal.returns-in_err-from_str-clause-fresh
returns-in_err-from_str-clause-fresh c = no_value c.from_residual-in_err-from_str.result _ _ c.from_residual-in_err-from_str.ensures.1

pub returns-in_err-from_str-clause-grown : goal.returns-in_err-from_str-clause-grown
returns-in_err-from_str-clause-grown c = no_value c.from_residual-in_err-from_str.result _ _ c.from_residual-in_err-from_str.ensures.1

pub returns-clause-value : goal.returns-clause-value
unfolding server_with
returns-clause-value c =
    let read : List ℕ → Read ServerText = λ name. Ok (record { name = name; rate = c.in_ok-rate.rate; service = text_of c.in_ok-service.service.text; link = c.in_ok-link.link; discipline = discipline_of c.in_ok-discipline.discipline }) in
    read_on _ c.in_ok-table.ensures (read_on _ c.in_ok-only.ensures (read_on _ c.in_ok-name.ensures.value (read_on _ c.in_ok-rate.ensures.value (read_on _ c.in_ok-service.ensures.value (read_on _ c.in_ok-link.ensures.value (read_on _ c.in_ok-discipline.ensures.value (ap read (sym c.in_ok-from_str.ensures.ok))))))))
