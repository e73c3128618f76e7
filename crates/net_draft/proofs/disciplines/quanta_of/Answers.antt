use Rattle.std.proofs.Common.{[], map, subst, ◌∙◌}
use Rattle.toml.specs.View.{view}
use Rattle.net_draft.specs.Faults.{Gives}
use Rattle.net_draft.specs.Tables.{each, quantum_at, quanta_of}
use Rattle.net_draft.specs.declared.fault.DraftFault.TheVariants as answers
use Rattle.net_draft.proofs.Chain.{handed_on, fails_here, gives_after, no_value}
use Rattle.net_draft.proofs.disciplines.quanta_of.Goals as goal

pub returns-in_err-entries-clause-value : goal.returns-in_err-entries-clause-value
unfolding quanta_of
returns-in_err-entries-clause-value c =
    let e = c.in_err-entries.field-0.0 in
    handed_on _ _ _ _ c.from_residual.ensures.1 (fails_here _ _ e c.in_err-entries.ensures.value)

pub returns-in_err-entries-clause-count : goal.returns-in_err-entries-clause-count
returns-in_err-entries-clause-count c = no_value c.from_residual.result _ _ c.from_residual.ensures.1

pub returns-in_err-entries-clause-range : goal.returns-in_err-entries-clause-range
returns-in_err-entries-clause-range c = no_value c.from_residual.result _ _ c.from_residual.ensures.1

pub returns-in_err-here-clause-value : goal.returns-in_err-here-clause-value
returns-in_err-here-clause-value c = handed_on _ _ answers.NoMemory _ c.from_residual-in_err-here.ensures.1 tt

pub returns-in_err-here-clause-count : goal.returns-in_err-here-clause-count
returns-in_err-here-clause-count c = no_value c.from_residual-in_err-here.result _ _ c.from_residual-in_err-here.ensures.1

pub returns-in_err-here-clause-range : goal.returns-in_err-here-clause-range
returns-in_err-here-clause-range c = no_value c.from_residual-in_err-here.result _ _ c.from_residual-in_err-here.ensures.1

pub returns-clause-value : goal.returns-clause-value
unfolding quanta_of
returns-clause-value c =
    let here = c.as_str.ensures.value ∙ c.in_ok-here.ensures in
    gives_after _ _ _ c.in_ok-entries.ensures.value (subst (λ p. Gives (λ v. v.items) c.each_quantum.result (each (λ before. quantum_at) p [] (map view c.in_ok-entries.entries.now))) here c.each_quantum.ensures.value)
