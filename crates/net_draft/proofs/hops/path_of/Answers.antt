use Rattle.std.proofs.Common.{[], map, subst, ◌∙◌}
use Rattle.toml.specs.View.{view}
use Rattle.net_draft.specs.Faults.{Gives}
use Rattle.net_draft.specs.Tables.{each, hop_at, path_of}
use Rattle.net_draft.specs.ListViews.{list_texts}
use Rattle.net_draft.specs.declared.fault.DraftFault.TheVariants as answers
use Rattle.net_draft.proofs.Chain.{handed_on, fails_here, gives_after, no_value}
use Rattle.net_draft.proofs.hops.path_of.Goals as goal

pub returns-in_err-entries-clause-value : goal.returns-in_err-entries-clause-value
unfolding path_of
returns-in_err-entries-clause-value c =
    let e = c.in_err-entries.field-0.0 in
    handed_on _ _ _ _ c.from_residual.ensures.1 (fails_here _ _ e c.in_err-entries.ensures.value)

pub returns-in_err-entries-clause-some : goal.returns-in_err-entries-clause-some
returns-in_err-entries-clause-some c = no_value c.from_residual.result _ _ c.from_residual.ensures.1

pub returns-in_err-entries-clause-few : goal.returns-in_err-entries-clause-few
returns-in_err-entries-clause-few c = no_value c.from_residual.result _ _ c.from_residual.ensures.1

pub returns-in_err-entries-clause-range : goal.returns-in_err-entries-clause-range
returns-in_err-entries-clause-range c = no_value c.from_residual.result _ _ c.from_residual.ensures.1

pub returns-in_err-entries-clause-once : goal.returns-in_err-entries-clause-once
returns-in_err-entries-clause-once c = no_value c.from_residual.result _ _ c.from_residual.ensures.1

pub returns-in_err-here-clause-value : goal.returns-in_err-here-clause-value
returns-in_err-here-clause-value c = handed_on _ _ answers.NoMemory _ c.from_residual-in_err-here.ensures.1 tt

pub returns-in_err-here-clause-some : goal.returns-in_err-here-clause-some
returns-in_err-here-clause-some c = no_value c.from_residual-in_err-here.result _ _ c.from_residual-in_err-here.ensures.1

pub returns-in_err-here-clause-few : goal.returns-in_err-here-clause-few
returns-in_err-here-clause-few c = no_value c.from_residual-in_err-here.result _ _ c.from_residual-in_err-here.ensures.1

pub returns-in_err-here-clause-range : goal.returns-in_err-here-clause-range
returns-in_err-here-clause-range c = no_value c.from_residual-in_err-here.result _ _ c.from_residual-in_err-here.ensures.1

pub returns-in_err-here-clause-once : goal.returns-in_err-here-clause-once
returns-in_err-here-clause-once c = no_value c.from_residual-in_err-here.result _ _ c.from_residual-in_err-here.ensures.1

pub returns-clause-value : goal.returns-clause-value
unfolding path_of
returns-clause-value c =
    let here = c.as_str.ensures.value ∙ c.in_ok-here.ensures in
    gives_after _ _ _ c.in_ok-entries.ensures.value (subst (λ p. Gives (λ v. v.items) c.each_hop.result (each (hop_at (list_texts c.args.servers.now)) p [] (map view c.in_ok-entries.entries.now))) here c.each_hop.ensures.value)
