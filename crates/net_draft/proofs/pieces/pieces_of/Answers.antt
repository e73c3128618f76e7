use Rattle.std.proofs.Common.{[], map, subst, ◌∙◌}
use Rattle.toml.specs.View.{view}
use Rattle.net_draft.specs.Faults.{Gives}
use Rattle.net_draft.specs.Tables.{each, piece_at, pieces_of}
use Rattle.net_draft.specs.declared.fault.DraftFault.TheVariants as answers
use Rattle.net_draft.proofs.Chain.{handed_on, fails_here, gives_after}
use Rattle.net_draft.proofs.pieces.pieces_of.Goals as goal

pub returns-in_err-entries : goal.returns-in_err-entries
unfolding pieces_of
returns-in_err-entries c =
    let e = c.in_err-entries.field-0.0 in
    handed_on _ _ _ _ c.from_residual.ensures.1 (fails_here _ _ e c.in_err-entries.ensures.value)

pub returns-in_err-here : goal.returns-in_err-here
returns-in_err-here c = handed_on _ _ answers.NoMemory _ c.from_residual-in_err-here.ensures.1 tt

pub returns : goal.returns
unfolding pieces_of
returns c =
    let here = c.as_str.ensures.value ∙ c.in_ok-here.ensures in
    gives_after _ _ _ c.in_ok-entries.ensures.value (subst (λ p. Gives (λ v. v.items) c.each_piece.result (each (λ before. piece_at) p [] (map view c.in_ok-entries.entries.now))) here c.each_piece.ensures)
