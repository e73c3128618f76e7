use Rattle.std.proofs.Common.{List, [], ◌∷◌, ◌++◌, sym, ap₂, subst, ◌∙◌}
use Rattle.rational.specs.Rational.{ℚ, ◌≤ℚ◌, ◌<ℚ◌}
use Rattle.upp_curve.specs.declared.affine_segment.line.Piece.{Piece}
use Rattle.rational.proofs.Compared.{is_greater, not_greater}
use Rattle.element_envelope.proofs.JoinedReads.{lead_empty, lead_one}
use Rattle.element_envelope.proofs.window.lead.Goals as goal
use Rattle.upp_curve.specs.affine_segment.Reading.{nothing_at}

pub returns-in_ok-push-in-Greater : goal.returns-in_ok-push-in-Greater
returns-in_ok-push-in-Greater c =
    c.in_ok-push-in-Greater.ensures.items
    ∙ ap₂ (λ (ps : List Piece) (x : ℚ). ps ++ nothing_at x ∷ []) c.in_ok-pieces.ensures.items c.zero-in-Greater.ensures
    ∙ sym (lead_one c.args.start (subst (λ q. q <ℚ c.args.start) c.zero.ensures (is_greater c.cmp.result c.cmp.ensures.ranks c.in-Greater.is)))

pub returns-in_default : goal.returns-in_default
returns-in_default c =
    c.in_ok-pieces.ensures.items
    ∙ sym (lead_empty c.args.start (subst (λ q. c.args.start ≤ℚ q) c.zero.ensures (not_greater c.cmp.result c.cmp.ensures.ranks c.in_default.not-Greater)))
