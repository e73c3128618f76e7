-- Whether a piece with a line rises, by the three tests of it.
use Rattle.std.specs.Prelude.{◌≡◌, ◌↔◌, Option, Some}
use Rattle.std.proofs.Common.{sym, subst}
use Rattle.rational.specs.Rational.{ℚ, ◌≤ℚ◌, ◌<ℚ◌}
use Rattle.rational.specs.Extended.{◌≤ₑ◌}
use Rattle.rational.specs.declared.Extended.TheVariants.{Fin}
use Rattle.rational.proofs.Laws.{lt_irrefl, lt_le_trans}
use Rattle.upp_curve.specs.declared.affine_segment.line.Line.{Line}
use Rattle.upp_curve.specs.declared.affine_segment.line.Piece.{Piece}
use Rattle.upp_curve.specs.affine_segment.Values.{line_at, line_value}
use Rattle.upp_curve.specs.declared.shape.End.{End}
use Rattle.min_plus.specs.Functions.{zero_q}
use Rattle.upp_curve.specs.Shapes.{LineRises, EndsBelow, PieceRises}

-- a piece whose line is l
pub rises_by_tests : (p : Piece) (l : Line) (next : Option End) (v : ℚ) → p.line ≡ Some l → v ≡ line_at l p.x → zero_q ≤ℚ l.slope → p.at ≤ₑ Fin v
    → (EndsBelow (Some l) next ↔ PieceRises p next)
rises_by_tests p l next v e f up first = (
  λ last. record {
    first = subst (λ z. p.at ≤ₑ line_value z p.x) (sym e) (subst (λ z. p.at ≤ₑ Fin z) f first);
    slope = subst LineRises (sym e) up;
    last = subst (λ z. EndsBelow z next) (sym e) last;
  },
  λ h. subst (λ z. EndsBelow z next) e h.last,
)

pub falls : (p : Piece) (l : Line) (next : Option End) (o : ℚ) → p.line ≡ Some l → o ≡ zero_q → l.slope <ℚ o → PieceRises p next → ⊥
falls p l next o e z down h =
    let up : zero_q ≤ℚ l.slope = subst LineRises e h.slope in
    lt_irrefl l.slope (lt_le_trans (subst (λ x. l.slope <ℚ x) z down) up)

pub starts_low : (p : Piece) (l : Line) (next : Option End) (v : ℚ) → p.line ≡ Some l → v ≡ line_at l p.x → ¬ (p.at ≤ₑ Fin v) → PieceRises p next → ⊥
starts_low p l next v e f none h = none (subst (λ z. p.at ≤ₑ Fin z) (sym f) (subst (λ z. p.at ≤ₑ line_value z p.x) e h.first))
