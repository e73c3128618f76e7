-- The value of the last piece at the rank, and whether it is that of the line or of the infinity that goes on from it.
use Rattle.std.specs.Prelude.{◌≡◌, ◌↔◌, Bool, true, false, ◌&&◌, IsTrue, Some, None}
use Rattle.std.proofs.Common.{sym, ap, ◌∙◌, refl, subst}
use Rattle.std.proofs.lemmas.Bool.{true≢false}
use Rattle.rational.specs.Rational.{ℚ, ◌≤ℚ◌, ◌<ℚ◌}
use Rattle.rational.specs.Extended.{Ext}
use Rattle.rational.specs.declared.Extended.TheVariants.{Fin, Inf}
use Rattle.rational.proofs.Laws.{le_refl}
use Rattle.rational.proofs.Over.{le_q_out}
use Rattle.upp_curve.specs.declared.affine_segment.line.Line.{Line}
use Rattle.upp_curve.specs.declared.affine_segment.line.Piece.{Piece}
use Rattle.upp_curve.specs.affine_segment.Values.{line_value}
use Rattle.upp_curve.specs.affine_segment.Reading.{piece_value}
use Rattle.upp_curve.specs.Steady.{same_ext}
use Rattle.upp_curve.proofs.Steady.{same_out}
use Rattle.upp_curve.proofs.affine_segment.PieceIn.{value_by, value_past}

same_self : (x : Ext) → same_ext x x ≡ true
unfolding same_ext
same_self Inf = refl
same_self (Fin x) = ap (λ b. b && b) (le_q_out x x (le_refl x))

-- a test of two values
pub same_test : (b : Bool) (x y : Ext) → (IsTrue b ↔ (x ≡ y)) → b ≡ same_ext x y
same_test b x y h = by_value (same_ext x y) refl b h
  where
    by_value : (t : Bool) → same_ext x y ≡ t → (b : Bool) → (IsTrue b ↔ (x ≡ y)) → b ≡ t
    by_value true e b h = h.1 (same_out x y e)
    by_value false e true h = absurd (true≢false (sym (subst (λ z. same_ext x z ≡ true) (h.0 refl) (same_self x)) ∙ e))
    by_value false e false h = refl

pub same_by : (x y : Ext) → x ≡ y → true ≡ same_ext x y
same_by x y e = sym (subst (λ z. same_ext x z ≡ true) e (same_self x))

-- what is read at the rank: before it a line or none, at it a value
pub none_past : (p : Piece) (rank : ℚ) → p.x <ℚ rank → p.line ≡ None → true ≡ same_ext (piece_value p rank) Inf
none_past p rank h e = same_by (piece_value p rank) Inf (value_past p rank h ∙ ap (λ l. line_value l rank) e)

pub some_past : (p : Piece) (rank : ℚ) (l : Line) → p.x <ℚ rank → p.line ≡ Some l → false ≡ same_ext (piece_value p rank) Inf
unfolding same_ext
some_past p rank l h e = sym (ap (λ v. same_ext v Inf) (value_past p rank h ∙ ap (λ m. line_value m rank) e))

pub infinite_at : (p : Piece) (rank : ℚ) → rank ≤ℚ p.x → p.at ≡ Inf → true ≡ same_ext (piece_value p rank) Inf
infinite_at p rank h e = same_by (piece_value p rank) Inf (value_by p rank h ∙ e)

pub finite_at : (p : Piece) (rank v : ℚ) → rank ≤ℚ p.x → p.at ≡ Fin v → false ≡ same_ext (piece_value p rank) Inf
unfolding same_ext
finite_at p rank v h e = sym (ap (λ x. same_ext x Inf) (value_by p rank h ∙ e))

pub same_values : (x x' y y' : Ext) → x ≡ x' → y ≡ y' → same_ext x y ≡ same_ext x' y'
same_values x x' y y' e f = ap (λ z. same_ext z y) e ∙ ap (λ z. same_ext x' z) f
