-- The running bounds of a finite curve are finite: of the supremum by its pieces, of the infimum by its value.
use Rattle.std.specs.Prelude.{◌≡◌, Bool, List, [], ◌∷◌, Option, Some}
use Rattle.std.proofs.Common.{sym, ◌∙◌, subst, inl, inr}
use Rattle.rational.specs.Rational.{ℚ}
use Rattle.rational.specs.Extended.{Ext, ◌≤ₑ◌}
use Rattle.rational.proofs.Laws.{le_refl}
use Rattle.upp_curve.specs.declared.affine_segment.line.Line.{Line}
use Rattle.upp_curve.specs.declared.affine_segment.line.Piece.{Piece}
use Rattle.upp_curve.specs.affine_segment.Reading.{read}
use Rattle.upp_curve.specs.Curve.{SpecCurve, value_at, repeated}
use Rattle.min_plus.specs.Functions.{IsFinite}
use Rattle.upp_curve.specs.affine_segment.Pieces.{Each, StartsAtZero}
use Rattle.upp_normal.specs.Normalising.{HasValues}
use Rattle.upp_curve.specs.Shapes.{IsNumber, IsLine, IsFinitePiece}
use Rattle.upp_curve.proofs.Finite.{level_of, number_of, read_number, repeated_number}
use Rattle.plain_operators.specs.running.Made.{IsMade, IsScan}
use Rattle.plain_operators.specs.running.Runs.{RunsFrom}
use Rattle.upp_curve.proofs.affine_segment.PieceIn.{read_is}
use Rattle.rational.proofs.ExtendedOrder.{finite_below}

-- ---- the supremum
some_line : (line : Option Line) (l : Line) → line ≡ Some l → IsLine line
some_line line l e = subst IsLine (sym e) tt

pub made_finite : (end : ℚ) (ps : List Piece) (q : Piece) → IsMade end ps q → IsFinitePiece q
made_finite end ps q m = record {
  at = number_of q.at m.at.0 m.at.1;
  line = elim m.line [ inl h ↦ some_line q.line h.0 h.1 | inr h ↦ some_line q.line _ h.1 ];
}

each_made_finite : (end : ℚ) (ps qs : List Piece) → Each (IsMade end ps) qs → Each IsFinitePiece qs
each_made_finite end ps [] h = tt
each_made_finite end ps (q ∷ qs) h = (made_finite end ps q h.0, each_made_finite end ps qs h.1)

pub list_number : (qs : List Piece) (t : ℚ) → StartsAtZero qs → Each IsFinitePiece qs → IsNumber (read qs t)
list_number [] t starts each = absurd starts
list_number (q ∷ qs) t starts each = subst IsNumber (sym (read_is q qs t)) (read_number q qs t each)

-- what repeats the pieces of a scan is finite
pub scan_finite : (rises : Bool) (ps qs : List Piece) (end from d rise : ℚ) (c : SpecCurve) → IsScan rises ps end qs → HasValues c (repeated (read qs) from d rise)
    → IsFinite (value_at c)
scan_finite rises ps qs end from d rise c S V t low =
    let found = level_of (repeated (read qs) from d rise t)
    (repeated_number (read qs) from d rise t (λ u. list_number qs u S.starts (each_made_finite end ps qs S.made))) in
    (found.0, V t low ∙ found.1)

-- ---- the infimum

-- it is at most the value at the time itself
pub infimum_finite : (f c : SpecCurve) → IsFinite (value_at f) → RunsFrom f c → IsFinite (value_at c)
infimum_finite f c finite h t low =
    let found = finite t low in
    finite_below (value_at c t) found.0 (subst (λ (v : Ext). value_at c t ≤ₑ v) found.1 ((h t low).below record { at = t; least = le_refl t }))
