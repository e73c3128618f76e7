-- The loop that multiplies pieces.
use Rattle.std.specs.Prelude.{◌≡◌, ℕ, ◌+◌, ◌<◌, ◌≤◌, List, [], ◌∷◌, ◌++◌, length, map}
use Rattle.std.proofs.Common.{get_or, drop, drop_of_length-le, append-nil, sym, ap, ◌∙◌, subst}
use Rattle.rational.specs.Rational.{ℚ}
use Rattle.upp_curve.specs.declared.affine_segment.line.Piece.{Piece}
use Rattle.upp_curve.specs.affine_segment.Pieces.{Each}
use Rattle.upp_curve.proofs.affine_segment.NextPiece.{next_piece}
use Rattle.upp_limits.specs.Gauges.{scaled_piece}
use Rattle.upp_limits.specs.ClosedOperands.{PieceScales}
use Rattle.curve_call.proofs.Surgery.{one_more}

pub record FittingLoop (factor : ℚ) (ps left out : List Piece) : Type 0 where
  pub holds : Each (PieceScales factor) left
  pub same : out ++ map (scaled_piece factor) left ≡ map (scaled_piece factor) ps

pub fitting_here : (factor : ℚ) (ps out : List Piece) (i : ℕ) (p : Piece) → FittingLoop factor ps (drop i ps) out → i < length ps → p ≡ get_or ps i p → PieceScales factor p
fitting_here factor ps out i p L h is = (subst (Each (PieceScales factor)) (next_piece p ps i h is) L.holds).0

pub fitting_step : (factor : ℚ) (ps out new : List Piece) (i : ℕ) (p q : Piece) → FittingLoop factor ps (drop i ps) out → i < length ps → p ≡ get_or ps i p → q ≡ scaled_piece factor p → new ≡ out ++ q ∷ []
    → FittingLoop factor ps (drop (i + 1) ps) new
fitting_step factor ps out new i p q L h is made more =
    let shape = next_piece p ps i h is in
    let rest = map (scaled_piece factor) (drop (i + 1) ps) in
    record {
      holds = (subst (Each (PieceScales factor)) shape L.holds).1;
      same = ap (λ xs. xs ++ rest) more ∙ one_more out q rest ∙ ap (λ y. out ++ y ∷ rest) made ∙ ap (λ z. out ++ map (scaled_piece factor) z) (sym shape) ∙ L.same;
    }

pub fitting_end : (factor : ℚ) (ps out : List Piece) (i : ℕ) → FittingLoop factor ps (drop i ps) out → length ps ≤ i → out ≡ map (scaled_piece factor) ps
fitting_end factor ps out i L h = sym (append-nil out) ∙ ap (λ z. out ++ map (scaled_piece factor) z) (sym (drop_of_length-le ps h)) ∙ L.same
