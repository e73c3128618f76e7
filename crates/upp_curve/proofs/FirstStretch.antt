-- How the first of some pieces is read: at its start, and up to the next start.
use Rattle.rational.proofs.MinMax.{below_min_in, below_min_out}
use Rattle.std.specs.Prelude.{◌≡◌, List, [], ◌∷◌}
use Rattle.std.proofs.Common.{ap, ◌∙◌}
use Rattle.rational.specs.Rational.{ℚ, ◌<ℚ◌}
use Rattle.rational.specs.Extended.{Ext}
use Rattle.upp_curve.specs.declared.affine_segment.line.Piece.{Piece}
use Rattle.rational.specs.MinMax.{min_q}
use Rattle.upp_curve.specs.affine_segment.Reading.{piece_in, piece_value}
use Rattle.upp_curve.specs.affine_segment.Values.{line_value}
use Rattle.upp_curve.specs.affine_segment.Pieces.{RisesFrom}
use Rattle.upp_curve.proofs.affine_segment.PieceIn.{piece_in_stop, piece_in_end, value_past, value_at_start}

abbrev pub end_of : ℚ → List Piece → ℚ
end_of X [] = X
end_of X (q ∷ qs) = min_q X q.x

pub end_at_most : (X : ℚ) (qs : List Piece) (t : ℚ) → t <ℚ end_of X qs → t <ℚ X
end_at_most X [] t h = h
end_at_most X (q ∷ qs) t h = (below_min_out X q.x t h).0

pub start_before : (x X : ℚ) (ps : List Piece) → x <ℚ X → RisesFrom x ps → x <ℚ end_of X ps
start_before x X [] h r = h
start_before x X (p ∷ ps) h r = below_min_in X p.x x h r.0

abbrev pub read_in : Piece → List Piece → ℚ → Ext
read_in p ps t = piece_value (piece_in p ps t) t

pub on_stretch : (p : Piece) (ps : List Piece) (X t : ℚ) → p.x <ℚ t → t <ℚ end_of X ps → read_in p ps t ≡ line_value p.line t
on_stretch p [] X t h k = ap (λ q. piece_value q t) (piece_in_end p t) ∙ value_past p t h
on_stretch p (q ∷ qs) X t h k = ap (λ q. piece_value q t) (piece_in_stop p q qs t (below_min_out X q.x t k).1) ∙ value_past p t h

pub at_start : (p : Piece) (ps : List Piece) → RisesFrom p.x ps → read_in p ps p.x ≡ p.at
at_start p [] r = ap (λ q. piece_value q p.x) (piece_in_end p p.x) ∙ value_at_start p
at_start p (q ∷ qs) r = ap (λ q. piece_value q p.x) (piece_in_stop p q qs p.x r.0) ∙ value_at_start p
