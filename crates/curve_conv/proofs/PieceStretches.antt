-- Pieces that elements make go on from a time with the line of the last piece that starts there or before.
use Rattle.std.specs.Prelude.{◌≡◌, pos, List, [], ◌∷◌, None}
use Rattle.std.proofs.Common.{sym, ap, ◌∙◌, subst}
use Rattle.rational.specs.Rational.{ℚ, ◌≤ℚ◌, int}
use Rattle.upp_curve.specs.declared.affine_segment.line.Piece.{Piece}
use Rattle.upp_curve.specs.affine_segment.Values.{line_value}
use Rattle.upp_normal.specs.declared.ahead.Stretch.{Stretch}
use Rattle.upp_limits.specs.Limits.{Sizes}
use Rattle.upp_curve.specs.affine_segment.Pieces.{StartsAtZero}
use Rattle.upp_curve.specs.affine_segment.Reading.{read, next_in, line_in}
use Rattle.upp_curve.specs.affine_segment.Fits.{ReadFits}
use Rattle.upp_normal.specs.Ahead.{GoesOn, IsBeforeNext, AtNext}
use Rattle.upp_curve.proofs.affine_segment.PieceOrder.{each_map}
use Rattle.upp_normal.proofs.StretchPieces.{reads_on, next_past, next_all}
use Rattle.element_envelope.specs.SumWindows.{SumValueAt, SumLineAt, SumPiece, SumWindow}
use Rattle.element_envelope.proofs.SumSteps.{sum_read, sum_line_in, line_fits_at}
use Rattle.curve_conv.specs.Stretches.{SumPlace, SumStretch, SumTimeIn}

pub reads_fit : (z : Sizes) (end : ℚ) (ps : List Piece) (t : ℚ) → SumTimeIn z end t → SumWindow z end ps → ReadFits ps t
reads_fit z end [] t T W = tt
reads_fit z end (p ∷ ps) t T W = λ h. line_fits_at z end t (line_in (p ∷ ps) t) T.limited (sum_line_in z end t (p ∷ ps) W) T.start

pub pieces_go : (ps : List Piece) (t : ℚ) (s : Stretch) → StartsAtZero ps → int (pos 0) ≤ℚ t → s.at ≡ read ps t → s.line ≡ line_in ps t → s.next ≡ next_in ps t None → GoesOn (read ps) t s
pieces_go ps t s starts low at line next = record {
  at = at;
  line = λ u l b. reads_on ps t u None starts low l (subst (IsBeforeNext u) next b) ∙ ap (λ o. line_value o u) (sym line);
  next = subst (IsBeforeNext t) (sym next) (next_past ps t None tt);
}

pub pieces_stand : (z : Sizes) (end : ℚ) (ps : List Piece) (t : ℚ) (s : Stretch) → SumTimeIn z end t → SumWindow z end ps → s.at ≡ read ps t → s.line ≡ line_in ps t → s.next ≡ next_in ps t None
    → SumStretch z t s
pieces_stand z end ps t s T W at line next = record {
  at = subst (SumValueAt z t) (sym at) (sum_read z end t ps T.limited W T.start);
  line = subst (SumLineAt z) (sym line) (sum_line_in z end t ps W);
  next = subst (AtNext (SumPlace z)) (sym next)
      (next_all (SumPlace z) ps t None (each_map (SumPiece z end) (λ p. SumPlace z p.x) (λ p P. P.start.place) ps W.each) tt);
}
