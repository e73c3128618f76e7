-- Two windows for tests: a level at 1, and a ramp that rises by 1. They meet at 1.
use Rattle.std.specs.Prelude.{pos, List, [], ◌∷◌, Some}
use Rattle.rational.specs.Rational.{int}
use Rattle.rational.specs.declared.Extended.TheVariants.{Fin}
use Rattle.upp_curve.specs.declared.affine_segment.line.Piece.{Piece}

abbrev pub level_pieces : List Piece
level_pieces = record {
  x = int (pos 0);
  at = Fin (int (pos 1));
  line = Some record { icept = int (pos 1); slope = int (pos 0) };
} ∷ []

abbrev pub ramp_pieces : List Piece
ramp_pieces = record {
  x = int (pos 0);
  at = Fin (int (pos 0));
  line = Some record { icept = int (pos 0); slope = int (pos 1) };
} ∷ []
