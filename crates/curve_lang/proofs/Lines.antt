-- The lines of a curve are readable where their pieces start.
use Rattle.std.specs.Prelude.{List, [], ◌∷◌, Option}
use Rattle.rational.specs.Rational.{ℚ}
use Rattle.upp_curve.specs.declared.affine_segment.line.Piece.{Piece}
use Rattle.upp_curve.specs.affine_segment.Fits.{LineFitsAt}
use Rattle.upp_curve.specs.affine_segment.Pieces.{Each}
use Rattle.upp_curve.specs.declared.curve.Tail.{Tail}
use Rattle.upp_curve.specs.declared.curve.Tail.TheVariants.{Periodic, Affine, Infinite}
use Rattle.upp_curve.specs.Readable.{EachFits, TailReadable}

each_start : (end : Option ℚ) (ps : List Piece) → EachFits end ps → Each (λ p. LineFitsAt p.x p.line) ps
each_start end [] h = tt
each_start end (p ∷ ps) h = (h.0, each_start end ps h.2)

pub starts_fit : (ps : List Piece) (tail : Tail) → TailReadable ps tail → Each (λ p. LineFitsAt p.x p.line) ps
starts_fit ps (Periodic rank period rise) h = each_start _ ps h.lines
starts_fit ps (Affine rank) h = each_start _ ps h
starts_fit ps (Infinite rank) h = each_start _ ps h
