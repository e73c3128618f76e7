-- By how much pieces gain at most more than with some slope, over any time. (Le Boudec and Thiran, chapter 1: a bucket that bounds a
-- function; the form is our own choice.)
use Rattle.std.specs.Prelude.{◌≡◌, pos, List, [], ◌∷◌, Some}
use Rattle.rational.specs.Rational.{ℚ, ◌+ℚ◌, ◌-ℚ◌, ◌*ℚ◌, ◌≤ℚ◌, int}
use Rattle.rational.specs.declared.Extended.TheVariants.{Fin}
use Rattle.upp_curve.specs.declared.affine_segment.line.Line.{Line}
use Rattle.upp_curve.specs.declared.affine_segment.line.Piece.{Piece}
use Rattle.upp_curve.specs.affine_segment.Values.{line_at}
use Rattle.element_envelope.specs.declared.pace.Seen.{Seen}

-- where the piece before these ends
abbrev pub stretch_end : List Piece → ℚ → ℚ
stretch_end [] end = end
stretch_end (p ∷ ps) end = p.x

-- less what the slope r gains from 0 on, the piece starts nowhere below k, and is up to `until` nowhere more than a above k; k is at
-- most `low`
pub record IsCapped (r a low until : ℚ) (p : Piece) (k : ℚ) : Type 0 where
  pub line : Line
  pub line_is : p.line ≡ Some line
  pub value : ℚ
  pub at_is : p.at ≡ Fin value
  pub lower : k ≤ℚ low
  pub start : k ≤ℚ value -ℚ r *ℚ p.x
  pub at : value -ℚ r *ℚ p.x ≤ℚ k +ℚ a
  pub after : line_at line p.x -ℚ r *ℚ p.x ≤ℚ k +ℚ a
  pub before : line_at line until -ℚ r *ℚ until ≤ℚ k +ℚ a

-- each piece, where k never rises from one to the next
abbrev pub AreCapped : ℚ → ℚ → ℚ → ℚ → List Piece → Type 0
AreCapped r a end low [] = Unit {0}
AreCapped r a end low (p ∷ ps) = (k : ℚ) × IsCapped r a low (stretch_end ps end) p k × AreCapped r a end k ps

-- so pieces gain at most a more than with the slope r, before `end`
pub record IsPaceOf (r a end : ℚ) (ps : List Piece) : Type 0 where
  pub some : int (pos 0) ≤ℚ a
  pub low : ℚ
  pub capped : AreCapped r a end low ps

-- after one piece more
pub record IsSeen (r until : ℚ) (p : Piece) (old new : Seen) : Type 0 where
  pub most : old.more ≤ℚ new.more
  pub capped : (a : ℚ) → new.more ≤ℚ a → IsCapped r a old.low until p new.low
