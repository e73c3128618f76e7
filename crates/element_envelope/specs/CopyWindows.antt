-- The least of copies of a window, as pieces. Own choice.
use Rattle.std.specs.Prelude.{◌≡◌, pos, List, [], ◌∷◌}
use Rattle.rational.specs.Rational.{ℚ, ◌≤ℚ◌, ◌<ℚ◌, int}
use Rattle.rational.specs.declared.Extended.TheVariants.{Fin}
use Rattle.upp_curve.specs.declared.affine_segment.line.Piece.{Piece}
use Rattle.upp_curve.specs.affine_segment.Pieces.{Each, StartsAtZero}
use Rattle.upp_curve.specs.affine_segment.Reading.{read}
use Rattle.upp_limits.specs.Limits.{Sizes}
use Rattle.upp_normal.specs.Operand.{AreLimited}
use Rattle.curve_call.specs.Lower.{IsLowerOf}
use Rattle.element_envelope.specs.SumWindows.{SumWindow}
use Rattle.element_envelope.specs.Arches.{Arches}
use Rattle.element_envelope.specs.ConvolutionWindows.{WindowPiece, WindowPieces}
use Rattle.element_envelope.specs.Copies.{IsLeastCopy}
use Rattle.element_envelope.specs.ElementRoom.{WindowTime}

-- pieces of one window of a call, at the starts of which copies of the other begin, for a window that ends after 0 and is read
-- from `from` on
pub record CopyRoom (from end : ℚ) (ps g : List Piece) : Type 0 where
  pub sizes : Sizes
  pub limited : AreLimited sizes end
  pub some : int (pos 0) <ℚ end
  pub late : WindowTime sizes end from
  pub starts : Each (WindowPiece sizes end) ps
  pub copied : WindowPieces sizes end g

-- pieces from 0 on that read, from `from` on and before the end, as the least of the copies; they stand where what elements
-- make stands, and bend only downwards between the times of the grid
pub record IsCopyWindow (from end : ℚ) (ps g qs : List Piece) : Type 0 where
  pub starts : StartsAtZero qs
  pub reads : (t : ℚ) → int (pos 0) ≤ℚ t → from ≤ℚ t → t <ℚ end → IsLeastCopy ps g t (read qs t)
  pub stands : (r : CopyRoom from end ps g) → SumWindow r.sizes end qs
  pub arches : (r : CopyRoom from end ps g) → Arches r.sizes.dt end (read qs)

-- the sizes of one call hold a window's pieces
pub record HaveWindowRoom (end : ℚ) (ps : List Piece) : Type 0 where
  pub sizes : Sizes
  pub limited : AreLimited sizes end
  pub each : Each (WindowPiece sizes end) ps

-- ---- beside a copy at one start
-- a copy at this start is moved nowhere
pub record IsUnmoved (p : Piece) : Type 0 where
  pub start : p.x ≡ int (pos 0)
  pub at : p.at ≡ Fin (int (pos 0))

-- pieces stand where what elements make stands, within the sizes of the copy
pub record CopyBeside (from end : ℚ) (ms : List Piece) (p : Piece) (g : List Piece) : Type 0 where
  pub room : CopyRoom from end (p ∷ []) g
  pub made : SumWindow room.sizes end ms

-- the lesser of those and of the copy
pub record IsLowerWithCopy (from end : ℚ) (ms : List Piece) (p : Piece) (g qs : List Piece) : Type 0 where
  pub copy : List Piece
  pub is : IsCopyWindow from end (p ∷ []) g copy
  pub lower : IsLowerOf ms copy end qs
