-- The deconvolution of two operands' windows, as pieces. (Le Boudec and Thiran, chapter 3; the form is own choice.)
use Rattle.std.specs.Prelude.{◌≡◌, ◌⊎◌, pos, List}
use Rattle.rational.specs.Rational.{ℚ, ◌+ℚ◌, ◌-ℚ◌, ◌≤ℚ◌, ◌<ℚ◌, neg_ℚ, int}
use Rattle.rational.specs.Grid.{Whole}
use Rattle.rational.specs.Extended.{Ext, ◌-ₑ◌}
use Rattle.rational.specs.declared.Extended.TheVariants.{Fin, Inf}
use Rattle.rational.specs.Bounds.{IsInfimum, IsSupremum}
use Rattle.upp_curve.specs.declared.affine_segment.line.Piece.{Piece}
use Rattle.upp_curve.specs.affine_segment.Values.{line_value}
use Rattle.upp_limits.specs.Limits.{Sizes}
use Rattle.upp_curve.specs.affine_segment.Pieces.{Each, StartsAtZero}
use Rattle.upp_normal.specs.Normalising.{OnGridsUnlessLine}
use Rattle.upp_normal.specs.Operand.{AreLimited, OperandPieces, answer_room}
use Rattle.upp_curve.specs.affine_segment.Reading.{read}
use Rattle.upp_curve.specs.Curve.{repeated}
use Rattle.upp_normal.specs.Room.{PieceHasRoom}
use Rattle.upp_limits.specs.Sized.{ValueStands, grid_of}
use Rattle.element_envelope.specs.SumWindows.{SumWindow}
use Rattle.element_envelope.specs.Arches.{Arches}
use Rattle.curve_call.specs.Tails.{TailOf}

-- ---- pairs of times
-- a time u from 0 on and up to `reach` at which g is finite, and f at t + u
pub record EarlyPair (f g : ℚ → Ext) (reach t : ℚ) : Type 0 where
  pub at : ℚ
  pub nonneg : int (pos 0) ≤ℚ at
  pub most : at ≤ℚ reach
  pub value : ℚ
  pub value_is : f (t +ℚ at) ≡ Fin value
  pub level : ℚ
  pub level_is : g at ≡ Fin level

-- v is the infimum of g (u) - f (t + u) over them
abbrev pub IsLeastPair : (ℚ → Ext) → (ℚ → Ext) → ℚ → ℚ → Ext → Type 0
IsLeastPair f g reach t v = IsInfimum {I = EarlyPair f g reach t} (λ u. Fin (u.level -ℚ u.value)) v

-- a time u from 0 on and up to `reach` at which g is finite
pub record EarlyTime (g : ℚ → Ext) (reach : ℚ) : Type 0 where
  pub at : ℚ
  pub nonneg : int (pos 0) ≤ℚ at
  pub most : at ≤ℚ reach
  pub level : ℚ
  pub is : g at ≡ Fin level

-- v is the supremum of f (t + u) - g (u) over them
abbrev pub IsEarlySupremum : (ℚ → Ext) → (ℚ → Ext) → ℚ → ℚ → Ext → Type 0
IsEarlySupremum f g reach t v = IsSupremum {I = EarlyTime g reach} (λ u. f (t +ℚ u.at) -ₑ u.level) v

-- ---- where f is infinite
-- at some time from t on and before `end`
pub record IsInfiniteFrom (f : ℚ → Ext) (t end : ℚ) : Type 0 where
  pub at : ℚ
  pub late : t ≤ℚ at
  pub early : at <ℚ end
  pub top : f at ≡ Inf

-- at none
abbrev pub IsFiniteFrom : (ℚ → Ext) → ℚ → ℚ → Type 0
IsFiniteFrom f t end = (s : ℚ) → t ≤ℚ s → s <ℚ end → (v : ℚ) × (f s ≡ Fin v)

-- ---- the operands
-- the unrolled pieces of two operands of one call, below the end of its window; how far past a time the first is read;
-- the values just after the second's starts; and the second is finite before the end
pub record OperandWindows (end reach : ℚ) (f g : List Piece) : Type 0 where
  pub sizes : Sizes
  pub limited : AreLimited sizes end
  pub some : int (pos 0) <ℚ reach
  pub early : reach <ℚ end
  pub whole : Whole sizes.dt reach
  pub left : OperandPieces sizes end f
  pub right : OperandPieces sizes end g
  pub after : Each (λ p. ValueStands sizes (line_value p.line p.x)) g
  pub finite : IsFiniteFrom (read g) (int (pos 0)) end

-- ---- what is read
-- infinity where f is, and else the least of the pairs
abbrev pub IsRaised : (ℚ → Ext) → (ℚ → Ext) → ℚ → ℚ → ℚ → Ext → Type 0
IsRaised f g reach end t v = IsInfiniteFrom f t end × (v ≡ Inf) ⊎ IsFiniteFrom f t end × IsLeastPair f g reach t v

-- infinity where f is, and else the supremum, which is a number
pub record IsNumberedSupremum (f g : ℚ → Ext) (reach t : ℚ) (v : Ext) : Type 0 where
  pub supremum : IsEarlySupremum f g reach t v
  pub level : ℚ
  pub is : v ≡ Fin level

abbrev pub IsReached : (ℚ → Ext) → (ℚ → Ext) → ℚ → ℚ → ℚ → Ext → Type 0
IsReached f g reach end t v =
    IsInfiniteFrom f t end × (v ≡ Inf) ⊎ IsFiniteFrom f t end × IsNumberedSupremum f g reach t v

-- ---- windows
-- pieces from 0 on that stand where what elements make stands, and bend only downwards between the times of the grid
pub record StandsAndArches (end reach : ℚ) (f g ps : List Piece) : Type 0 where
  pub stands : (r : OperandWindows end reach f g) → SumWindow r.sizes end ps
  pub arches : (r : OperandWindows end reach f g) → Arches r.sizes.dt end (read ps)

-- pieces that at `reach` after t read as the least of the pairs
pub record IsPairsWindow (end reach : ℚ) (f g ps : List Piece) : Type 0 where
  pub form : StandsAndArches end reach f g ps
  pub reads : (t : ℚ) → int (pos 0) ≤ℚ t → t +ℚ reach <ℚ end
      → IsLeastPair (read f) (read g) reach t (read ps (t +ℚ reach))

-- as that, and as infinity where f is
pub record IsRaisedWindow (end reach : ℚ) (f g ps : List Piece) : Type 0 where
  pub form : StandsAndArches end reach f g ps
  pub reads : (t : ℚ) → int (pos 0) ≤ℚ t → t +ℚ reach <ℚ end
      → IsRaised (read f) (read g) reach end t (read ps (t +ℚ reach))

-- pieces from 0 on that read as the supremum; they have room, and the periods of what repeats them stand on the grids
pub record IsDeconvolutionWindow (end reach : ℚ) (f g ps : List Piece) : Type 0 where
  pub starts : StartsAtZero ps
  pub reads : (t : ℚ) → int (pos 0) ≤ℚ t → t +ℚ reach <ℚ end → IsReached (read f) (read g) reach end t (read ps t)
  pub before : Each (λ p. p.x +ℚ reach <ℚ end) ps
  pub room : (r : OperandWindows end reach f g) → Each (PieceHasRoom (answer_room r.sizes end) 1) ps
  pub grids : (r : OperandWindows end reach f g) (from period rise : ℚ) → int (pos 0) ≤ℚ from
      → TailOf r.sizes end (from +ℚ reach) period (neg_ℚ rise)
      → OnGridsUnlessLine r.sizes.dt (grid_of r.sizes) (repeated (read ps) from period rise) from period rise
