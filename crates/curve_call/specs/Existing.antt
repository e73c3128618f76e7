-- There are such windows, whether or not there is memory for them. Own choice.
use Rattle.std.specs.Prelude.{true, false, List}
use Rattle.rational.specs.Rational.{ℚ}
use Rattle.rational.specs.Extended.{min_ext, max_ext}
use Rattle.upp_curve.specs.declared.affine_segment.line.Piece.{Piece}
use Rattle.upp_curve.specs.affine_segment.Pieces.{StartsAtZero}
use Rattle.min_plus.specs.Pointwise.{excess}
use Rattle.curve_call.specs.declared.stretch.Both.{Both}
use Rattle.curve_call.specs.Stretches.{IsOverlay}
use Rattle.curve_call.specs.Pointwise.{IsWindowSum}
use Rattle.curve_call.specs.Operands.{HaveSizes, IsMadeOf}
use Rattle.curve_call.specs.Lower.{LowerFits, IsLowerOf}

-- cut at each start of either
abbrev pub OverlaysExist : Type 0
OverlaysExist = (f g : List Piece) → StartsAtZero f → StartsAtZero g → (bs : List Both) × IsOverlay f g bs

abbrev pub WindowSumsExist : Type 0
WindowSumsExist = (f g : List Piece) → StartsAtZero f → StartsAtZero g → (ps : List Piece) × IsWindowSum f g ps

-- of two operands' windows the lower, the upper, and what the first has above the second
pub record HaveWindows (f g : List Piece) (end : ℚ) : Type 0 where
  pub lower : (ps : List Piece) × IsMadeOf min_ext false f g end ps
  pub upper : (ps : List Piece) × IsMadeOf max_ext true f g end ps
  pub above : (ps : List Piece) × IsMadeOf excess true f g end ps

abbrev pub MadeWindowsExist : Type 0
MadeWindowsExist = (end : ℚ) (f g : List Piece) → HaveSizes end f g → HaveWindows f g end

-- of any two the lower, where the steps of their stretches fit
abbrev pub LowerWindowsExist : Type 0
LowerWindowsExist =
    (f g : List Piece) (end : ℚ) → StartsAtZero f → StartsAtZero g → LowerFits end f g
    → (ps : List Piece) × IsLowerOf f g end ps
