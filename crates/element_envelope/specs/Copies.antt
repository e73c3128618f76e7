-- Copies of pieces, each moved to the start of another piece and as high as the value there: their least, and when it is
-- the convolution. (Bouillard, Boyer and Le Corronc: the convolution of piecewise linear functions; the law is our own
-- choice.)
use Rattle.std.specs.Prelude.{◌⊎◌, ◌≡◌, pos, List, [], ◌∷◌, ◌++◌, Option, None}
use Rattle.rational.specs.Rational.{ℚ, ◌-ℚ◌, ◌≤ℚ◌, ◌<ℚ◌, int}
use Rattle.rational.specs.Extended.{Ext, ◌≤ₑ◌, ◌+ₑ◌, min_ext}
use Rattle.rational.specs.declared.Extended.TheVariants.{Inf}
use Rattle.rational.specs.Bounds.{IsInfimum}
use Rattle.upp_curve.specs.declared.affine_segment.line.Line.{Line}
use Rattle.upp_curve.specs.declared.affine_segment.line.Piece.{Piece}
use Rattle.upp_curve.specs.affine_segment.Pieces.{StartsAtZero}
use Rattle.upp_curve.specs.affine_segment.Reading.{read}
use Rattle.upp_curve.specs.affine_segment.Values.{line_value}
use Rattle.min_plus.specs.Convolution.{IsConvolution}

-- ---- the least of the copies
-- p is one of these
abbrev pub IsPieceOf : Piece → List Piece → Type 0
IsPieceOf p [] = ⊥
IsPieceOf p (q ∷ qs) = (p ≡ q) ⊎ IsPieceOf p qs

-- one of some pieces that starts at t or before
pub record StartSplit (ps : List Piece) (t : ℚ) : Type 0 where
  pub piece : Piece
  pub among : IsPieceOf piece ps
  pub late : piece.x ≤ℚ t

-- its value at its start, and what g is at the time that is left
abbrev pub start_sum : (ps g : List Piece) (t : ℚ) → StartSplit ps t → Ext
start_sum ps g t s = s.piece.at +ₑ read g (t -ℚ s.piece.x)

-- v is the infimum of those sums
abbrev pub IsLeastCopy : List Piece → List Piece → ℚ → Ext → Type 0
IsLeastCopy ps g t v = IsInfimum (start_sum ps g t) v

-- ---- when it is the convolution
-- at each start the value is at most the limits before and after it: that before the first is of the line `before`
abbrev pub LowAfter : Option Line → List Piece → Type 0
LowAfter before [] = Unit {0}
LowAfter before (p ∷ ps) =
    (p.at ≤ₑ line_value before p.x) × (p.at ≤ₑ line_value p.line p.x) × LowAfter p.line ps

abbrev pub LowAtStarts : List Piece → Type 0
LowAtStarts ps = LowAfter None ps

-- of two such functions the lesser of the copies of the one at the starts of the other, and of those of the other at
-- the starts of the one, is the convolution
abbrev pub StartsSuffice : Type 0
StartsSuffice =
    (f g : List Piece) (t : ℚ) (v w : Ext) → StartsAtZero f → StartsAtZero g → LowAtStarts f → LowAtStarts g
    → int (pos 0) ≤ℚ t → IsLeastCopy f g t v → IsLeastCopy g f t w → IsConvolution (read f) (read g) t (min_ext v w)

-- of no copy infinity; of one copy what is read of it, from its start on; of two parts of the starts the lesser
pub record CopyRules : Type 0 where
  pub none : (g : List Piece) (t : ℚ) → IsLeastCopy [] g t Inf
  pub late : (p : Piece) (g : List Piece) (t : ℚ) → t <ℚ p.x → IsLeastCopy (p ∷ []) g t Inf
  pub one : (p : Piece) (g : List Piece) (t : ℚ) → p.x ≤ℚ t → IsLeastCopy (p ∷ []) g t (p.at +ₑ read g (t -ℚ p.x))
  pub parts : (ps qs g : List Piece) (t : ℚ) (v w : Ext) → IsLeastCopy ps g t v → IsLeastCopy qs g t w
      → IsLeastCopy (ps ++ qs) g t (min_ext v w)
