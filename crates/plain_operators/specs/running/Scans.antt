-- Finite pieces scanned one by one, up to an end: the stretches between their starts, the levels that are compared on
-- the way, and the bounds that come out. Own choice.
use Rattle.std.specs.Prelude.{◌≡◌, ℕ, ◌+◌, List, [], ◌∷◌, drop, Some, ◌⊎◌, pos}
use Rattle.rational.specs.Rational.{ℚ, ◌≤ℚ◌, ◌<ℚ◌, int}
use Rattle.rational.specs.Extended.{Ext}
use Rattle.rational.specs.Bounds.{IsInfimum, IsSupremum}
use Rattle.rational.specs.declared.Extended.TheVariants.{Fin}
use Rattle.upp_curve.specs.declared.affine_segment.line.Line.{Line}
use Rattle.upp_curve.specs.declared.affine_segment.line.Piece.{Piece}
use Rattle.fraction128.specs.declared.fault.Wide.{Wide}
use Rattle.upp_curve.specs.affine_segment.Values.{line_at, line_value}
use Rattle.upp_curve.specs.affine_segment.Steps.{IsWideCross}
use Rattle.upp_curve.specs.affine_segment.Reading.{read}
use Rattle.upp_curve.specs.affine_segment.Pieces.{Each, HasStart, StartsAtZero}
use Rattle.upp_curve.specs.Readable.{EachFits}
use Rattle.upp_curve.specs.affine_segment.Fits.{LineFits}
use Rattle.upp_curve.specs.Shapes.{IsFinitePiece}
use Rattle.plain_operators.specs.declared.running.stretch.Stretch.{Stretch}

-- where the first of some pieces starts, and `end` where there is none
abbrev pub start_or : ℚ → List Piece → ℚ
start_or end [] = end
start_or end (p ∷ ps) = p.x

-- finite pieces from 0 on, all before `end`
pub record IsWindow (end : ℚ) (ps : List Piece) : Type 0 where
  pub starts : StartsAtZero ps
  pub before : Each (λ p. p.x <ℚ end) ps
  pub finite : Each IsFinitePiece ps

-- v is the value of a piece at its start, or the limit of its line there or at its end
abbrev pub IsLevel : ℚ → List Piece → ℚ → Type 0
IsLevel end [] v = ⊥
IsLevel end (p ∷ ps) v = (p.at ≡ Fin v)
    ⊎ ((line_value p.line p.x ≡ Fin v) ⊎ ((line_value p.line (start_or end ps) ≡ Fin v) ⊎ IsLevel end ps v))

-- some piece has the line l
abbrev pub HasLine : Line → List Piece → Type 0
HasLine l [] = ⊥
HasLine l (p ∷ ps) = (p.line ≡ Some l) ⊎ HasLine l ps

-- a line that is level
abbrev pub flat : ℚ → Line
flat v = record { icept = v; slope = int (pos 0) }

-- no step that finds where l comes to the level v is too wide
abbrev pub MeetingFits : ℚ → Line → Type 0
MeetingFits v l = (w : Wide) → ¬ (IsWideCross l (flat v) w)

-- the steps of a scan fit
pub record ScanFits (end : ℚ) (ps : List Piece) : Type 0 where
  pub lines : EachFits (Some end) ps
  pub meetings : (l : Line) (v : ℚ) → HasLine l ps → IsLevel end ps v → int (pos 0) <ℚ l.slope → MeetingFits v l

-- a piece with its end and the limits of its line at both
pub record IsStretch (ps : List Piece) (end : ℚ) (i : ℕ) (s : Stretch) : Type 0 where
  pub from : s.from ≡ start_or end (drop i ps)
  pub to : s.to ≡ start_or end (drop (i + 1) ps)
  pub some : s.from <ℚ s.to
  pub nonneg : int (pos 0) ≤ℚ s.from
  pub most : s.to ≤ℚ end
  pub at : read ps s.from ≡ Fin s.at
  pub on : (t : ℚ) → s.from <ℚ t → t <ℚ s.to → read ps t ≡ Fin (line_at s.line t)
  pub right : s.right ≡ line_at s.line s.from
  pub left : s.left ≡ line_at s.line s.to
  pub right_fits : LineFits s.from s.line
  pub left_fits : LineFits s.to s.line
  pub start : HasStart s.from ps
  pub line : HasLine s.line ps
  pub at_level : IsLevel end ps s.at
  pub right_level : IsLevel end ps s.right
  pub left_level : IsLevel end ps s.left

-- a time from t on that is before `end`
pub record Until (t end : ℚ) : Type 0 where
  pub at : ℚ
  pub least : t ≤ℚ at
  pub early : at <ℚ end

-- v is the infimum of f over the times from t on that are before `end`
abbrev pub IsInfimumUntil : (ℚ → Ext) → ℚ → ℚ → Ext → Type 0
IsInfimumUntil f end t v = IsInfimum {I = Until t end} (λ s. f s.at) v

-- v is the supremum of f over the times from `from` on that are before `to`
abbrev pub IsSupremumIn : (ℚ → Ext) → ℚ → ℚ → Ext → Type 0
IsSupremumIn f from to v = IsSupremum {I = Until from to} (λ s. f s.at) v
