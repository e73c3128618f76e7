-- The lowest of some pieces of a window from each time on, where they go on for ever by repeating, a rise higher each
-- period: the scan ends with a level, the infimum of all that comes after the window. Own choice.
use Rattle.std.specs.Prelude.{◌≡◌, ℕ, pos, List, [], ◌∷◌, ◌++◌, Some}
use Rattle.rational.specs.Rational.{ℚ, ◌+ℚ◌, ◌*ℚ◌, ◌≤ℚ◌, ◌<ℚ◌, int}
use Rattle.rational.specs.MinMax.{min_q}
use Rattle.rational.specs.Grid.{Whole, Within}
use Rattle.rational.specs.Extended.{◌≤ₑ◌}
use Rattle.rational.specs.declared.Extended.TheVariants.{Fin}
use Rattle.upp_curve.specs.declared.affine_segment.line.Line.{Line}
use Rattle.upp_curve.specs.declared.affine_segment.line.Piece.{Piece}
use Rattle.upp_curve.specs.affine_segment.Values.{line_value}
use Rattle.min_plus.specs.Functions.{zero_q}
use Rattle.upp_curve.specs.affine_segment.Pieces.{Each, StartsAtZero}
use Rattle.upp_curve.specs.affine_segment.Reading.{read}
use Rattle.upp_curve.specs.Steady.{last_line}
use Rattle.upp_limits.specs.Limits.{Sizes}
use Rattle.upp_normal.specs.Operand.{AreLimited}
use Rattle.plain_operators.specs.running.Scans.{flat, IsInfimumUntil}
use Rattle.plain_operators.specs.running.Made.{IsInfimumScan}
use Rattle.plain_operators.specs.running.Runs.{IsFrontBefore}
use Rattle.upp_normal.specs.Ahead.{AnswerValue}

-- ---- sizes
-- a line: its value at 0 is such a value, its slope is within the steepness
pub record SumLine (z : Sizes) (k : ℕ) (l : Line) : Type 0 where
  pub icept : AnswerValue z k l.icept
  pub slope : Whole z.ds l.slope
  pub steep : Within (int (pos z.steepness)) l.slope

-- a finite piece with such numbers
pub record SumPiece (z : Sizes) (end : ℚ) (p : Piece) : Type 0 where
  pub start : Whole z.dt p.x
  pub nonneg : zero_q ≤ℚ p.x
  pub early : p.x ≤ℚ end
  pub value : ℚ
  pub at : p.at ≡ Fin value
  pub value_stands : AnswerValue z 6 value
  pub on : Line
  pub line : p.line ≡ Some on
  pub line_stands : SumLine z 6 on

-- ---- the call
abbrev pub level_piece : ℚ → ℚ → Piece
level_piece x v = record { x = x; at = Fin v; line = Some (flat v) }

pub record IsLowestCall (z : Sizes) (ps : List Piece) (from end far rise : ℚ) : Type 0 where
  pub limited : AreLimited z end
  pub starts : StartsAtZero ps
  pub before : Each (λ p. p.x <ℚ end) ps
  pub each : Each (SumPiece z end) ps
  pub nonneg : (t : ℚ) → zero_q ≤ℚ t → t <ℚ end → Fin zero_q ≤ₑ read ps t
  pub last_value : (v : ℚ) → line_value (last_line ps) end ≡ Fin v → AnswerValue z 6 v
  pub from_whole : Whole z.dt from
  pub from_low : zero_q ≤ℚ from
  pub from_early : from <ℚ end
  pub rise_stands : AnswerValue z 6 rise
  pub rise_low : zero_q ≤ℚ rise
  pub far_whole : Whole z.dt far
  pub far_late : end <ℚ far
  pub far_near : far ≤ℚ int (pos 2) *ℚ end

-- pieces, and a level from `end` on
abbrev pub with_level : List Piece → ℚ → ℚ → List Piece
with_level ps end level = ps ++ level_piece end level ∷ []

-- what a scan up to `far` finds, up to the first that starts at `end` or later
pub record IsLowestBefore (ps : List Piece) (end far : ℚ) (qs : List Piece) : Type 0 where
  pub scanned : List Piece
  pub scan : IsInfimumScan ps far scanned
  pub front : IsFrontBefore scanned end qs

-- `low` is the infimum from `from` on, and a rise higher it is that from `end` on; the scan is that of the pieces and
-- of a level from `end` up to `far`: `low` a rise higher, or the limit at `end` where that is less
pub record IsLowest (ps : List Piece) (from end far rise : ℚ) (qs : List Piece) : Type 0 where
  pub low : ℚ
  pub first : IsInfimumUntil (read ps) end from (Fin low)
  pub limit : ℚ
  pub limit_is : line_value (last_line ps) end ≡ Fin limit
  pub stands : (z : Sizes) → IsLowestCall z ps from end far rise → AnswerValue z 6 (min_q (low +ℚ rise) limit)
  pub scanned : List Piece
  pub scan : IsInfimumScan (ps ++ level_piece end (min_q (low +ℚ rise) limit) ∷ []) far scanned
  pub front : IsFrontBefore scanned end qs
