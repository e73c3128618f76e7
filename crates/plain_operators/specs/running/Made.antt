-- What the pieces of a scan are made of: levels, lines of the scanned pieces, and the times at which the two meet.
-- Own choice.
use Rattle.std.specs.Prelude.{◌≡◌, ◌*◌, ◌≤◌, Bool, true, false, List, [], ◌∷◌, length, Option, Some, None, IfSome, ◌⊎◌, pos}
use Rattle.rational.specs.Rational.{ℚ, ◌≤ℚ◌, ◌<ℚ◌, int}
use Rattle.rational.specs.declared.Extended.TheVariants.{Fin}
use Rattle.upp_curve.specs.declared.affine_segment.line.Line.{Line}
use Rattle.upp_curve.specs.declared.affine_segment.line.Piece.{Piece}
use Rattle.upp_curve.specs.affine_segment.Values.{line_at}
use Rattle.upp_normal.specs.Bends.{SlopeTurns}
use Rattle.upp_curve.specs.affine_segment.Reading.{read}
use Rattle.upp_curve.specs.affine_segment.Pieces.{Each, HasStart, StartsAtZero}
use Rattle.min_plus.specs.Running.{IsRunningSupremum}
use Rattle.plain_operators.specs.declared.running.stretch.Stretch.{Stretch}
use Rattle.plain_operators.specs.declared.running.bend.Bend.{Bend}
use Rattle.plain_operators.specs.running.Scans.{flat, IsLevel, HasLine, IsInfimumUntil}

-- x is where l, which rises, comes to the level v
pub record IsMeeting (v : ℚ) (l : Line) (x : ℚ) : Type 0 where
  pub rises : int (pos 0) <ℚ l.slope
  pub is : line_at l x ≡ v

-- v is the level or one of the limits of the stretch
abbrev pub IsOneOf : ℚ → Stretch → ℚ → Type 0
IsOneOf level s v = (v ≡ level) ⊎ ((v ≡ s.right) ⊎ (v ≡ s.left))

-- the piece that takes over starts where the stretch's line meets the level
pub record TakesOverAt (level : ℚ) (s : Stretch) (q : Piece) : Type 0 where
  pub meets : IsMeeting level s.line q.x
  pub at : q.at ≡ Fin level
  pub line : (q.line ≡ Some s.line) ⊎ (q.line ≡ Some (flat level))

-- of a bend whose slope rises where it turns (true), or falls there (false)
pub record IsMadeOf (rises : Bool) (level : ℚ) (s : Stretch) (b : Bend) : Type 0 where
  pub line : (b.line ≡ s.line) ⊎ ((v : ℚ) × (b.line ≡ flat v) × IsOneOf level s v)
  pub turn : IfSome b.turn (TakesOverAt level s)
  pub turns : IfSome b.turn (λ q. SlopeTurns rises (Some b.line) q.line)

-- ---- pieces of an answer
pub record IsMade (end : ℚ) (ps : List Piece) (q : Piece) : Type 0 where
  pub at : (v : ℚ) × (q.at ≡ Fin v) × IsLevel end ps v
  pub line : ((l : Line) × (q.line ≡ Some l) × HasLine l ps) ⊎ ((v : ℚ) × (q.line ≡ Some (flat v)) × IsLevel end ps v)
  pub start : HasStart q.x ps ⊎ ((v : ℚ) × (l : Line) × IsLevel end ps v × HasLine l ps × IsMeeting v l q.x)

-- after the line `last` each start is that of a piece of ps, or the slope rises there (true), or falls there (false)
abbrev pub TurnsAfter : Bool → List Piece → Option Line → List Piece → Type 0
TurnsAfter rises ps last [] = Unit {0}
TurnsAfter rises ps last (q ∷ qs) = (HasStart q.x ps ⊎ SlopeTurns rises last q.line) × TurnsAfter rises ps q.line qs

-- pieces from 0 on and before `end`, at most twice as many as ps has, each made of levels and lines of ps; all turns
-- go one way
pub record IsScan (rises : Bool) (ps : List Piece) (end : ℚ) (qs : List Piece) : Type 0 where
  pub starts : StartsAtZero qs
  pub before : Each (λ q. q.x <ℚ end) qs
  pub count : length qs ≤ 2 * length ps
  pub made : Each (IsMade end ps) qs
  pub turns : TurnsAfter rises ps None qs

-- at each time before `end` they read as the supremum of ps over the times up to it
pub record IsSupremumScan (ps : List Piece) (end : ℚ) (qs : List Piece) : Type 0 where
  pub scan : IsScan true ps end qs
  pub reads : (t : ℚ) → int (pos 0) ≤ℚ t → t <ℚ end → IsRunningSupremum (read ps) t (read qs t)

-- at each time before `end` they read as the infimum of ps over the times from it on that are before `end`
pub record IsInfimumScan (ps : List Piece) (end : ℚ) (qs : List Piece) : Type 0 where
  pub scan : IsScan false ps end qs
  pub reads : (t : ℚ) → int (pos 0) ≤ℚ t → t <ℚ end → IsInfimumUntil (read ps) end t (read qs t)
