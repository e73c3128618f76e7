-- Packets whose bits are counted in steps of a stair against a line under the stair: where the line at d is at least a whole number,
-- the stair has one step more than that number. Own choice.
use Rattle.std.specs.Prelude.{◌≡◌, ℕ, suc, pos, ◌<◌, List, [], ◌∷◌, length, drop, unwrap_or}
use Rattle.rational.specs.Rational.{ℚ, int, ◌+ℚ◌, ◌*ℚ◌, ◌≤ℚ◌, ◌<ℚ◌}
use Rattle.rational.specs.Extended.{Ext, ◌≤ₑ◌}
use Rattle.rational.specs.declared.Extended.TheVariants.{Fin}
use Rattle.upp_curve.specs.declared.affine_segment.line.Piece.{Piece}
use Rattle.upp_curve.specs.affine_segment.Reading.{piece_value}
use Rattle.run_laws.specs.Cards.{whole}
use Rattle.flow_watch.specs.watch_laws.Segments.{next_start}

-- ---- pieces
-- so many steps fit under v
pub record IsCount (height v count : ℚ) : Type 0 where
  pub number : ℕ
  pub is : count ≡ whole number
  pub under : count *ℚ height ≤ℚ v

-- wherever the piece is read, it has so many steps
pub record HasSteps (height : ℚ) (p : Piece) (count : ℚ) : Type 0 where
  pub number : ℕ
  pub is : count ≡ whole number
  pub under : (d : ℚ) → int (pos 0) ≤ℚ d → Fin (count *ℚ height) ≤ₑ piece_value p d

-- where the piece ends the line is at most so many steps
pub record IsStep (height slack rate : ℚ) (p : Piece) (end : ℚ) : Type 0 where
  pub count : ℚ
  pub steps : HasSteps height p count
  pub line : slack +ℚ rate *ℚ end ≤ℚ count

-- so at the first of some pieces, each of which ends where the next one starts, and the last at `end`
abbrev pub IsStepAt : ℚ → ℚ → ℚ → ℚ → List Piece → Type 0
IsStepAt height slack rate end [] = Unit {0}
IsStepAt height slack rate end (p ∷ ps) = IsStep height slack rate p (unwrap_or (next_start ps) end)

-- all pieces have their steps over a line that rises from 0 or above
pub record IsStair (height slack rate end : ℚ) (ps : List Piece) : Type 0 where
  pub high : int (pos 0) <ℚ height
  pub rises : int (pos 0) <ℚ rate
  pub some : int (pos 0) ≤ℚ slack
  pub steps : (i : ℕ) → i < length ps → IsStepAt height slack rate end (drop i ps)

-- ---- periods
-- the line rises by one step in each period, and so does the curve
pub record RisesWith (height rate period rise : ℚ) : Type 0 where
  pub one : rate *ℚ period ≡ int (pos 1)
  pub high : height ≡ rise

-- v has one step more than each whole number that the line is at least at d
abbrev pub IsClimbed : ℚ → ℚ → ℚ → ℚ → Ext → Type 0
IsClimbed height slack rate d v = (n : ℕ) → whole n ≤ℚ slack +ℚ rate *ℚ d → Fin (whole (suc n) *ℚ height) ≤ₑ v
