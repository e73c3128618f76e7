-- The curve of steps, and what is read of a curve that has only steps.
use Rattle.std.specs.Prelude.{◌≡◌, ◌⊎◌, ℕ, ◌<◌, ◌^◌, pos, List, [], ◌∷◌, map, All}
use Rattle.rational.specs.Rational.{ℚ, over, ◌<ℚ◌}
use Rattle.rational.specs.Extended.{Ext}
use Rattle.min_plus.specs.Functions.{zero_q}
use Rattle.upp_curve.specs.declared.affine_segment.line.Piece.{Piece}
use Rattle.upp_curve.specs.affine_segment.Pieces.{Each, HasStart, StartsAtZero}
use Rattle.upp_curve.specs.declared.curve.Tail.TheVariants.{Affine}
use Rattle.upp_curve.specs.Curve.{SpecCurve}
use Rattle.upp_curve.specs.Kinds.{flat}
use Rattle.run_laws.specs.Cards.{whole}
use Rattle.measure_curve.specs.Windows.{RisesAt}
use Rattle.packet_windows.specs.declared.windows.Window.{Window}
use Rattle.packet_windows.specs.Scans.{last_length}

-- ---- the pieces of a curve as the times at which it rises
-- each starts at 0 or where the curve rises, with its value there, and one starts wherever it rises
pub record TellRises (m : ℚ → Ext) (ps : List Piece) : Type 0 where
  pub ordered : StartsAtZero ps
  pub values : Each (λ p. p.at ≡ m p.x) ps
  pub each : Each (λ p. (p.x ≡ zero_q) ⊎ RisesAt m p.x) ps
  pub all : (x : ℚ) → zero_q <ℚ x → RisesAt m x → HasStart x ps

-- ---- the curve of steps
-- a number of steps of 1 / grid as a time
abbrev pub time_of : ℕ → ℕ → ℚ
time_of grid n = over (pos n) grid

abbrev pub piece_of : ℕ → Window → Piece
piece_of grid w = flat (time_of grid w.length) (whole w.bits)

abbrev pub staircase : ℕ → List Window → SpecCurve
staircase grid ws = record { pieces = map (piece_of grid) ws; tail = Affine (time_of grid (last_length 0 ws)) }

-- each is longer than the one before, and has more bits
abbrev pub StepUp : ℕ → ℕ → List Window → Type 0
StepUp length bits [] = Unit {0}
StepUp length bits (w ∷ ws) = (length < w.length) × (bits < w.bits) × StepUp w.length w.bits ws

-- the first at 0, each later and higher than the one before; all of them fit
abbrev pub AreSteps : List Window → Type 0
AreSteps [] = ⊥
AreSteps (w ∷ ws) = (w.length ≡ 0) × StepUp 0 w.bits ws

pub record Fit (grid : ℕ) (ws : List Window) : Type 0 where
  pub some : 0 < grid
  pub narrow : grid < 2 ^ 127
  pub steps : AreSteps ws
  pub narrow_steps : All (λ w. (w.length < 2 ^ 127) × (w.bits < 2 ^ 64)) ws
