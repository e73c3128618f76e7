-- The running bounds of a curve as curves, and the number of periods that the supremum needs. Own choice.
use Rattle.std.specs.Prelude.{◌≡◌, ℕ, List, ◌∷◌, ◌++◌}
use Rattle.rational.specs.Rational.{ℚ, ◌≤ℚ◌, ◌<ℚ◌}
use Rattle.upp_curve.specs.declared.affine_segment.line.Piece.{Piece}
use Rattle.upp_limits.specs.declared.op_kind.OpKind.TheVariants.{RunSup}
use Rattle.upp_curve.specs.Curve.{SpecCurve, value_at}
use Rattle.min_plus.specs.Functions.{zero_q}
use Rattle.upp_curve.specs.affine_segment.Pieces.{Each}
use Rattle.upp_limits.specs.Periods.{own_period}
use Rattle.min_plus.specs.Running.{IsRunningSupremum, IsRunningInfimum}
use Rattle.upp_curve.specs.Steady.{steady, rise_over}
use Rattle.upp_limits.specs.Windows.{IsLeast, Meets}
use Rattle.plain_operators.specs.running.Periods.{IsCoveredAfter}

-- c is the running supremum of f at each time from 0 on
abbrev pub RunsUpTo : SpecCurve → SpecCurve → Type 0
RunsUpTo f c = (t : ℚ) → zero_q ≤ℚ t → IsRunningSupremum (value_at f) t (value_at c t)

-- c is the running infimum of f at each time from 0 on
abbrev pub RunsFrom : SpecCurve → SpecCurve → Type 0
RunsFrom f c = (t : ℚ) → zero_q ≤ℚ t → IsRunningInfimum (value_at f) t (value_at c t)

-- k is the least number of periods of the running supremum of f
pub record IsNumberOf (f : SpecCurve) (k : ℕ) : Type 0 where
  pub least : IsLeast (Meets RunSup f f) k
  pub covered : IsCoveredAfter f (steady f) (own_period f) (rise_over f (own_period f)) k

-- front is the first of ps, all before `end`; what is left starts at `end` or later
pub record IsFrontBefore (ps : List Piece) (end : ℚ) (front : List Piece) : Type 0 where
  pub before : Each (λ p. p.x <ℚ end) front
  pub rest : List Piece
  pub whole : front ++ rest ≡ ps
  pub late : (p : Piece) (more : List Piece) → rest ≡ p ∷ more → end ≤ℚ p.x
