-- A slower curve that is infinite for a while after 0: a late split of each time that makes no more than the one of which
-- the first side is 0. Own choice.
use Rattle.std.specs.Prelude.{◌≡◌, ℕ, pos}
use Rattle.rational.specs.Rational.{ℚ, ◌-ℚ◌, ◌≤ℚ◌, ◌<ℚ◌, int}
use Rattle.rational.specs.Grid.{Whole}
use Rattle.rational.specs.Extended.{Ext, ◌≤ₑ◌, ◌+ₑ◌}
use Rattle.rational.specs.declared.Extended.TheVariants.{Inf}
use Rattle.upp_curve.specs.Curve.{SpecCurve, value_at}
use Rattle.upp_normal.specs.Ahead.{TimesStand}
use Rattle.curve_call.specs.Gaps.{InWindow}

-- it is infinite after 0 up to `begin`, which stands on each grid of the curve
pub record IsBegun (c : SpecCurve) (begin : ℚ) : Type 0 where
  pub some : int (pos 0) <ℚ begin
  pub grid : (n : ℕ) → TimesStand n c → Whole n begin
  pub none : (t : ℚ) → int (pos 0) <ℚ t → t <ℚ begin → value_at c t ≡ Inf

-- a first side v makes no more than 0, at each time of the window
abbrev pub IsStartMoved : (f g : ℚ → Ext) → ℚ → ℚ → ℚ → Type 0
IsStartMoved f g v from end = (t : ℚ) → InWindow from end t → f v +ₑ g (t -ℚ v) ≤ₑ f (int (pos 0)) +ₑ g t

-- one that is x or later, and no later than the window begins
pub record HasLateStart (f g : ℚ → Ext) (x from end : ℚ) : Type 0 where
  pub time : ℚ
  pub late : x ≤ℚ time
  pub soon : time ≤ℚ from
  pub moved : IsStartMoved f g time from end
