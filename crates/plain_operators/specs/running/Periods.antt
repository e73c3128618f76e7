-- From when on the running supremum of a curve repeats: where one whole period has passed all that comes before the
-- curve itself repeats. Own choice.
use Rattle.std.specs.Prelude.{◌≡◌, ℕ, ◌<◌, ◌⊎◌, pos, List}
use Rattle.rational.specs.Rational.{ℚ, ◌+ℚ◌, ◌-ℚ◌, ◌*ℚ◌, ◌/ℚ◌, neg_ℚ, ◌≤ℚ◌, ◌<ℚ◌, int}
use Rattle.rational.specs.Ratio.{IsSmall, SumFits}
use Rattle.rational.specs.Grid.{Whole}
use Rattle.rational.specs.Extended.{Ext, ◌≤ₑ◌}
use Rattle.rational.specs.declared.Extended.TheVariants.{Fin}
use Rattle.upp_curve.specs.declared.affine_segment.line.Piece.{Piece}
use Rattle.upp_curve.specs.affine_segment.Reading.{read}
use Rattle.upp_curve.specs.Curve.{SpecCurve, value_at}
use Rattle.upp_curve.specs.Curves.{IsCurve}
use Rattle.min_plus.specs.Functions.{zero_q, IsFinite, IsNonnegative}
use Rattle.upp_curve.specs.Steady.{steady, rise_over}
use Rattle.upp_limits.specs.Periods.{own_period, periods_after}
use Rattle.upp_limits.specs.Limits.{Sizes, curve_numbers}
use Rattle.upp_limits.specs.Sized.{Stands}
use Rattle.upp_normal.specs.Operand.{AreLimited}
use Rattle.plain_operators.specs.running.Scans.{IsWindow, ScanFits, IsSupremumIn}
use Rattle.plain_operators.specs.running.Between.{FitsAtBoth, IsLevelBetween}

-- k is the least number of rises that take `once` up to `early`
pub record IsCover (early once rise : ℚ) (k : ℕ) : Type 0 where
  pub enough : early ≤ℚ once +ℚ int (pos k) *ℚ rise
  pub least : (i : ℕ) → i < k → once +ℚ int (pos i) *ℚ rise <ℚ early

pub record CoverFits (early once rise : ℚ) : Type 0 where
  pub gap : SumFits early (neg_ℚ once)
  pub number : IsSmall ((early -ℚ once) /ℚ rise)

-- the pieces of a curve up to the end of its first period, and the steps that compare what comes before `start` with
-- that period
pub record IsFirstPeriod (ps : List Piece) (start period rise : ℚ) : Type 0 where
  pub window : IsWindow (start +ℚ period) ps
  pub fits : ScanFits (start +ℚ period) ps
  pub before : FitsAtBoth zero_q start ps
  pub within : FitsAtBoth start (start +ℚ period) ps
  pub first : zero_q <ℚ start
  pub some : zero_q <ℚ period
  pub rises : zero_q <ℚ rise
  pub nonneg : (t : ℚ) → zero_q ≤ℚ t → t <ℚ start +ℚ period → Fin zero_q ≤ₑ read ps t
  pub sum : SumFits start period
  pub cover : (v w : ℚ) → IsLevelBetween (start +ℚ period) zero_q start ps v
      → IsLevelBetween (start +ℚ period) start (start +ℚ period) ps w → CoverFits v w rise

-- k periods on, the supremum of one period has reached that of all before `start`
pub record IsCovering (f : ℚ → Ext) (start period rise : ℚ) (k : ℕ) : Type 0 where
  pub early : ℚ
  pub once : ℚ
  pub before : IsSupremumIn f zero_q start (Fin early)
  pub within : IsSupremumIn f start (start +ℚ period) (Fin once)
  pub cover : IsCover early once rise k

-- a finite curve nowhere below 0, when and how it repeats, and some sizes that hold its numbers
pub record IsSupremumCall (f : SpecCurve) (start period rise : ℚ) : Type 0 where
  pub curve : IsCurve f
  pub finite : IsFinite (value_at f)
  pub nonneg : IsNonnegative (value_at f)
  pub start_is : start ≡ steady f
  pub period_is : period ≡ own_period f
  pub rise_is : rise ≡ rise_over f period
  pub sizes : Sizes
  pub end : ℚ
  pub limited : AreLimited sizes end
  pub stands : Stands sizes (curve_numbers end f)
  pub early : start +ℚ period ≤ℚ end
  pub start_whole : Whole sizes.dt start
  pub low : zero_q ≤ℚ start
  pub period_whole : Whole sizes.dt period
  pub some : zero_q <ℚ period
  pub sum : SumFits start period

-- it does not rise, or nothing comes before `start`, or all that does is at most the supremum of the k-th period
abbrev pub IsCoveredAfter : SpecCurve → ℚ → ℚ → ℚ → ℕ → Type 0
IsCoveredAfter f start period rise k =
    (rise ≡ zero_q)
    ⊎ ((start ≤ℚ zero_q)
    ⊎ ((w : Ext) × IsSupremumIn (value_at f) (periods_after start k period) (periods_after start k period +ℚ period) w
    × ((s : ℚ) → zero_q ≤ℚ s → s <ℚ start → value_at f s ≤ₑ w)))
