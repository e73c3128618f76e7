-- By how much one part of a convolution is above another over some times. Own choice.
use Rattle.std.specs.Prelude.{ℕ, ◌*◌, ◌<◌, ◌≤◌, pos}
use Prim.Native.Nat.{◌∣◌}
use Rattle.rational.specs.Rational.{ℚ, ◌≤ℚ◌, int}
use Rattle.rational.specs.Grid.{Whole, Within}
use Rattle.rational.specs.Extended.{Ext}
use Rattle.upp_limits.specs.Limits.{Sizes}
use Rattle.upp_limits.specs.Sized.{times_largest}
use Rattle.upp_normal.specs.Room.{top}
use Rattle.curve_call.specs.declared.gaps.Gap.{Gap}
use Rattle.curve_call.specs.declared.gaps.Gap.TheVariants.{NoTime, Never, Is}
use Rattle.curve_call.specs.Gaps.{InWindow}
use Rattle.curve_conv.specs.Parts.{IsPart, FirstLate, FirstEarly}
use Rattle.curve_conv.specs.Stretches.{SumPlace}

-- a number on a grid that has room for its quotients, within fourteen times the largest value
pub record IsPartGap (z : Sizes) (q : ℚ) : Type 0 where
  pub grid : ℕ
  pub some : 0 < grid
  pub base : z.dv * z.dt ∣ grid
  pub room : 64 * z.largest * (grid * z.ds) ≤ top
  pub whole : Whole (grid * z.ds) q
  pub within : Within (times_largest 14 z) q

abbrev pub PartGapStands : Sizes → Gap → Type 0
PartGapStands z NoTime = Unit {0}
PartGapStands z Never = Unit {0}
PartGapStands z (Is q) = IsPartGap z q

-- a time up to the end of a window, at which two sums' lines are compared
pub record SumTimeTo (z : Sizes) (end t : ℚ) : Type 0 where
  pub place : SumPlace z t
  pub nonneg : int (pos 0) ≤ℚ t
  pub most : t ≤ℚ end

-- a and b have the values of both parts at the times of a window
pub record ArePartValues (f g : ℚ → Ext) (first second from end : ℚ) (a b : ℚ → Ext) : Type 0 where
  pub late : (t : ℚ) → InWindow from end t → IsPart f g (FirstLate first) t (a t)
  pub soon : (t : ℚ) → InWindow from end t → IsPart f g (FirstEarly first second) t (b t)

-- both parts have a value at t
pub record HavePartValues (f g : ℚ → Ext) (first second t : ℚ) : Type 0 where
  pub late : (v : Ext) × IsPart f g (FirstLate first) t v
  pub soon : (v : Ext) × IsPart f g (FirstEarly first second) t v
