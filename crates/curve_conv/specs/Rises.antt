-- By how much a function is at most above itself some time earlier or later, over the times of a window. Own choice.
use Rattle.std.specs.Prelude.{ℕ, pos, Option}
use Rattle.rational.specs.Rational.{ℚ, ◌+ℚ◌, ◌≤ℚ◌, ◌<ℚ◌, int}
use Rattle.rational.specs.Grid.{Whole}
use Rattle.rational.specs.Extended.{Ext, ◌≤ₑ◌, ◌+ₑ◌}
use Rattle.rational.specs.declared.Extended.TheVariants.{Fin}
use Rattle.upp_curve.specs.Curve.{SpecCurve, value_at}
use Rattle.upp_limits.specs.Limits.{Sizes}
use Rattle.upp_normal.specs.Ahead.{IsBeforeNext, AtNext, TimesStand, HasWindow}
use Rattle.curve_call.specs.Gaps.{InWindow}
use Rattle.curve_conv.specs.declared.rises.Looked.{Looked}

-- d later f is at no time from `begin` on before `until` more than q above itself; d earlier where it is below 0
abbrev pub RisesAtMost : (ℚ → Ext) → ℚ → ℚ → ℚ → ℚ → Type 0
RisesAtMost f d begin until q = (t : ℚ) → InWindow begin until t → f (t +ℚ d) ≤ₑ f t +ₑ Fin q

-- a curve whose numbers up to `end` have the sizes z; both the times of the window and those d later are from 0 on before it
pub record HasLaterIn (z : Sizes) (end : ℚ) (c : SpecCurve) (begin first d : ℚ) : Type 0 where
  pub window : HasWindow z end c
  pub start : Whole z.dt begin
  pub stop : Whole z.dt first
  pub period : Whole z.dt d
  pub nonneg : int (pos 0) ≤ℚ begin
  pub later : int (pos 0) ≤ℚ begin +ℚ d
  pub soon : first ≤ℚ end
  pub early : first +ℚ d ≤ℚ end

abbrev pub HasLater : SpecCurve → ℚ → ℚ → ℚ → Type 0
HasLater c begin first d = (z : Sizes) × (end : ℚ) × HasLaterIn z end c begin first d

-- the times before s.until were looked at, and that time stands on each grid of the curve, of both ends and of d
pub record IsLookedUntil (c : SpecCurve) (begin first d : ℚ) (s : Looked) : Type 0 where
  pub late : begin ≤ℚ s.until
  pub grid : (n : ℕ) → TimesStand n c → Whole n begin → Whole n first → Whole n d → Whole n s.until
  pub rises : RisesAtMost (value_at c) d begin s.until s.most

-- the first of `first`, a time, and another d earlier
pub record IsNextTime (here there : Option ℚ) (d first u : ℚ) : Type 0 where
  pub past : (t : ℚ) → t <ℚ first → IsBeforeNext t here → IsBeforeNext (t +ℚ d) there → t <ℚ u
  pub soon : (t : ℚ) → t <ℚ u → IsBeforeNext t here
  pub late : (t : ℚ) → t <ℚ u → IsBeforeNext (t +ℚ d) there
  pub grid : (n : ℕ) → AtNext (Whole n) here → AtNext (Whole n) there → Whole n first → Whole n d → Whole n u
