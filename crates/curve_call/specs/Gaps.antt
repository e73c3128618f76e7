-- The largest amount by which one function is above another over some times, where the other is finite. (Le Boudec
-- and Thiran: the vertical deviation of two functions, here over part of the times.)
use Rattle.std.specs.Prelude.{◌≡◌}
use Rattle.rational.specs.Rational.{ℚ, ◌≤ℚ◌, ◌<ℚ◌}
use Rattle.rational.specs.Extended.{Ext, ◌≤ₑ◌, ◌<ₑ◌, ◌+ₑ◌}
use Rattle.rational.specs.declared.Extended.TheVariants.{Fin, Inf}
use Rattle.curve_call.specs.declared.gaps.Gap.{Gap}
use Rattle.curve_call.specs.declared.gaps.Gap.TheVariants.{NoTime, Never, Is}

-- the times of [from, end)
pub record InWindow (from end t : ℚ) : Type 0 where
  pub start : from ≤ℚ t
  pub before : t <ℚ end

-- at no time of S is f more than y above g
abbrev pub IsWithin : (ℚ → Type 0) → (ℚ → Ext) → (ℚ → Ext) → ℚ → Type 0
IsWithin S f g y = (t : ℚ) → S t → f t ≤ₑ g t +ₑ Fin y

-- at some time of S it is
pub record IsMore (S : ℚ → Type 0) (f g : ℚ → Ext) (y : ℚ) : Type 0 where
  pub at : ℚ
  pub among : S at
  pub more : g at +ₑ Fin y <ₑ f at

-- at some time of S f is infinite and g is not
pub record IsEndless (S : ℚ → Type 0) (f g : ℚ → Ext) : Type 0 where
  pub at : ℚ
  pub among : S at
  pub top : f at ≡ Inf
  pub value : ℚ
  pub below : g at ≡ Fin value

-- q is the least number that f is nowhere more than above g
pub record IsLargest (S : ℚ → Type 0) (f g : ℚ → Ext) (q : ℚ) : Type 0 where
  pub above : IsWithin S f g q
  pub near : (y : ℚ) → y <ℚ q → IsMore S f g y

-- the gap of f above g over the times of S
abbrev pub IsGap : (ℚ → Type 0) → (ℚ → Ext) → (ℚ → Ext) → Gap → Type 0
IsGap S f g NoTime = (t : ℚ) → S t → g t ≡ Inf
IsGap S f g Never = IsEndless S f g
IsGap S f g (Is q) = IsLargest S f g q

-- the gap over the times of [from, until): up to `end`, or to `soon` or later
pub record IsGapUntil (from end soon : ℚ) (f g : ℚ → Ext) (gap : Gap) : Type 0 where
  pub until : ℚ
  pub most : until ≤ℚ end
  pub left : (t : ℚ) → InWindow until end t → soon ≤ℚ t
  pub is : IsGap (InWindow from until) f g gap
