-- What a function is just before and just after a time, and whether it turns up there. Own choice.
use Rattle.std.specs.Prelude.{◌≡◌, ◌⊎◌, Option, Some, None}
use Rattle.rational.specs.Rational.{ℚ, ◌+ℚ◌, ◌-ℚ◌, ◌*ℚ◌, ◌≤ℚ◌, ◌<ℚ◌}
use Rattle.rational.specs.Extended.{Ext}
use Rattle.rational.specs.declared.Extended.TheVariants.{Fin, Inf}
use Rattle.min_plus.specs.Functions.{zero_q}

-- a line that ends or begins at a time: its limit there and its slope
pub record Ray : Type 0 where
  pub limit : ℚ
  pub slope : ℚ

-- the value d before that time, and d after it; no ray is infinity
abbrev pub before_value : Option Ray → ℚ → Ext
before_value None d = Inf
before_value (Some r) d = Fin (r.limit -ℚ r.slope *ℚ d)

abbrev pub after_value : Option Ray → ℚ → Ext
after_value None d = Inf
after_value (Some r) d = Fin (r.limit +ℚ r.slope *ℚ d)

-- the times before s, from 0 on, and those after it have the values of two rays, as far as h; before 0 there is none
pub record IsBeside (f : ℚ → Ext) (s h : ℚ) (left right : Option Ray) : Type 0 where
  pub before : (d : ℚ) → zero_q <ℚ d → d <ℚ h → zero_q ≤ℚ s -ℚ d → f (s -ℚ d) ≡ before_value left d
  pub after : (d : ℚ) → zero_q <ℚ d → d <ℚ h → f (s +ℚ d) ≡ after_value right d
  pub room : (left ≡ None) ⊎ (h ≤ℚ s)

-- the limit is above v, or there is none
abbrev pub IsAbove : Option Ray → ℚ → Type 0
IsAbove None v = Unit {0}
IsAbove (Some r) v = v <ℚ r.limit

-- both have the limit v, and the slope after is at least that before
abbrev pub BendsUp : Option Ray → Option Ray → ℚ → Type 0
BendsUp None right v = ⊥
BendsUp (Some l) None v = ⊥
BendsUp (Some l) (Some r) v = (l.limit ≡ v) × (r.limit ≡ v) × (l.slope ≤ℚ r.slope)

-- where v is taken for the value at the time: the function jumps down to v, or up from it, or bends up. So the slope before
-- is at most that after, where a jump counts as infinite slope
abbrev pub TurnsUp : Option Ray → Option Ray → ℚ → Type 0
TurnsUp left right v = IsAbove left v ⊎ (IsAbove right v ⊎ BendsUp left right v)
