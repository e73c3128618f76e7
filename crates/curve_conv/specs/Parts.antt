-- A part of a convolution: the splits of a time of which both sides are in some times. (Bouillard, Boyer and Le
-- Corronc: the convolution of two functions is the least of those of their parts, before and from the time on from
-- which they repeat.)
use Rattle.rational.specs.Rational.{ℚ, ◌≤ℚ◌, ◌<ℚ◌}
use Rattle.rational.specs.Extended.{Ext, ◌+ₑ◌}
use Rattle.rational.specs.Bounds.{IsInfimum}
use Rattle.min_plus.specs.Convolution.{Split}

-- a split of t whose two sides are as P says
pub record PartSplit (P : ℚ → ℚ → Type 0) (t : ℚ) : Type 0 where
  pub split : Split t
  pub inside : P split.first split.second

abbrev pub part_sum : (f g : ℚ → Ext) (P : ℚ → ℚ → Type 0) (t : ℚ) → PartSplit P t → Ext
part_sum f g P t s = f s.split.first +ₑ g s.split.second

-- v is the infimum of f (s) + g (u) over those splits of t
abbrev pub IsPart : (f g : ℚ → Ext) (P : ℚ → ℚ → Type 0) → ℚ → Ext → Type 0
IsPart f g P t v = IsInfimum (part_sum f g P t) v

-- the first side is `first` or later
abbrev pub FirstLate : ℚ → ℚ → ℚ → Type 0
FirstLate first s u = first ≤ℚ s

-- the first side is before `first`, and the second is `second` or later
abbrev pub FirstEarly : ℚ → ℚ → ℚ → ℚ → Type 0
FirstEarly first second s u = (s <ℚ first) × (second ≤ℚ u)
