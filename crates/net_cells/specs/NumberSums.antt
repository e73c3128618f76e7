-- Sums of numbers, with limits of their own. Own choice.
use Rattle.std.specs.Prelude.{◌≡◌, ℕ, ◌*◌, ◌^◌, ◌<◌, ◌≤◌, max, List, [], ◌∷◌, length, Bool, true, false, if◌then◌else◌, Result, Ok, Err}
use Rattle.rational.specs.Rational.{ℚ, ◌+ℚ◌, neg_ℚ}
use Rattle.rational.specs.MinMax.{max_q}
use Rattle.rational.specs.Extended.{Ext, ◌+ₑ◌}
use Rattle.rational.specs.declared.Extended.TheVariants.{Fin, Inf}
use Rattle.rational.specs.Gauge.{common_den, size_up}
use Rattle.upp_limits.specs.declared.op_kind.OpFault.{OpFault}
use Rattle.upp_limits.specs.declared.op_kind.OpFault.TheVariants.{TooMany, TooWide, NoMemory}
use Rattle.min_plus.specs.Functions.{zero_q}

-- the sum, infinite where one of them is
abbrev pub sum_of_numbers : List Ext → Ext
sum_of_numbers [] = Fin zero_q
sum_of_numbers (x ∷ xs) = x +ₑ sum_of_numbers xs

-- one of them is infinite
abbrev pub has_infinite : List Ext → Bool
has_infinite [] = false
has_infinite (Inf ∷ xs) = true
has_infinite (Fin x ∷ xs) = has_infinite xs

-- those that are not
abbrev pub finite : List Ext → List ℚ
finite [] = []
finite (Inf ∷ xs) = finite xs
finite (Fin x ∷ xs) = x ∷ finite xs

-- ---- limits
-- how far the numbers are from 0, all together
abbrev pub sizes : List ℚ → ℚ
sizes [] = zero_q
sizes (x ∷ xs) = max_q x (neg_ℚ x) +ℚ sizes xs

-- 64 V D, with the least common denominator D, and V the least whole number that is at least 1 and at least all sizes
-- together; 0 where a number is infinite
unfoldable pub sum_gauge : List Ext → ℕ
sum_gauge xs = if has_infinite xs then 0 else (64 * max 1 (size_up (sizes (finite xs))) * common_den (finite xs))

-- how many numbers; 0 where one is infinite
unfoldable pub sum_tally : List Ext → ℕ
sum_tally xs = if has_infinite xs then 0 else length xs

-- the sum is over neither limit
pub record IsSumWithin (xs : List Ext) : Type 0 where
  pub narrow : sum_gauge xs < 2 ^ 120
  pub few : sum_tally xs ≤ 2 ^ 20

-- what a sum of numbers answers: it takes no memory
abbrev pub Sums : List Ext → Result Ext OpFault → Type 0
Sums xs (Ok x) = IsSumWithin xs × (x ≡ sum_of_numbers xs)
Sums xs (Err TooMany) = (sum_gauge xs < 2 ^ 120) × (2 ^ 20 < sum_tally xs)
Sums xs (Err TooWide) = 2 ^ 120 ≤ sum_gauge xs
Sums xs (Err NoMemory) = ⊥
