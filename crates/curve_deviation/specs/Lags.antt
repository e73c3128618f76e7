-- The longest lag of one function behind another. (The horizontal deviation of Le Boudec and Thiran, as the supremum
-- over all pairs of times of which the second function's value at the later one is still below the first function's
-- at the earlier.)
use Rattle.std.specs.Prelude.{pos, ◌⊎◌}
use Rattle.rational.specs.Rational.{ℚ, ◌-ℚ◌, ◌≤ℚ◌, ◌<ℚ◌, int}
use Rattle.rational.specs.Extended.{Ext, ◌<ₑ◌}

-- at u g is still below what f was at s
pub record IsBehindAt (f g : ℚ → Ext) (s u : ℚ) : Type 0 where
  pub first : int (pos 0) ≤ℚ s
  pub second : int (pos 0) ≤ℚ u
  pub below : g u <ₑ f s

-- g is behind f by more than y
pub record LagsBy (f g : ℚ → Ext) (y : ℚ) : Type 0 where
  pub first : ℚ
  pub second : ℚ
  pub behind : IsBehindAt f g first second
  pub more : y <ℚ second -ℚ first

-- q is 0 or more and no less than each lag behind a time of S; each number from 0 on below it is below some lag
pub record IsLongestLag (S : ℚ → Type 0) (f g : ℚ → Ext) (q : ℚ) : Type 0 where
  pub nonneg : int (pos 0) ≤ℚ q
  pub most : (s u : ℚ) → S s → IsBehindAt f g s u → u -ℚ s ≤ℚ q
  pub near : (y : ℚ) → y <ℚ q → (y <ℚ int (pos 0)) ⊎ LagsBy f g y
