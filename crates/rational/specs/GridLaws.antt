-- The laws of grids and bounds: own choice. With them the size of a number follows from how it was made.
use Rattle.std.specs.Prelude.{◌≢◌, ℕ, ◌*◌, ◌^◌, ◌-◌, ◌<◌, ◌≤◌, ℤ, pos, nat_abs, ◌↔◌}
use Prim.Native.Nat.{◌∣◌}
use Rattle.rational.specs.Rational.{ℚ, den, int, neg_ℚ, ◌+ℚ◌, ◌-ℚ◌, ◌*ℚ◌, ◌/ℚ◌, ◌≤ℚ◌}
use Rattle.rational.specs.Ratio.{IsSmall, SumFits}
use Rattle.rational.specs.Floor.{floor}
use Rattle.rational.specs.Grid.{Whole, Within}

-- a number stands on the grid of d exactly where its denominator divides d; sums, products and multiples stay on grids
pub record GridsClose : Type 0 where
  pub divides : (d : ℕ) (q : ℚ) → Whole d q ↔ (den q ∣ d)
  pub finer : (d e : ℕ) (q : ℚ) → d ∣ e → Whole d q → Whole e q
  pub add : (d : ℕ) (a b : ℚ) → Whole d a → Whole d b → Whole d (a +ℚ b)
  pub sub : (d : ℕ) (a b : ℚ) → Whole d a → Whole d b → Whole d (a -ℚ b)
  pub neg : (d : ℕ) (a : ℚ) → Whole d a → Whole d (neg_ℚ a)
  pub mul : (d e : ℕ) (a b : ℚ) → Whole d a → Whole e b → Whole (d * e) (a *ℚ b)
  pub times : (d : ℕ) (z : ℤ) (a : ℚ) → Whole d a → Whole d (int z *ℚ a)
  pub div : (d : ℕ) (a b : ℚ) → (w : Whole d b) → Whole d a → b ≢ int (pos 0) → Whole (nat_abs w.steps) (a /ℚ b)

-- sums, products and negations stay within bounds, and a floor within a bound that is larger by 1
pub record BoundsClose : Type 0 where
  pub add : (v w a b : ℚ) → Within v a → Within w b → Within (v +ℚ w) (a +ℚ b)
  pub sub : (v w a b : ℚ) → Within v a → Within w b → Within (v +ℚ w) (a -ℚ b)
  pub neg : (v a : ℚ) → Within v a → Within v (neg_ℚ a)
  pub mul : (v w a b : ℚ) → Within v a → Within w b → Within (v *ℚ w) (a *ℚ b)
  pub floor_of : (v a : ℚ) → Within v a → Within (v +ℚ int (pos 1)) (int (floor a))

-- on the grid of d the denominator is at most d; within v besides, the numerator is at most v d
pub record PartsOnGrid (d : ℕ) (v q : ℚ) : Type 0 where
  pub bottom : den q ≤ d
  pub top : int (pos (nat_abs q.num)) ≤ℚ v *ℚ int (pos d)

-- where d and v d are at most 2 ^ 127 - 1, both parts are
abbrev pub SmallOnGrid : Type 0
SmallOnGrid =
    (d : ℕ) (v q : ℚ) → 0 < d → d ≤ 2 ^ 127 - 1 → v *ℚ int (pos d) ≤ℚ int (pos (2 ^ 127 - 1)) → Whole d q → Within v q
    → IsSmall q

-- where d and (v + w) d are, so is each number on the way to a sum over the least common denominator
abbrev pub SumOnGrid : Type 0
SumOnGrid =
    (d : ℕ) (v w a b : ℚ) → 0 < d → d ≤ 2 ^ 127 - 1 → (v +ℚ w) *ℚ int (pos d) ≤ℚ int (pos (2 ^ 127 - 1))
    → Whole d a → Whole d b → Within v a → Within w b → SumFits a b
