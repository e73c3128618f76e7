-- Laws of fractions of at most 127 bits. Own choice.
use Rattle.std.specs.Prelude.{◌≡◌, ◌≢◌, ℕ, ◌*◌, ◌<◌, ◌≤◌, pos, Ok}
use Prim.Native.Nat.{◌∣◌}
use Rattle.std.specs.Int.{IsGcd}
use Rattle.rational.specs.Gcd.{gcd}
use Rattle.rational.specs.Gauge.{lcm}
use Rattle.rational.specs.Rational.{ℚ, int, ◌+ℚ◌, ◌*ℚ◌, ◌/ℚ◌, neg_ℚ, ◌≤ℚ◌, ◌<ℚ◌}
use Rattle.rational.specs.Ratio.{IsSmall, SumFits}
use Rattle.rational.specs.Grid.{Whole, Within}
use Rattle.fraction128.specs.Text.{largest, text_of, parse_of}
use Rattle.fraction128.specs.Multiple.{IsLeastMultiple, common_multiple}

-- what is printed of a fraction is read as it
abbrev pub ReadsBack : Type 0
ReadsBack = (x : ℚ) → IsSmall x → parse_of (text_of x) ≡ Ok x

-- v d is at most 2 ^ 127 - 1
abbrev pub FitsTimes : ℚ → ℕ → Type 0
FitsTimes v d = v *ℚ int (pos d) ≤ℚ int (pos largest)

-- a and b are multiples of 1 / d, of sizes at most v and w
pub record OnGrid (d : ℕ) (v w a b : ℚ) : Type 0 where
  pub some : 0 < d
  pub left : Whole d a
  pub right : Whole d b
  pub left_within : Within v a
  pub right_within : Within w b

-- then the numbers of their sum fit where d and (v + w) d are at most 2 ^ 127 - 1
abbrev pub SumOnGrid : Type 0
SumOnGrid = (d : ℕ) (v w a b : ℚ) → OnGrid d v w a b → d ≤ largest → FitsTimes (v +ℚ w) d → SumFits a b

-- and those of their difference
abbrev pub DifferenceOnGrid : Type 0
DifferenceOnGrid = (d : ℕ) (v w a b : ℚ) → OnGrid d v w a b → d ≤ largest → FitsTimes (v +ℚ w) d → SumFits a (neg_ℚ b)

-- their quotient where v d and w d are
abbrev pub QuotientOnGrid : Type 0
QuotientOnGrid = (d : ℕ) (v w a b : ℚ) → OnGrid d v w a b → b ≢ int (pos 0) → FitsTimes v d → FitsTimes w d
    → IsSmall (a /ℚ b)

-- and the product of multiples of 1 / d and 1 / e, of sizes at most v and w, where d e and v w d e are
abbrev pub ProductOnGrid : Type 0
ProductOnGrid = (d e : ℕ) (v w a b : ℚ) → 0 < d → 0 < e → Whole d a → Whole e b → Within v a → Within w b
    → d * e ≤ largest → FitsTimes (v *ℚ w) (d * e) → IsSmall (a *ℚ b)

-- the greatest common divisor divides both numbers, and each number that divides both divides it
abbrev pub DivisorIsGreatest : Type 0
DivisorIsGreatest = (a b : ℕ) → IsGcd a b (gcd a b)

-- m is a multiple of both numbers, and divides each number that is
pub record IsLcm (a b m : ℕ) : Type 0 where
  pub left : a ∣ m
  pub right : b ∣ m
  pub least : (n : ℕ) → a ∣ n → b ∣ n → m ∣ n

-- the least common multiple of two numbers above 0 is that
abbrev pub MultipleIsLeast : Type 0
MultipleIsLeast = (a b : ℕ) → 0 < a → 0 < b → IsLcm a b (lcm a b)

-- and that of two fractions above 0 is their least whole multiple
abbrev pub FractionMultipleIsLeast : Type 0
FractionMultipleIsLeast = (a b : ℚ) → int (pos 0) <ℚ a → int (pos 0) <ℚ b → IsLeastMultiple a b (common_multiple a b)
