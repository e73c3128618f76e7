-- What the tests of a sign say.
use Rattle.std.specs.Prelude.{◌≡◌, Bool, true, false, not, IsTrue, ◌↔◌}
use Rattle.std.proofs.Common.{arith, sym, refl, true≢false, inl, inr}
use Rattle.rational.specs.Rational.{ℚ, ◌≤ℚ◌, ◌<ℚ◌, neg_ℚ}
use Rattle.rational.proofs.Linear.{with2}
use Rattle.rational.proofs.Laws.{lt_irrefl, lt_le_trans}
use Rattle.min_plus.specs.Functions.{zero_q}
use Rattle.rational.proofs.Compared.{not_less_out}
use Rattle.curve_library.specs.Causes.{OneNegative}

-- a test that is false leaves 0 or more
pub nonneg_out : (b : Bool) (x : ℚ) → (IsTrue b ↔ (x <ℚ zero_q)) → b ≡ false → zero_q ≤ℚ x
nonneg_out b x h e = not_less_out b x zero_q h e

pub nonpos_out : (b : Bool) (x : ℚ) → (IsTrue b ↔ (zero_q <ℚ x)) → b ≡ false → x ≤ℚ zero_q
nonpos_out b x h e = not_less_out b zero_q x h e

-- the other side of 0
pub turned : (x y : ℚ) → y ≡ neg_ℚ x → (y <ℚ zero_q) ↔ (zero_q <ℚ x)
turned x y e = (λ h. with2 x y (λ c. omega (arith, c.le, c.lt, c.same)), λ h. with2 x y (λ c. omega (arith, c.le, c.lt, c.same)))

-- neither of two is below 0
pub none_negative : (x y : ℚ) → zero_q ≤ℚ x → zero_q ≤ℚ y → OneNegative x y → ⊥
none_negative x y h k (inl l) = lt_irrefl x (lt_le_trans l h)
none_negative x y h k (inr l) = lt_irrefl y (lt_le_trans l k)

pub positive_out : (b : Bool) (x : ℚ) → (IsTrue b ↔ (zero_q <ℚ x)) → b ≡ true → zero_q <ℚ x
positive_out b x h e = h.0 e

-- a test turned round
pub nonneg_test : (b : Bool) (x : ℚ) → (IsTrue b ↔ (x <ℚ zero_q)) → (IsTrue (not b) ↔ (zero_q ≤ℚ x))
nonneg_test true x h = (λ e. absurd (true≢false (sym e)), λ l. absurd (lt_irrefl x (lt_le_trans (h.0 refl) l)))
nonneg_test false x h = (λ e. nonneg_out false x h refl, λ l. refl)
