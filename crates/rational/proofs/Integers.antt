-- The whole numbers among the rationals: their order, sums and products are the integers'.
use Rattle.std.specs.Prelude.{◌≡◌, ◌⊎◌, ℕ, suc, ◌<◌, ◌≤◌, ℤ, pos, ◌+ℤ◌, ◌*ℤ◌, neg_ℤ, ◌≤ℤ◌, ◌<ℤ◌}
use Rattle.std.proofs.Common.{arith, sym, ap, ◌∙◌, inl, inr}
use Rattle.std.proofs.lemmas.Int.{ints}
use Rattle.rational.specs.Rational.{◌+ℚ◌, ◌*ℚ◌, neg_ℚ, ◌≤ℚ◌, ◌<ℚ◌, int, frac}
use Rattle.rational.proofs.Over.{same_over, le_over, lt_over, add_over, neg_over, mul_frac}
use Rattle.std.proofs.lemmas.Bool.{cases_lt}

-- an integer times a fraction
pub mul_whole : (z a : ℤ) (d : ℕ) → frac z 0 *ℚ frac a d ≡ frac (z *ℤ a) d
mul_whole z a d = mul_frac z 0 a d ∙ ap (frac (z *ℤ a)) (omega arith)

pub int_same : (a b : ℤ) → int a ≡ int b → a ≡ b
int_same a b h = (same_over a b 0).0 h

pub int_le : (a b : ℤ) → a ≤ℤ b → int a ≤ℚ int b
int_le a b h = (le_over a b 0).1 h

pub int_le_out : (a b : ℤ) → int a ≤ℚ int b → a ≤ℤ b
int_le_out a b h = (le_over a b 0).0 h

pub int_lt : (a b : ℤ) → a <ℤ b → int a <ℚ int b
int_lt a b h = (lt_over a b 0).1 h

pub int_lt_out : (a b : ℤ) → int a <ℚ int b → a <ℤ b
int_lt_out a b h = (lt_over a b 0).0 h

pub nat_le : (m n : ℕ) → m ≤ n → int (pos m) ≤ℚ int (pos n)
nat_le m n h = int_le (pos m) (pos n) (omega (arith, ints))

pub nat_le_out : (m n : ℕ) → int (pos m) ≤ℚ int (pos n) → m ≤ n
nat_le_out m n h = let l = int_le_out (pos m) (pos n) h in omega (arith, ints)

pub nat_lt : (m n : ℕ) → m < n → int (pos m) <ℚ int (pos n)
nat_lt m n h = int_lt (pos m) (pos n) (omega (arith, ints))

pub nat_lt_out : (m n : ℕ) → int (pos m) <ℚ int (pos n) → m < n
nat_lt_out m n h = let l = int_lt_out (pos m) (pos n) h in omega (arith, ints)

pub nat_nonneg : (n : ℕ) → int (pos 0) ≤ℚ int (pos n)
nat_nonneg n = nat_le 0 n (omega arith)

pub int_add : (a b : ℤ) → int a +ℚ int b ≡ int (a +ℤ b)
int_add a b = add_over a b 0

pub int_neg : (a : ℤ) → neg_ℚ (int a) ≡ int (neg_ℤ a)
int_neg a = neg_over a 0

pub int_mul : (a b : ℤ) → int a *ℚ int b ≡ int (a *ℤ b)
int_mul a b = mul_whole a b 0

pub nat_next : (n : ℕ) → int (pos (suc n)) ≡ int (pos n) +ℚ int (pos 1)
nat_next n = sym (int_add (pos n) (pos 1) ∙ ap int (ap pos (omega arith)))

pub le_or_more : (a b : ℕ) → (a ≤ b) ⊎ (suc b ≤ a)
le_or_more a b = elim (cases_lt b a) [ inl h ↦ inr h | inr h ↦ inl h ]
