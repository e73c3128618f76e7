-- Tests that decide a fact: true where it holds, and false where it does not.
use Rattle.std.specs.Prelude.{◌≡◌, ◌⊎◌, ℕ, ◌<◌, ◌≤◌, Bool, true, false, not, ◌&&◌, ◌||◌, nat_lt, nat_le}
use Rattle.std.specs.Bool.{MatchBool}
use Rattle.std.specs.Ordering.{MatchOrdering, is_eq, is_lt}
use Rattle.std.proofs.Common.{sym, ap, subst, refl, Ordering, Less, Equal, Greater, arith, inl, inr}
use Rattle.std.proofs.lemmas.Bool.Decides.{nat_tests}
use Rattle.rational.specs.Rational.{ℚ, ◌≤ℚ◌, ◌<ℚ◌}
use Rattle.rational.specs.Ratio.{cmp_q}
use Rattle.rational.specs.Extended.{Ext, ◌≤ₑ◌}
use Rattle.rational.specs.declared.Extended.TheVariants.{Fin, Inf}
use Rattle.rational.proofs.Comparison.{cmp_ranks}
use Rattle.rational.proofs.ExtendedOrder.{fin_same}
use Rattle.rational.proofs.Laws.{lt_irrefl, lt_le_trans, lt_trans, le_of_lt, le_refl}
use Rattle.net_draft.specs.Values.{less}
use Rattle.net_draft.specs.Refusals.{at_most_q, at_most, is_same}

abbrev pub Decides : Bool → Type 0 → Type 0
Decides b P = MatchBool b P (¬ P)

pub yes : (b : Bool) (P : Type 0) → Decides b P → P → b ≡ true
yes true P d p = refl
yes false P d p = absurd (d p)

pub no : (b : Bool) (P : Type 0) → Decides b P → ¬ P → b ≡ false
no true P d n = absurd (n d)
no false P d n = refl

-- ---- joined
pub both : (a b : Bool) (P Q : Type 0) → Decides a P → Decides b Q → Decides (a && b) (P × Q)
both true true P Q d e = (d, e)
both true false P Q d e = λ h. e h.1
both false b P Q d e = λ h. d h.0

pub either : (a b : Bool) (P Q : Type 0) → Decides a P → Decides b Q → Decides (a || b) (P ⊎ Q)
either true b P Q d e = inl d
either false true P Q d e = inr e
either false false P Q d e = neither
  where
    neither : P ⊎ Q → ⊥
    neither (inl p) = d p
    neither (inr q) = e q

-- of the same fact in other words
pub reworded : (b : Bool) (P Q : Type 0) → (P → Q) → (Q → P) → Decides b P → Decides b Q
reworded true P Q f g d = f d
reworded false P Q f g d = λ q. d (g q)

-- ---- orders
less_by : (r : Ordering) (x y : ℚ) → MatchOrdering r (x <ℚ y) (x ≡ y) (y <ℚ x) → Decides (is_lt r) (x <ℚ y)
less_by Less x y h = h
less_by Equal x y h = λ l. lt_irrefl y (subst (λ z. z <ℚ y) h l)
less_by Greater x y h = λ l. lt_irrefl x (lt_trans l h)

pub less_decides : (x y : ℚ) → Decides (less x y) (x <ℚ y)
less_decides x y = less_by (cmp_q x y) x y (cmp_ranks x y)

same_by : (r : Ordering) (x y : ℚ) → MatchOrdering r (x <ℚ y) (x ≡ y) (y <ℚ x) → Decides (is_eq r) (x ≡ y)
same_by Less x y h = λ e. lt_irrefl y (subst (λ z. z <ℚ y) e h)
same_by Equal x y h = h
same_by Greater x y h = λ e. lt_irrefl y (subst (λ z. y <ℚ z) e h)

pub same_decides : (x y : ℚ) → Decides (is_eq (cmp_q x y)) (x ≡ y)
same_decides x y = same_by (cmp_q x y) x y (cmp_ranks x y)

at_most_by : (r : Ordering) (x y : ℚ) → MatchOrdering r (y <ℚ x) (y ≡ x) (x <ℚ y) → Decides (not (is_lt r)) (x ≤ℚ y)
at_most_by Less x y h = λ l. lt_irrefl y (lt_le_trans h l)
at_most_by Equal x y h = subst (λ z. x ≤ℚ z) (sym h) (le_refl x)
at_most_by Greater x y h = le_of_lt h

pub at_most_q_decides : (x y : ℚ) → Decides (at_most_q x y) (x ≤ℚ y)
at_most_q_decides x y = at_most_by (cmp_q y x) x y (cmp_ranks y x)

pub at_most_decides : (v w : Ext) → Decides (at_most v w) (v ≤ₑ w)
at_most_decides Inf Inf = tt
at_most_decides (Fin v) Inf = tt
at_most_decides Inf (Fin w) = λ h. h
at_most_decides (Fin v) (Fin w) = at_most_q_decides v w

pub is_same_decides : (v w : Ext) → Decides (is_same v w) (v ≡ w)
is_same_decides Inf Inf = refl
is_same_decides Inf (Fin w) = λ e. cc
is_same_decides (Fin v) Inf = λ e. cc
is_same_decides (Fin v) (Fin w) = reworded (is_eq (cmp_q v w)) (v ≡ w) (Fin v ≡ Fin w) (λ e. ap Fin e) (λ e. fin_same e) (same_decides v w)

pub nat_lt_decides : (m n : ℕ) → Decides (nat_lt m n) (m < n)
nat_lt_decides m n = grind (arith, nat_tests)

pub nat_le_decides : (m n : ℕ) → Decides (nat_le m n) (m ≤ n)
nat_le_decides m n = grind (arith, nat_tests)
