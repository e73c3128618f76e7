-- A number of periods later: one function is nowhere above another exactly where it is nowhere more above it than the other has gained.
use Rattle.std.specs.Prelude.{◌≡◌, ℕ, pos, ◌↔◌}
use Rattle.std.proofs.Common.{arith, sym, subst, inl, inr}
use Rattle.rational.specs.Rational.{ℚ, ◌+ℚ◌, ◌-ℚ◌, ◌*ℚ◌, ◌≤ℚ◌, ◌<ℚ◌, int}
use Rattle.rational.specs.Extended.{Ext, ◌≤ₑ◌, ◌+ₑ◌}
use Rattle.rational.specs.declared.Extended.TheVariants.{Fin, Inf}
use Rattle.rational.proofs.Linear.{with3, with4}
use Rattle.rational.proofs.Laws.{le_or_lt, mul_sub, sub_add}
use Rattle.rational.proofs.ExtendedOrder.{le_ext_trans, le_ext_refl, add_le_ext, lt_ext_not_le}
use Rattle.upp_curve.specs.Steady.{Repeats}
use Rattle.upp_limits.specs.Periods.{periods_after}
use Rattle.upp_limits.specs.Windows.{IsBelowFor, IsLeast}
use Rattle.upp_curve.proofs.Repeats.{repeats_times}
use Rattle.curve_call.specs.Gaps.{InWindow, IsWithin, IsEndless, IsLargest}

-- ---- both sides risen
pub shift_in : (x y : Ext) (p q : ℚ) → x ≤ₑ y +ₑ Fin (q -ℚ p) → x +ₑ Fin p ≤ₑ y +ₑ Fin q
shift_in x Inf p q h = tt
shift_in Inf (Fin y) p q h = absurd h
shift_in (Fin x) (Fin y) p q h = with4 x y p q (λ c. omega (arith, c.le, c.lt, c.same))

pub shift_out : (x y : Ext) (p q : ℚ) → x +ₑ Fin p ≤ₑ y +ₑ Fin q → x ≤ₑ y +ₑ Fin (q -ℚ p)
shift_out x Inf p q h = tt
shift_out Inf (Fin y) p q h = absurd h
shift_out (Fin x) (Fin y) p q h = with4 x y p q (λ c. omega (arith, c.le, c.lt, c.same))

-- ---- k periods later
pub later_value : (f : ℚ → Ext) (from d a t : ℚ) (k : ℕ) → int (pos 0) ≤ℚ d → Repeats f from d a → from ≤ℚ t → f (t +ℚ int (pos k) *ℚ d) ≡ f t +ₑ Fin (int (pos k) *ℚ a)
later_value f from d a t k some R h = (repeats_times f from d a k some R).rule t h

pub below_in : (f g : ℚ → Ext) (from d a b : ℚ) (k : ℕ) → int (pos 0) ≤ℚ d → Repeats f from d a → Repeats g from d b
    → IsWithin (InWindow from (from +ℚ d)) f g (int (pos k) *ℚ (b -ℚ a)) → IsBelowFor f g (periods_after from k d) d
below_in f g from d a b k some F G w t h l =
    let y = int (pos k) *ℚ d in
    let u = t -ℚ y in
    let e : u +ℚ y ≡ t = sub_add t y in
    let low : from ≤ℚ u = with3 from t y (λ c. omega (arith, c.le, c.lt, c.same)) in
    let high : u <ℚ from +ℚ d = with4 from t y d (λ c. omega (arith, c.le, c.lt, c.same)) in
    let bound : f u ≤ₑ g u +ₑ Fin (int (pos k) *ℚ b -ℚ int (pos k) *ℚ a) = subst (λ v. f u ≤ₑ g u +ₑ Fin v) (mul_sub (int (pos k)) b a) (w u record { start = low; before = high }) in
    let shifted = shift_in (f u) (g u) (int (pos k) *ℚ a) (int (pos k) *ℚ b) bound in
    subst (λ s. f s ≤ₑ g s) e
    (subst (λ v. v ≤ₑ g (u +ℚ y)) (sym (later_value f from d a u k some F low)) (subst (λ v. f u +ₑ Fin (int (pos k) *ℚ a) ≤ₑ v) (sym (later_value g from d b u k some G low)) shifted))

pub below_out : (f g : ℚ → Ext) (from d a b : ℚ) (k : ℕ) → int (pos 0) ≤ℚ d → Repeats f from d a → Repeats g from d b → IsBelowFor f g (periods_after from k d) d
    → IsWithin (InWindow from (from +ℚ d)) f g (int (pos k) *ℚ (b -ℚ a))
below_out f g from d a b k some F G below u i =
    let y = int (pos k) *ℚ d in
    let low = i.start in
    let high = i.before in
    let there : f (u +ℚ y) ≤ₑ g (u +ℚ y) = below (u +ℚ y) (with3 from u y (λ c. omega (arith, c.le, c.lt, c.same))) (with4 from u y d (λ c. omega (arith, c.le, c.lt, c.same))) in
    let here : f u +ₑ Fin (int (pos k) *ℚ a) ≤ₑ g u +ₑ Fin (int (pos k) *ℚ b) =
    subst (λ v. v ≤ₑ g u +ₑ Fin (int (pos k) *ℚ b)) (later_value f from d a u k some F low) (subst (λ v. f (u +ℚ y) ≤ₑ v) (later_value g from d b u k some G low) there) in
    subst (λ v. f u ≤ₑ g u +ₑ Fin v) (sym (mul_sub (int (pos k)) b a)) (shift_out (f u) (g u) (int (pos k) *ℚ a) (int (pos k) *ℚ b) here)

-- ---- what a gap bounds
pub largest_bounds : (S : ℚ → Type 0) (f g : ℚ → Ext) (q y : ℚ) → IsLargest S f g q → (IsWithin S f g y ↔ (q ≤ℚ y))
largest_bounds S f g q y L = (
  λ w. elim (le_or_lt q y) [
    | inl h ↦ h
    | inr h ↦ let m = L.near y h in absurd ((lt_ext_not_le (g m.at +ₑ Fin y) (f m.at)).0 m.more (w m.at m.among))
  ],
  λ h u i. le_ext_trans (f u) (g u +ₑ Fin q) (g u +ₑ Fin y) (L.above u i) (add_le_ext (g u) (g u) (Fin q) (Fin y) (le_ext_refl (g u)) h),
)

pub endless_bounds : (S : ℚ → Type 0) (f g : ℚ → Ext) (y : ℚ) → IsEndless S f g → ¬ (IsWithin S f g y)
endless_bounds S f g y E w =
    let bound : Inf ≤ₑ Fin (E.value +ℚ y) = subst (λ v. v ≤ₑ Fin (E.value +ℚ y)) E.top (subst (λ v. f E.at ≤ₑ v +ₑ Fin y) E.below (w E.at E.among)) in
    bound

-- ---- least numbers
pub same_least : (P Q : ℕ → Type 0) (k : ℕ) → ((i : ℕ) → P i → Q i) → ((i : ℕ) → Q i → P i) → IsLeast Q k → IsLeast P k
same_least P Q k out back L = record { meets = back k L.meets; least = λ i l p. L.least i l (out i p) }

pub least_zero : (P : ℕ → Type 0) → P 0 → IsLeast P 0
least_zero P h = record { meets = h; least = λ i l p. absurd (omega arith) }
