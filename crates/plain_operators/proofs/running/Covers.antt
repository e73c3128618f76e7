-- The least number of periods after which one period covers all that came before.
use Rattle.std.specs.Prelude.{◌≡◌, ℕ, ◌<◌, pos}
use Rattle.std.proofs.Common.{arith, sym, ap, ◌∙◌, subst, inl, inr}
use Rattle.rational.specs.Rational.{ℚ, ◌+ℚ◌, ◌-ℚ◌, ◌*ℚ◌, ◌/ℚ◌, ◌≤ℚ◌, ◌<ℚ◌, int}
use Rattle.rational.specs.Gauge.{size_up}
use Rattle.rational.specs.Extended.{Ext, ◌≤ₑ◌, ◌+ₑ◌}
use Rattle.rational.specs.declared.Extended.TheVariants.{Fin}
use Rattle.rational.proofs.Grid.{within_nonneg}
use Rattle.rational.proofs.Linear.{with1, with2, with3, with4}
use Rattle.rational.proofs.Laws.{le_refl, le_of_lt, le_or_lt, le_trans, lt_irrefl, lt_le_trans, mul_le_mul_right, mul_lt_mul_right, mul_sub, mul_zero, div_mul, not_zero, lt_of_mul, zero_mul}
use Rattle.rational.proofs.Integers.{nat_nonneg}
use Rattle.rational.proofs.ExtendedOrder.{le_ext_trans}
use Rattle.rational.proofs.Bounds.{smallest}
use Rattle.upp_limits.specs.declared.op_kind.OpKind.TheVariants.{RunSup}
use Rattle.upp_curve.specs.Curve.{SpecCurve, value_at}
use Rattle.min_plus.specs.Functions.{zero_q}
use Rattle.upp_curve.specs.Steady.{Repeats, steady, rise_over}
use Rattle.upp_limits.specs.Periods.{own_period, periods_after}
use Rattle.upp_limits.specs.Windows.{IsCovered, IsLeast, Meets}
use Rattle.upp_limits.proofs.CommonDen.{size_up_within, size_up_least}
use Rattle.min_plus.proofs.Rates.{enough}
use Rattle.upp_curve.proofs.Repeats.{repeats_times}
use Rattle.plain_operators.specs.running.Scans.{Until, IsSupremumIn}
use Rattle.plain_operators.specs.running.Periods.{IsCover, IsCovering, IsCoveredAfter}
use Rattle.plain_operators.proofs.running.Shifts.{period_supremum}

-- ---- the number
pub no_cover : (early once rise : ℚ) → early ≤ℚ once → IsCover early once rise 0
no_cover early once rise h = record {
  enough = let z = zero_mul rise in let p = int (pos 0) *ℚ rise in with3 early once p (λ c. omega (arith, c.le, c.lt, c.same));
  least = λ i l. absurd (omega arith);
}

pub cover_is : (early once rise gap number : ℚ) (k : ℕ) → zero_q <ℚ rise → once <ℚ early → gap ≡ early -ℚ once → number ≡ gap /ℚ rise → k ≡ size_up number
    → IsCover early once rise k
cover_is early once rise gap number k rises more g n e = record { enough = up; least = down }
  where
    product : number *ℚ rise ≡ early -ℚ once
    product = ap (λ x. x *ℚ rise) n ∙ div_mul gap rise (not_zero rise rises) ∙ g

    some : zero_q ≤ℚ number
    some = le_of_lt (lt_of_mul rise zero_q number rises (subst (λ x. x <ℚ number *ℚ rise) (sym (zero_mul rise))
        (subst (λ x. zero_q <ℚ x) (sym product) (with2 early once (λ c. omega (arith, c.le, c.lt, c.same))))))

    up : early ≤ℚ once +ℚ int (pos k) *ℚ rise
    up =
        let l : number ≤ℚ int (pos k) = subst (λ m. number ≤ℚ int (pos m)) (sym e) (size_up_within number).high in
        let m = mul_le_mul_right rise (le_of_lt rises) l in
        let p = number *ℚ rise in
        let q = int (pos k) *ℚ rise in
        let s = product in
        with4 early once p q (λ c. omega (arith, c.le, c.lt, c.same))

    down : (i : ℕ) → i < k → once +ℚ int (pos i) *ℚ rise <ℚ early
    down i l = elim (le_or_lt number (int (pos i))) [
      | inl h ↦ let b = size_up_least i number (within_nonneg (int (pos i)) number some h) in absurd (omega (arith, b, e, l))
      | inr h ↦
          let m = mul_lt_mul_right rise rises h in
          let p = number *ℚ rise in
          let q = int (pos i) *ℚ rise in
          let s = product in
          with4 early once p q (λ c. omega (arith, c.le, c.lt, c.same))
    ]

-- ---- what it says of a function that repeats
-- enough falls take a level below 0
fallen : (level c : ℚ) (n : ℕ) → level +ℚ int (pos 1) ≤ℚ zero_q +ℚ int (pos n) *ℚ (zero_q -ℚ c) → zero_q ≤ℚ level +ℚ int (pos n) *ℚ c → ⊥
fallen level c n h k =
    let turned = mul_sub (int (pos n)) zero_q c in
    let none = mul_zero (int (pos n)) in
    apart level (int (pos n) *ℚ c) (int (pos n) *ℚ zero_q) (int (pos n) *ℚ (zero_q -ℚ c)) turned none h k
  where
    apart : (level p q s : ℚ) → s ≡ q -ℚ p → q ≡ zero_q → level +ℚ int (pos 1) ≤ℚ zero_q +ℚ s → zero_q ≤ℚ level +ℚ p → ⊥
    apart level p q s e z h k = lt_irrefl level (with4 level p q s (λ c. omega (arith, c.le, c.lt, c.same)))

-- a function that repeats and is nowhere below 0 does not fall over a period
pub no_fall : (f : ℚ → Ext) (r d c level : ℚ) → zero_q ≤ℚ r → zero_q <ℚ d → Repeats f r d c → f r ≡ Fin level → ((t : ℚ) → zero_q ≤ℚ t → Fin zero_q ≤ₑ f t) → zero_q ≤ℚ c
no_fall f r d c level low some F e nonneg = elim (le_or_lt zero_q c) [ inl h ↦ h | inr h ↦ absurd (falls h) ]
  where
    falls : c <ℚ zero_q → ⊥
    falls h =
        let (n, l) = enough zero_q (level +ℚ int (pos 1)) (zero_q -ℚ c) (with1 c (λ q. omega (arith, q.le, q.lt, q.same))) in
        let far = int (pos n) *ℚ d in
        let up : zero_q ≤ℚ far = subst (λ x. x ≤ℚ far) (zero_mul d) (mul_le_mul_right d (le_of_lt some) (nat_nonneg n)) in
        let there : f (r +ℚ far) ≡ Fin (level +ℚ int (pos n) *ℚ c) = (repeats_times f r d c n (le_of_lt some) F).rule r (le_refl r) ∙ ap (λ v. v +ₑ Fin (int (pos n) *ℚ c)) e in
        fallen level c n l (subst (λ v. Fin zero_q ≤ₑ v) there (nonneg (r +ℚ far) (with2 r far (λ q. omega (arith, q.le, q.lt, q.same)))))

-- n periods on the supremum of a period is n rises higher
later_supremum : (f : ℚ → Ext) (start d c once : ℚ) (k : ℕ) → zero_q <ℚ d → Repeats f start d c → IsSupremumIn f start (start +ℚ d) (Fin once)
    → IsSupremumIn f (periods_after start k d) (periods_after start k d +ℚ d) (Fin (once +ℚ int (pos k) *ℚ c))
later_supremum f start d c once k some F h = period_supremum f start d c k (Fin once) (le_of_lt some) F h

pub covered_in : (f : ℚ → Ext) (start d c : ℚ) (k : ℕ) → zero_q <ℚ d → Repeats f start d c → IsCovering f start d c k → IsCovered f (periods_after start k d) d start
covered_in f start d c k some F C b under s low early =
    let high = once_at in
    le_ext_trans (f s) (Fin C.early) (Fin b) (C.before.above record { at = s; least = low; early = early })
    (le_ext_trans (Fin C.early) (Fin (C.once +ℚ int (pos k) *ℚ c)) (Fin b) C.cover.enough
    (smallest {I = Until (periods_after start k d) (periods_after start k d +ℚ d)} (λ u. f u.at) (Fin (C.once +ℚ int (pos k) *ℚ c)) (Fin b) high
    (λ u. under u.at u.least u.early)))
  where
    once_at : IsSupremumIn f (periods_after start k d) (periods_after start k d +ℚ d) (Fin (C.once +ℚ int (pos k) *ℚ c))
    once_at = later_supremum f start d c C.once k some F C.within

pub not_covered : (f : ℚ → Ext) (start d c : ℚ) (k i : ℕ) → zero_q <ℚ d → Repeats f start d c → IsCovering f start d c k → i < k
    → IsCovered f (periods_after start i d) d start → ⊥
not_covered f start d c k i some F C l covered =
    let S = later_supremum f start d c C.once i some F C.within in
    let b = C.once +ℚ int (pos i) *ℚ c in
    let bound : C.early ≤ℚ b =
    smallest {I = Until zero_q start} (λ u. f u.at) (Fin C.early) (Fin b) C.before
    (λ u. covered b (λ t low early. S.above record { at = t; least = low; early = early }) u.at u.least u.early) in
    lt_irrefl b (lt_le_trans (C.cover.least i l) bound)

-- ---- the least number of a curve
pub least_by_cover : (f : SpecCurve) (start d c : ℚ) (k : ℕ) → start ≡ steady f → d ≡ own_period f → c ≡ rise_over f d → zero_q <ℚ d → zero_q <ℚ c
    → Repeats (value_at f) start d c
    → IsCovering (value_at f) start d c k → IsLeast (Meets RunSup f f) k
least_by_cover f start d c k s p r some rises F C = record {
  meets = inr (subst (λ z. IsCovered (value_at f) (periods_after z k (own_period f)) (own_period f) z) s
      (subst (λ z. IsCovered (value_at f) (periods_after start k z) z start) p (covered_in (value_at f) start d c k some F C)));
  least = λ i l m. none i l m;
}
  where
    none : (i : ℕ) → i < k → Meets RunSup f f i → ⊥
    none i l (inl e) = lt_irrefl zero_q (subst (λ z. zero_q <ℚ z) (r ∙ ap (rise_over f) p ∙ e) rises)
    none i l (inr h) =
        not_covered (value_at f) start d c k i some F C l
        (subst (λ z. IsCovered (value_at f) (periods_after start i z) z start) (sym p)
        (subst (λ z. IsCovered (value_at f) (periods_after z i (own_period f)) (own_period f) z) (sym s) h))

pub covered_by_cover : (f : SpecCurve) (start d c : ℚ) (k : ℕ) → zero_q <ℚ d → Repeats (value_at f) start d c → IsCovering (value_at f) start d c k → IsCoveredAfter f start d c k
covered_by_cover f start d c k some F C =
    inr (inr (
      Fin (C.once +ℚ int (pos k) *ℚ c),
      later_supremum (value_at f) start d c C.once k some F C.within,
      λ s low early. le_ext_trans (value_at f s) (Fin C.early) (Fin (C.once +ℚ int (pos k) *ℚ c)) (C.before.above record { at = s; least = low; early = early }) C.cover.enough,
    ))

-- a curve that does not rise over a period needs none
pub least_flat : (f : SpecCurve) → rise_over f (own_period f) ≡ zero_q → IsLeast (Meets RunSup f f) 0
least_flat f e = record { meets = inl e; least = λ i l m. absurd (omega arith) }

-- nor does one that repeats from 0 on: nothing comes before
pub least_from_zero : (f : SpecCurve) → steady f ≤ℚ zero_q → IsLeast (Meets RunSup f f) 0
least_from_zero f h = record {
  meets = inr (λ b under s low early. absurd (lt_irrefl s (lt_le_trans early (le_trans h low))));
  least = λ i l m. absurd (omega arith);
}

pub later_end : (s d : ℚ) → zero_q <ℚ d → s <ℚ s +ℚ d
later_end s d h = with2 s d (λ c. omega (arith, c.le, c.lt, c.same))
