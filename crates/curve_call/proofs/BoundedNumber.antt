-- The least number of periods is there where some number is enough, and it is between the bounds.
use Rattle.std.specs.Prelude.{◌≡◌, ℕ, ◌≤◌, pos, Option, Some, None, IfSome}
use Rattle.std.proofs.Common.{arith, sym, subst, inl, inr}
use Rattle.std.proofs.lemmas.Bool.{cases_lt}
use Rattle.rational.specs.Rational.{ℚ, ◌+ℚ◌, ◌-ℚ◌, ◌*ℚ◌, ◌/ℚ◌, ◌≤ℚ◌, ◌<ℚ◌, int}
use Rattle.rational.specs.Gauge.{size_up}
use Rattle.rational.specs.Extended.{Ext, ◌≤ₑ◌, ◌<ₑ◌, ◌+ₑ◌}
use Rattle.rational.specs.declared.Extended.TheVariants.{Fin, Inf}
use Rattle.rational.proofs.Laws.{le_or_lt, le_refl}
use Rattle.rational.proofs.ExtendedOrder.{le_ext_trans, add_le_ext, le_ext_refl}
use Rattle.rational.proofs.Linear.{with2, with3}
use Rattle.upp_curve.specs.Curve.{SpecCurve, value_at}
use Rattle.upp_curve.specs.Steady.{rate, rise_over}
use Rattle.upp_limits.specs.Limits.{Sizes}
use Rattle.upp_limits.specs.Windows.{IsLeast}
use Rattle.curve_call.specs.declared.bounds.Bounds.{Bounds}
use Rattle.curve_call.specs.declared.gaps.Gap.{Gap}
use Rattle.curve_call.specs.declared.gaps.Gap.TheVariants.{NoTime, Never, Is}
use Rattle.curve_call.specs.Gaps.{InWindow, IsGap}
use Rattle.curve_call.specs.GapSteps.{gap_of}
use Rattle.curve_call.specs.Compared.{AreCompared, IsEnough}
use Rattle.curve_call.specs.Bounds.{AreBounds, IsMost}
use Rattle.curve_call.proofs.Shifts.{same_least}
use Rattle.curve_call.proofs.EitherOrder.{first_in, second_in, of_equal}
use Rattle.curve_call.proofs.GapThere.{gap_there}
use Rattle.curve_call.proofs.LeastNumber.{number_zero, number_least, largest_finite, lead_is, compared_window, IsBelowAfter, after_in, after_out, least_none, least_endless, least_gap}

-- ---- it is there
pub least_found : (q e : ℚ) → int (pos 0) <ℚ e → (k : ℕ) × IsLeast (λ i. q ≤ℚ int (pos i) *ℚ e) k
least_found q e lead = elim (le_or_lt q (int (pos 0))) [ inl l ↦ (0, number_zero q e l) | inr l ↦ (size_up (q /ℚ e), number_least q e l lead) ]

least_of : (z : Sizes) (from d : ℚ) (slow fast : SpecCurve) (k : ℕ) (gap : Gap) → rate slow <ₑ rate fast → AreCompared z from d slow fast → IsBelowAfter slow fast from d k
    → IsGap (InWindow from (from +ℚ d)) (value_at slow) (value_at fast) gap → (n : ℕ) × IsLeast (IsBelowAfter slow fast from d) n
least_of z from d slow fast k NoTime faster C enough G = (0, least_none z from d slow fast C.first.curve C.second.curve C G)
least_of z from d slow fast k Never faster C enough G = absurd (least_endless z from d slow fast C.first.curve C.second.curve C G k enough)
least_of z from d slow fast k (Is q) faster C enough G =
    let finite = largest_finite from (from +ℚ d) q slow fast G in
    let L = lead_is z from d slow fast faster C finite.0 finite.1 in
    let (n, least) = least_found q (rise_over fast d -ℚ rise_over slow d) L.some in
    (n, least_gap z from d slow fast q n C.first.curve C.second.curve C G least)

some_least : (z : Sizes) (from d : ℚ) (slow fast : SpecCurve) (k : ℕ) → rate slow <ₑ rate fast → AreCompared z from d slow fast → IsBelowAfter slow fast from d k → (n : ℕ) × IsLeast (IsBelowAfter slow fast from d) n
some_least z from d slow fast k faster C enough =
    let (V, W, T) = compared_window z from d slow fast C.first.curve C.second.curve C in
    let (gap, G) = gap_there z slow fast from (from +ℚ d) V W T in
    least_of z from d slow fast k gap faster C enough G

-- ---- where the number that bounds the gap is reached, so many periods are enough
enough_by : (z : Sizes) (from d : ℚ) (slow fast : SpecCurve) (q : ℚ) (k : ℕ) → AreCompared z from d slow fast → IsMost from d slow fast q → q ≤ℚ int (pos k) *ℚ (rise_over fast d -ℚ rise_over slow d)
    → IsBelowAfter slow fast from d k
enough_by z from d slow fast q k C M h =
    let y = int (pos k) *ℚ (rise_over fast d -ℚ rise_over slow d) in
    after_in z from d slow fast k C.first.curve C.second.curve C
    (λ t i. le_ext_trans (value_at slow t) (value_at fast t +ₑ Fin q) (value_at fast t +ₑ Fin y) (M.within t i) (add_le_ext (value_at fast t) (value_at fast t) (Fin q) (Fin y) (le_ext_refl (value_at fast t)) h))

pub bounds_are : (z : Sizes) (from d : ℚ) (slow fast : SpecCurve) (q e : ℚ) (b : Bounds) → rate slow <ₑ rate fast → AreCompared z from d slow fast → IsMost from d slow fast q
    → e ≡ rise_over fast d -ℚ rise_over slow d → IsLeast (λ k. q ≤ℚ int (pos k) *ℚ e) b.high → ((k : ℕ) → IsBelowAfter slow fast from d k → b.low ≤ k) → AreBounds (IsBelowAfter slow fast from d) b
bounds_are z from d slow fast q e b faster C M same high low =
    let enough = enough_by z from d slow fast q b.high C M (subst (λ x. q ≤ℚ int (pos b.high) *ℚ x) same high.meets) in
    let (n, least) = some_least z from d slow fast b.high faster C enough in
    record { number = n; least = least; low = low n least.meets; high = at_most (IsBelowAfter slow fast from d) n b.high least enough }
  where
    at_most : (P : ℕ → Type 0) (n k : ℕ) → IsLeast P n → P k → n ≤ k
    at_most P n k L h = elim (cases_lt k n) [ inl l ↦ absurd (L.least k l h) | inr l ↦ l ]

-- ---- the lower one, from the gap at the start
gap_small : (x y : Ext) (q v : ℚ) → gap_of x y ≡ Is q → x ≤ₑ y +ₑ Fin v → q ≤ℚ v
gap_small x Inf q v e h = absurd (other e)
  where
    other : NoTime ≡ Is q → ⊥
    other e = cc
gap_small Inf (Fin y) q v e h = absurd h
gap_small (Fin x) (Fin y) q v e h =
    let same : x -ℚ y ≡ q = inside e in
    subst (λ w. w ≤ℚ v) same (with3 x y v (λ c. omega (arith, c.le, c.lt, c.same)))
  where
    inside : Is (x -ℚ y) ≡ Is q → x -ℚ y ≡ q
    inside e = cc

pub low_is : (z : Sizes) (from d : ℚ) (slow fast : SpecCurve) (q e : ℚ) (n : ℕ) → AreCompared z from d slow fast → Is q ≡ gap_of (value_at slow from) (value_at fast from)
    → e ≡ rise_over fast d -ℚ rise_over slow d → IsLeast (λ k. q ≤ℚ int (pos k) *ℚ e) n → (k : ℕ) → IsBelowAfter slow fast from d k → n ≤ k
low_is z from d slow fast q e n C there same L k enough =
    let w = after_out z from d slow fast k C.first.curve C.second.curve C enough in
    let some = C.some in
    let y = int (pos k) *ℚ (rise_over fast d -ℚ rise_over slow d) in
    let bound : q ≤ℚ y = gap_small (value_at slow from) (value_at fast from) q y (sym there) (w from record { start = le_refl from; before = with2 from d (λ c. omega (arith, c.le, c.lt, c.same)) }) in
    elim (cases_lt k n) [ inl l ↦ absurd (L.least k l (subst (λ x. q ≤ℚ int (pos k) *ℚ x) (sym same) bound)) | inr l ↦ l ]

-- ---- either order of the rates
pub bounds_first : (f g : SpecCurve) (from d : ℚ) (b : Bounds) → rate f <ₑ rate g → AreBounds (IsBelowAfter f g from d) b → AreBounds (IsEnough f g from d) b
bounds_first f g from d b h B = record {
  number = B.number;
  least = same_least (IsEnough f g from d) (IsBelowAfter f g from d) B.number (λ i w. w.first h) (λ i w. first_in f g from d i h w) B.least;
  low = B.low;
  high = B.high;
}

pub bounds_second : (f g : SpecCurve) (from d : ℚ) (b : Bounds) → rate g <ₑ rate f → AreBounds (IsBelowAfter g f from d) b → AreBounds (IsEnough f g from d) b
bounds_second f g from d b h B = record {
  number = B.number;
  least = same_least (IsEnough f g from d) (IsBelowAfter g f from d) B.number (λ i w. w.second h) (λ i w. second_in f g from d i h w) B.least;
  low = B.low;
  high = B.high;
}

pub bounds_equal : (f g : SpecCurve) (from d : ℚ) (b : Bounds) → ¬ (rate f <ₑ rate g) → ¬ (rate g <ₑ rate f) → b.low ≡ 0 → b.high ≡ 0 → AreBounds (IsEnough f g from d) b
bounds_equal f g from d b h k low high = record { number = 0; least = of_equal f g from d h k; low = omega (arith, low); high = omega (arith, high) }

pub bounds_first_if : (f g : SpecCurve) (from d : ℚ) (r : Option Bounds) → rate f <ₑ rate g → IfSome r (AreBounds (IsBelowAfter f g from d)) → IfSome r (AreBounds (IsEnough f g from d))
bounds_first_if f g from d None h B = tt
bounds_first_if f g from d (Some b) h B = bounds_first f g from d b h B

pub bounds_second_if : (f g : SpecCurve) (from d : ℚ) (r : Option Bounds) → rate g <ₑ rate f → IfSome r (AreBounds (IsBelowAfter g f from d)) → IfSome r (AreBounds (IsEnough f g from d))
bounds_second_if f g from d None h B = tt
bounds_second_if f g from d (Some b) h B = bounds_second f g from d b h B
