-- What fits of the numbers of a curve whose own gauge is below 2 ^ 120.
use Rattle.std.specs.Prelude.{◌≡◌, ◌+◌, ◌*◌, ◌<◌, ◌≤◌, ◌^◌, pos}
use Rattle.std.proofs.Common.{arith, sym, ap, ◌∙◌, subst}
use Rattle.rational.specs.Rational.{ℚ, ◌+ℚ◌, ◌*ℚ◌, ◌≤ℚ◌, int, neg_ℚ}
use Rattle.rational.specs.Ratio.{IsSmall, SumFits}
use Rattle.rational.specs.Grid.{Whole, Within}
use Rattle.rational.proofs.Grid.{within_nonneg}
use Rattle.rational.proofs.Sizes.{largest_part, difference_on_grid}
use Rattle.rational.proofs.Integers.{int_mul, int_add, nat_le}
use Rattle.rational.proofs.Laws.{le_trans, one_mul}
use Rattle.upp_curve.specs.Curve.{SpecCurve}
use Rattle.min_plus.specs.Functions.{zero_q}
use Rattle.upp_curve.specs.Normal.{IsRaw}
use Rattle.upp_limits.specs.Limits.{own_end, own_sizes, own_gauge}
use Rattle.upp_limits.specs.Sized.{IsValue, IsSlope, AreSizes, CurveStands}
use Rattle.upp_limits.proofs.NarrowSizes.{IsNarrow, narrow_gauge, grids_narrow, small_number, value_whole, value_within, run_whole, run_within}
use Rattle.upp_limits.proofs.OwnGauge.{large, end_within}
use Rattle.upp_limits.proofs.CurveStands.{own_are_sizes, own_stands}

-- the sizes of a curve with a small gauge, and that its numbers stand so
pub record Held (c : SpecCurve) : Type 0 where
  pub sizes : AreSizes (own_sizes c) (own_end c)
  pub narrow : IsNarrow (own_sizes c) (2 ^ 122)
  pub stands : CurveStands (own_sizes c) c

pub held : (c : SpecCurve) → IsRaw c → own_gauge c < 2 ^ 120 → Held c
held c raw small = record {
  sizes = own_are_sizes c;
  narrow = narrow_gauge (own_sizes c) (own_end c) (own_are_sizes c) (omega (arith, small));
  stands = own_stands c raw;
}

-- where what a small gauge would give is not so, the curve is too wide
pub too_wide : (c : SpecCurve) (P : Type 0) → (own_gauge c < 2 ^ 120 → P) → (P → ⊥) → 2 ^ 120 ≤ own_gauge c
too_wide c P f n = large (own_gauge c) (2 ^ 120) (λ h. n (f h))

-- a slope times a time of the window
pub run_small : (c : SpecCurve) (s x : ℚ) → Held c → IsSlope (own_sizes c) s → Whole (own_sizes c).dt x → zero_q ≤ℚ x → x ≤ℚ own_end c → IsSmall (s *ℚ x)
run_small c s x H h w low early =
    let z = own_sizes c in
    small_number z (own_end c) 1 (s *ℚ x) H.sizes H.narrow (omega arith) (run_whole z s x h w)
    (subst (λ m. Within m (s *ℚ x)) (sym (one_mul (int (pos z.largest)))) (run_within z (own_end c) s x H.sizes h low early))

pub value_small : (c : SpecCurve) (v : ℚ) → Held c → IsValue (own_sizes c) v → IsSmall v
value_small c v H h =
    let z = own_sizes c in
    small_number z (own_end c) 1 v H.sizes H.narrow (omega arith) (value_whole z v h) (value_within z v h)

-- the difference of two times of the window
pub gap_fits : (c : SpecCurve) (a b : ℚ) → Held c → Whole (own_sizes c).dt a → Whole (own_sizes c).dt b → zero_q ≤ℚ a → zero_q ≤ℚ b → a ≤ℚ own_end c → b ≤ℚ own_end c → SumFits a (neg_ℚ b)
gap_fits c a b H wa wb na nb la lb =
    let z = own_sizes c in
    let V = int (pos z.largest) in
    let early = end_within z (own_end c) H.sizes (le_trans na la) in
    let t = H.narrow.times in
    let g = (grids_narrow z (own_end c) (2 ^ 122) H.sizes H.narrow).0 in
    let whole : (V +ℚ V) *ℚ int (pos z.dt) ≡ int (pos ((z.largest + z.largest) * z.dt)) = ap (λ x. x *ℚ int (pos z.dt)) (int_add (pos z.largest) (pos z.largest)) ∙ int_mul (pos (z.largest + z.largest)) (pos z.dt) in
    difference_on_grid z.dt V V a b H.sizes.dt (omega (arith, g))
    (subst (λ x. x ≤ℚ int (pos largest_part)) (sym whole) (nat_le ((z.largest + z.largest) * z.dt) largest_part (omega (arith, t)))) wa wb
    (within_nonneg V a na (le_trans la early)) (within_nonneg V b nb (le_trans lb early))
