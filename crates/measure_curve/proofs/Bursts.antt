-- The vertical deviation of a curve that stays below some number, and of a line: the least burst.
use Rattle.std.specs.Prelude.{◌≡◌}
use Rattle.std.proofs.Common.{arith, refl, sym, ◌∙◌}
use Rattle.rational.specs.Rational.{ℚ, ◌+ℚ◌, ◌*ℚ◌, ◌≤ℚ◌}
use Rattle.rational.specs.Extended.{Ext, ◌≤ₑ◌, ◌<ₑ◌, ◌-ₑ◌}
use Rattle.rational.specs.declared.Extended.TheVariants.{Fin, Inf}
use Rattle.rational.proofs.Linear.{with2, with3, with4}
use Rattle.rational.proofs.Laws.{mul_nonneg, lt_irrefl}
use Rattle.rational.proofs.Bounds.{smallest}
use Rattle.rational.proofs.ExtendedOrder.{fin_same}
use Rattle.min_plus.specs.Functions.{zero_q, FiniteTime, IsFinite}
use Rattle.min_plus.specs.Deviations.{IsVerticalDeviation}
use Rattle.upp_curve.specs.Curve.{value_at}
use Rattle.upp_curve.specs.Kinds.{bucket}
use Rattle.upp_curve.proofs.KindValues.{bucket_is}
use Rattle.measure_curve.specs.Bursts.{IsBounded, IsLeastBurst}

pub line_finite : (rate : ℚ) → IsFinite (value_at (bucket zero_q rate))
line_finite rate = λ t h. (zero_q +ℚ rate *ℚ t, (bucket_is zero_q rate).is t h)

-- what the line has at a time at which it is a number
line_level : (rate : ℚ) (i : FiniteTime (value_at (bucket zero_q rate))) → i.level ≡ zero_q +ℚ rate *ℚ i.at
line_level rate i = fin_same (sym i.is ∙ (bucket_is zero_q rate).is i.at i.nonneg)

abbrev at_time : (rate t : ℚ) → zero_q ≤ℚ t → FiniteTime (value_at (bucket zero_q rate))
at_time rate t h = record { at = t; nonneg = h; level = zero_q +ℚ rate *ℚ t; is = (bucket_is zero_q rate).is t h }

-- ---- it is no infinity
below_most : (x most level : ℚ) (v : Ext) → v ≤ₑ Fin most → zero_q ≤ℚ level → Fin most <ₑ (v -ₑ level) → ⊥
below_most x most level Inf h l k = h
below_most x most level (Fin y) h l k = lt_irrefl most (with3 y most level (λ c. omega (arith, c.le, c.lt, c.same)))

pub not_infinite : (f : ℚ → Ext) (rate : ℚ) → IsBounded f → zero_q ≤ℚ rate → IsVerticalDeviation f (value_at (bucket zero_q rate)) Inf → ⊥
not_infinite f rate b r dev =
    let (i, more) = dev.near b.most tt in
    let run = mul_nonneg r i.nonneg in
    let e = line_level rate i in
    below_most zero_q b.most i.level (f i.at) (b.above i.at i.nonneg)
    (with2 i.level (rate *ℚ i.at) (λ c. omega (arith, c.le, c.lt, c.same))) more

-- ---- it is the least burst
over_line : (v : Ext) (level burst run : ℚ) → (v -ₑ level) ≤ₑ Fin burst → level ≡ zero_q +ℚ run → v ≤ₑ Fin (burst +ℚ run)
over_line Inf level burst run h e = h
over_line (Fin y) level burst run h e = with4 y level burst run (λ c. omega (arith, c.le, c.lt, c.same))

under_line : (v : Ext) (level burst run : ℚ) → v ≤ₑ Fin (burst +ℚ run) → level ≡ zero_q +ℚ run → (v -ₑ level) ≤ₑ Fin burst
under_line Inf level burst run h e = h
under_line (Fin y) level burst run h e = with4 y level burst run (λ c. omega (arith, c.le, c.lt, c.same))

pub least_burst : (f : ℚ → Ext) (rate burst : ℚ) → IsVerticalDeviation f (value_at (bucket zero_q rate)) (Fin burst) → IsLeastBurst f rate burst
least_burst f rate burst dev = record {
  above = λ t h. over_line (f t) (zero_q +ℚ rate *ℚ t) burst (rate *ℚ t) (dev.above (at_time rate t h)) refl;
  least = λ b h. smallest (λ (i : FiniteTime (value_at (bucket zero_q rate))). f i.at -ₑ i.level) (Fin burst) (Fin b) dev
      (λ i. under_line (f i.at) i.level b (rate *ℚ i.at) (h i.at i.nonneg) (line_level rate i));
}
