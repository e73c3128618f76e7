-- Below for a period, below ever after: each later period adds no more to the slower curve than to the faster.
use Rattle.std.specs.Prelude.{ℕ, pos}
use Rattle.std.proofs.Common.{arith, sym, subst, inl, inr}
use Rattle.rational.specs.Rational.{ℚ, ◌+ℚ◌, ◌*ℚ◌, ◌≤ℚ◌, ◌<ℚ◌, int}
use Rattle.rational.specs.Extended.{◌≤ₑ◌, ◌<ₑ◌, ◌+ₑ◌}
use Rattle.rational.specs.declared.Extended.TheVariants.{Fin}
use Rattle.rational.proofs.Linear.{with2}
use Rattle.rational.proofs.Laws.{le_trans, le_of_lt, mul_nonneg, mul_le_mul}
use Rattle.rational.proofs.Integers.{nat_nonneg}
use Rattle.rational.proofs.ExtendedOrder.{add_le_ext}
use Rattle.upp_curve.specs.Curve.{SpecCurve, value_at}
use Rattle.upp_curve.specs.Steady.{Repeats, rise_over, rate}
use Rattle.upp_limits.specs.Windows.{IsBelowFor}
use Rattle.upp_curve.proofs.Steady.{steady_rule}
use Rattle.curve_call.specs.Ever.{IsBelowFrom, RepeatsBy, BelowEverAfter}
use Rattle.curve_call.proofs.Shifts.{later_value}
use Rattle.curve_call.proofs.LeastNumber.{gains}
use Rattle.curve_call.proofs.MostAbove.{moved_back}
use Rattle.upp_normal.proofs.UnrollSteps.{ext_cases}

pub repeats_by : (from d : ℚ) (c : SpecCurve) → int (pos 0) <ℚ d → RepeatsBy from d c → Repeats (value_at c) from d (rise_over c d)
repeats_by from d c some R = record { rule = λ t h. (steady_rule c d R.curve.normal.raw R.periods (le_of_lt some)).rule t (le_trans R.steady_by h) }

-- n periods more
more_periods : (slow fast : SpecCurve) (from d u : ℚ) (n : ℕ) → int (pos 0) <ℚ d → RepeatsBy from d slow → RepeatsBy from d fast → rate slow <ₑ rate fast → from ≤ℚ u → value_at slow u ≤ₑ value_at fast u
    → value_at slow (u +ℚ int (pos n) *ℚ d) ≤ₑ value_at fast (u +ℚ int (pos n) *ℚ d)
more_periods slow fast from d u n some F G faster low below =
    let a = rise_over slow d in
    let b = rise_over fast d in
    let N = int (pos n) in
    let slow_later = later_value (value_at slow) from d a u n (le_of_lt some) (repeats_by from d slow some F) low in
    let fast_later = later_value (value_at fast) from d b u n (le_of_lt some) (repeats_by from d fast some G) low in
    subst (λ v. v ≤ₑ value_at fast (u +ℚ N *ℚ d)) (sym slow_later) (subst (λ v. value_at slow u +ₑ Fin (N *ℚ a) ≤ₑ v) (sym fast_later)
    (elim (ext_cases (value_at fast u)) [
      | inl e ↦ subst (λ v. value_at slow u +ₑ Fin (N *ℚ a) ≤ₑ v +ₑ Fin (N *ℚ b)) (sym e) tt
      | inr (v, e) ↦
          let gain = gains slow fast d u v G.curve some faster (le_trans G.steady_by low) e in
          let less : a ≤ℚ b = with2 a b (λ c. omega (arith, c.le, c.lt, c.same)) in
          add_le_ext (value_at slow u) (value_at fast u) (Fin (N *ℚ a)) (Fin (N *ℚ b)) below (mul_le_mul N (nat_nonneg n) less)
    ]))

below_from : (slow fast : SpecCurve) (from d start : ℚ) → int (pos 0) <ℚ d → RepeatsBy from d slow → RepeatsBy from d fast → rate slow <ₑ rate fast → from ≤ℚ start → IsBelowFor (value_at slow) (value_at fast) start d
    → IsBelowFrom (value_at slow) (value_at fast) start
below_from slow fast from d start some F G faster low below t h =
    let B = moved_back (value_at slow) start d (rise_over slow d) t some record { rule = λ s k. (repeats_by from d slow some F).rule s (le_trans low k) } h in
    subst (λ s. value_at slow s ≤ₑ value_at fast s) B.back
    (more_periods slow fast from d B.early B.number some F G faster (le_trans low B.among.start) (below B.early B.among.start B.among.before))

pub ever_after : BelowEverAfter
ever_after f g from d k some F G below =
    let y = int (pos k) *ℚ d in
    let start = from +ℚ y in
    let later : int (pos 0) ≤ℚ y = mul_nonneg (nat_nonneg k) (le_of_lt some) in
    let low : from ≤ℚ start = with2 from y (λ c. omega (arith, c.le, c.lt, c.same)) in
    record {
      first = λ h. below_from f g from d start some F G h low (below.first h);
      second = λ h. below_from g f from d start some G F h low (below.second h);
    }
