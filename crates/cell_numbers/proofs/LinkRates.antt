-- The rate of a link is nowhere below 0, and so its bucket is refused only for want of memory.
use Rattle.std.specs.Prelude.{◌≡◌, ◌⊎◌, ◌↔◌, ℕ, Option, Some, None, Result, Err, slice_get}
use Rattle.std.proofs.Common.{refl, ap, subst, inl, inr}
use Rattle.rational.specs.Rational.{ℚ, ◌≤ℚ◌, ◌<ℚ◌}
use Rattle.rational.proofs.Laws.{le_refl, le_of_lt, lt_irrefl, le_lt_trans}
use Rattle.rational.proofs.Integers.{nat_nonneg}
use Rattle.min_plus.specs.Functions.{zero_q}
use Rattle.run_laws.specs.Cards.{whole}
use Rattle.upp_curve.specs.Curve.{SpecCurve}
use Rattle.curve_library.specs.Causes.{OneNegative}
use Rattle.curve_library.specs.declared.fault.CurveFault.{CurveFault}
use Rattle.curve_library.specs.declared.fault.CurveFault.TheVariants.{Negative, NoMemory}
use Rattle.net_model.specs.Networks.{Net, NetServer}
use Rattle.net_model.specs.Accepted.{IsServer, IsAccepted}
use Rattle.net_cells.specs.Numbered.{rate, rate_of}
use Rattle.net_cells.proofs.Stored.{server_kept}

-- ---- rates
of_found : (o : Option NetServer) → ((s : NetServer) → o ≡ Some s → IsServer s) → zero_q ≤ℚ rate_of o
of_found None h = le_refl zero_q
of_found (Some s) h = le_of_lt (h s refl).rate

pub rate_low : (net : Net) (n : ℕ) → IsAccepted net → zero_q ≤ℚ rate net n
rate_low net n ok = of_found (slice_get net.servers n) (λ s e. server_kept net n s ok e)

-- ---- buckets
not_below : (x : ℚ) → zero_q ≤ℚ x → x <ℚ zero_q → ⊥
not_below x low less = lt_irrefl zero_q (le_lt_trans low less)

none_below : (bits : ℕ) (r : ℚ) → zero_q ≤ℚ r → OneNegative (whole bits) r → ⊥
none_below bits r low (inl h) = not_below (whole bits) (nat_nonneg bits) h
none_below bits r low (inr h) = not_below r low h

-- a fault of it is want of memory
pub only_memory : (bits : ℕ) (b r : ℚ) (e : CurveFault) → b ≡ whole bits → zero_q ≤ℚ r
    → (◌≡◌ {A = Result SpecCurve CurveFault} (Err e) (Err Negative) ↔ OneNegative b r) → (e ≡ Negative) ⊎ (e ≡ NoMemory)
    → e ≡ NoMemory
only_memory bits b r e is low negative (inl h) =
    absurd (none_below bits r low (subst (λ z. OneNegative z r) is (negative.0 (ap Err h))))
only_memory bits b r e is low negative (inr h) = h
