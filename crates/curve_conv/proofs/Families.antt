-- Families of sums, as their infima go on from a time: of two together, and of others with the same finite sums.
use Rattle.std.specs.Prelude.{◌⊎◌, None}
use Rattle.std.proofs.Common.{refl}
use Rattle.rational.specs.Rational.{ℚ, ◌≤ℚ◌, ◌<ℚ◌}
use Rattle.rational.specs.Extended.{Ext, min_ext}
use Rattle.rational.specs.declared.Extended.TheVariants.{Inf}
use Rattle.rational.specs.Families.{either}
use Rattle.rational.proofs.Bounds.{infimum_union, all_infinite}
use Rattle.upp_normal.specs.declared.ahead.Stretch.{Stretch}
use Rattle.upp_normal.specs.Ahead.{GoesOn, IsBeforeNext}
use Rattle.element_envelope.proofs.Members.{Matched, matched_out}
use Rattle.curve_conv.specs.Stretches.{IsAhead}

-- of two together: the lower
pub both_ahead : (I J : ℚ → Type 0) (f : (u : ℚ) → I u → Ext) (g : (u : ℚ) → J u → Ext) (end t : ℚ) (s r w : Stretch) → IsAhead I f end t s → IsAhead J g end t r
    → ((p q : ℚ → Ext) → GoesOn p t s → GoesOn q t r → GoesOn (λ u. min_ext (p u) (q u)) t w) → ((u : ℚ) → IsBeforeNext u w.next → IsBeforeNext u s.next × IsBeforeNext u r.next)
    → IsAhead (λ u. I u ⊎ J u) (λ u. either (f u) (g u)) end t w
both_ahead I J f g end t s r w A B goes next = record {
  value = λ u. min_ext (A.value u) (B.value u);
  is = λ u late early before. let n = next u before in infimum_union (f u) (g u) (A.value u) (B.value u) (A.is u late early n.0) (B.is u late early n.1);
  goes = goes A.value B.value A.goes B.goes;
}

-- of another family, whose finite sums are those of this one before the end
pub same_ahead : (I J : ℚ → Type 0) (f : (u : ℚ) → I u → Ext) (g : (u : ℚ) → J u → Ext) (end t : ℚ) (s : Stretch) → ((u : ℚ) → t ≤ℚ u → u <ℚ end → Matched (f u) (g u))
    → IsAhead J g end t s → IsAhead I f end t s
same_ahead I J f g end t s match A = record {
  value = A.value;
  is = λ u late early before. matched_out (f u) (g u) (A.value u) (match u late early) (A.is u late early before);
  goes = A.goes;
}

-- of a family without a member before the end
pub empty_ahead : (I : ℚ → Type 0) (f : (u : ℚ) → I u → Ext) (end t : ℚ) → ((u : ℚ) → u <ℚ end → ¬ (I u)) → IsAhead I f end t record { at = Inf; line = None; next = None }
empty_ahead I f end t none = record {
  value = λ u. Inf;
  is = λ u late early before. all_infinite (f u) (λ i. absurd (none u early i));
  goes = record { at = refl; line = λ u past before. refl; next = tt };
}
