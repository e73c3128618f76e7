-- What a run of one or two packets has to keep: arrival curves, and the service of one server.
use Rattle.std.specs.Prelude.{◌≡◌, ◌<◌, ℕ, ◌+◌, ◌*◌, Bool, true, ◌&&◌, List}
use Rattle.std.proofs.Common.{arith, sym, ap, ◌∙◌, refl, inl, inr}
use Rattle.rational.specs.Rational.{ℚ, ◌+ℚ◌, ◌-ℚ◌, ◌*ℚ◌, ◌≤ℚ◌, ◌<ℚ◌, lt_q}
use Rattle.rational.specs.Extended.{Ext, ◌≤ₑ◌}
use Rattle.rational.specs.declared.Extended.TheVariants.{Fin}
use Rattle.rational.proofs.Integers.{nat_le, nat_lt, nat_nonneg}
use Rattle.rational.proofs.Laws.{le_or_lt, le_of_lt, le_refl, le_trans, mul_nonneg, mul_add}
use Rattle.rational.proofs.Linear.{with2, with3, with5, with6}
use Rattle.min_plus.specs.Functions.{zero_q}
use Rattle.min_plus.specs.Formulas.{IsService}
use Rattle.upp_curve.specs.Curve.{value_at}
use Rattle.upp_curve.specs.Kinds.{bucket, rate_latency}
use Rattle.upp_curve.proofs.KindValues.{bucket_is, service_is}
use Rattle.run_laws.specs.Cards.{whole, all, ServerStep}
use Rattle.run_laws.specs.Counts.{when, arrived, worked}
use Rattle.run_laws.specs.Premises.{KeepsService}
use Rattle.run_laws.specs.Servers.{Span, clip}
use Rattle.run_laws.proofs.Clips.{clip_early, clip_late}
use Rattle.run_laws.proofs.Small.{sum_t}
use Rattle.run_laws.proofs.Sums.{when_most}
use Rattle.run_laws.proofs.Sizes.{whole_times}
use Rattle.worked_trees.proofs.Busy.{none_over, not_yet, service_at_most, IsAtRate, keeps_at_rate, span_at_rate}

-- ---- arrivals
-- a bucket's burst covers it in any window
pub bucket_covers : (b r : ℕ) (x s t : ℚ) → s ≤ℚ t → x ≤ℚ whole b → Fin x ≤ₑ value_at (bucket (whole b) (whole r)) (t -ℚ s)
bucket_covers b r x s t before most =
    let on : zero_q ≤ℚ t -ℚ s = with2 s t (λ c. omega (arith, c.le, c.lt, c.same)) in
    rw ((bucket_is (whole b) (whole r)).is (t -ℚ s) on)
    (more x (whole b) (whole r *ℚ (t -ℚ s)) most (mul_nonneg (nat_nonneg r) on))
  where
    more : (x b y : ℚ) → x ≤ℚ b → zero_q ≤ℚ y → x ≤ℚ b +ℚ y
    more x b y h k = with3 x b y (λ c. omega (arith, c.le, c.lt, c.same))

pub at_most : (test : Bool) (b : ℕ) → when test (whole b) ≤ℚ whole b
at_most test b = when_most test (whole b) (nat_nonneg b)

-- ---- two packets that are there at 0
-- two spans of work at the rate, one right after the other
two_at_rate : (R k l : ℚ) (s r : Span) (x : ℚ) → s.end ≡ s.start +ℚ k → r.start ≡ s.end → r.end ≡ r.start +ℚ l → zero_q <ℚ k
    → zero_q <ℚ l → s.bits ≡ R *ℚ k → r.bits ≡ R *ℚ l → s.start ≤ℚ x → x ≤ℚ r.end → clip s x +ℚ clip r x ≡ R *ℚ (x -ℚ s.start)
two_at_rate R k l s r x e f g hk hl p q low high = elim (le_or_lt x s.end) [
  | inl h ↦
      let a = span_at_rate R k s x e hk p low h in
      let b = clip_early r x (with3 x s.end r.start (λ c. omega (arith, c.le, c.lt, c.same))) in
      with3 (clip s x) (clip r x) (R *ℚ (x -ℚ s.start)) (λ c. omega (arith, c.le, c.lt, c.same))
  | inr h ↦
      let a = clip_late s x (with3 s.start s.end k (λ c. omega (arith, c.le, c.lt, c.same))) (le_of_lt h) in
      let b = span_at_rate R l r x g hl q (with3 x s.end r.start (λ c. omega (arith, c.le, c.lt, c.same))) high in
      let m = mul_add R (x -ℚ r.start) k in
      let split : (x -ℚ r.start) +ℚ k ≡ x -ℚ s.start = with5 x s.start s.end r.start k (λ c. omega (arith, c.le, c.lt, c.same)) in
      both (clip s x) (clip r x) s.bits (R *ℚ k) (R *ℚ (x -ℚ r.start)) (R *ℚ (x -ℚ s.start)) a p b
      (sym (ap (λ z. R *ℚ z) split) ∙ m)
]
  where
    both : (a b w y z v : ℚ) → a ≡ w → w ≡ y → b ≡ z → v ≡ z +ℚ y → a +ℚ b ≡ v
    both a b w y z v e f g h = with6 a b w y z v (λ c. omega (arith, c.le, c.lt, c.same))

-- the first of them is worked on from 10 on for k, and the second for l after that
abbrev pub first_span : ℕ → Span
first_span k = record { start = whole 10; end = whole (10 + k); bits = whole (100 * k) }

abbrev pub second_span : ℕ → ℕ → Span
second_span k l = record { start = whole (10 + k); end = whole (10 + k + l); bits = whole (100 * l) }

-- what their server sees
pub record SeesTwo (k l b c : ℕ) (V : List ServerStep) : Type 0 where
  pub arrivals : (x : ℚ) → arrived all V x ≡ when (true && lt_q (whole 0) x) (whole b) +ℚ when (true && lt_q (whole 0) x) (whole c)
  pub work : (x : ℚ) → worked all V x ≡ clip (first_span k) x +ℚ clip (second_span k l) x

two_packets_keep : (k l b c : ℕ) (β : ℚ → Ext) (V : List ServerStep) → 0 < k → 0 < l → IsService (whole 100) (whole 10) β
    → SeesTwo k l b c V → KeepsService β (whole (10 + k + l)) V
two_packets_keep k l b c β V hk hl G sees =
    keeps_at_rate (whole 100) (whole 10) (whole 0) (whole 10) (whole (10 + k + l)) (whole (10 + k + l)) β V
    (service_at_most (whole 100) (whole 10) (whole (10 + k + l) -ℚ whole 0) β G) (nat_nonneg 10) at_rate
  where
    none : (x y z : ℚ) → x ≡ y +ℚ z → y ≡ zero_q → z ≡ zero_q → x ≡ zero_q
    none x y z e f g = with3 x y z (λ c. omega (arith, c.le, c.lt, c.same))

    early : (x : ℚ) → x ≤ℚ whole 10 → worked all V x ≡ zero_q
    early x h = none (worked all V x) (clip (first_span k) x) (clip (second_span k l) x) (sees.work x)
        (clip_early (first_span k) x h) (clip_early (second_span k l) x (le_trans h (nat_le 10 (10 + k) (omega arith))))

    at_rate : IsAtRate (whole 100) (whole 10) (whole 0) (whole 10) (whole (10 + k + l)) (whole (10 + k + l)) V
    at_rate = record {
      rate = nat_nonneg 100;
      soon = rw (sum_t 0 10) (le_refl (whole 10));
      only = record {
        before = λ x h. none_over (arrived all V x) (worked all V x)
            (none (arrived all V x) (when (true && lt_q (whole 0) x) (whole b)) (when (true && lt_q (whole 0) x) (whole c))
            (sees.arrivals x) (not_yet (whole 0) (whole b) x h) (not_yet (whole 0) (whole c) x h))
            (early x (le_trans h (nat_nonneg 10)));
        past = inl refl;
      };
      early = early;
      steady = λ x low high. sees.work x
          ∙ two_at_rate (whole 100) (whole k) (whole l) (first_span k) (second_span k l) x (sym (sum_t 10 k)) refl (sym (sum_t (10 + k) l))
          (nat_lt 0 k hk) (nat_lt 0 l hl) (whole_times 100 k) (whole_times 100 l) low high;
    }

-- by the curve of a server with 100 bits a unit of time after a latency of 10
pub keeps_late : (k l b c : ℕ) (V : List ServerStep) → 0 < k → 0 < l → SeesTwo k l b c V
    → KeepsService (value_at (rate_latency (whole 100) (whole 10))) (whole (10 + k + l)) V
keeps_late k l b c V hk hl sees =
    two_packets_keep k l b c (value_at (rate_latency (whole 100) (whole 10))) V hk hl
    (service_is (whole 100) (whole 10) (nat_nonneg 100) (nat_nonneg 10)) sees
