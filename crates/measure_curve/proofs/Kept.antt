-- The laws of the least arrival curve.
use Rattle.std.specs.Prelude.{◌≡◌, ℕ, ◌≤◌, ◌==◌, ◌&&◌, true, false, List, [], ◌∷◌, sum_by}
use Rattle.std.proofs.Common.{arith, refl, sym, subst, inl, inr, ◌∙◌}
use Rattle.std.proofs.lemmas.Bool.{cases_Bool}
use Rattle.std.proofs.lemmas.List.Sums.{sum_by-cons}
use Rattle.rational.specs.Rational.{ℚ, ◌+ℚ◌, ◌-ℚ◌, ◌≤ℚ◌}
use Rattle.rational.specs.Extended.{Ext, ◌≤ₑ◌}
use Rattle.rational.specs.declared.Extended.TheVariants.{Fin}
use Rattle.rational.proofs.Linear.{with2}
use Rattle.rational.proofs.ExtendedOrder.{le_ext_trans, antisym_ext}
use Rattle.min_plus.specs.Functions.{zero_q}
use Rattle.min_plus.specs.Formulas.{bucket_value}
use Rattle.run_laws.specs.declared.steps.Step.{Step}
use Rattle.run_laws.specs.declared.steps.Step.TheVariants.{Enter, Reach, Work, Leave, Visit}
use Rattle.run_laws.specs.Cards.{whole}
use Rattle.run_laws.specs.Counts.{within}
use Rattle.run_laws.specs.RunPremises.{entered_in}
use Rattle.run_laws.proofs.Sizes.{whole_le, whole_sum}
use Rattle.run_laws.proofs.Sums.{when_true, when_false, add_nothing}
use Rattle.net_model.specs.declared.trace.TracePacket.{TracePacket}
use Rattle.measure_curve.specs.Bursts.{IsBounded}
use Rattle.measure_curve.specs.Laws.{PacketsKeepTheCurve, KeptCurvesAreAbove, LeastArrivalIsOne, LeastBucketIsKept, entering_in, LeastInRuns}
use Rattle.measure_curve.specs.Windows.{of_flow, bits_in, IsLeastArrival}
use Rattle.rational.proofs.Laws.{add_comm, sub_add}

longer : (s d : ℚ) → zero_q ≤ℚ d → s ≤ℚ s +ℚ d
longer s d h = with2 s d (λ c. omega (arith, c.le, c.lt, c.same))

pub packets_keep_the_curve : PacketsKeepTheCurve
packets_keep_the_curve ps m least = λ s t h.
    let (v, is, is_most) = least (t -ℚ s) (with2 s t (λ c. omega (arith, c.le, c.lt, c.same))) in
    let most : bits_in s t ps ≤ v = subst (λ u. bits_in s u ps ≤ v) (add_comm s (t -ℚ s) ∙ sub_add t s) (is_most.above s) in
    subst (λ z. Fin (whole (bits_in s t ps)) ≤ₑ z) (sym is) (whole_le (bits_in s t ps) v most)

pub kept_curves_are_above : KeptCurvesAreAbove
kept_curves_are_above ps m α least kept d h =
    let (v, is, is_most) = least d h in
    let s = is_most.start in
    let k : Fin (whole v) ≤ₑ α ((s +ℚ d) -ℚ s) = subst (λ n. Fin (whole n) ≤ₑ α ((s +ℚ d) -ℚ s)) is_most.taken (kept s (s +ℚ d) (longer s d h)) in
    subst (λ z. z ≤ₑ α d) (sym is) (subst (λ x. Fin (whole v) ≤ₑ α x) (with2 s d (λ c. omega (arith, c.le, c.lt, c.same))) k)

pub least_arrival_is_one : LeastArrivalIsOne
least_arrival_is_one ps m n a b d h =
    antisym_ext (m d) (n d)
    (kept_curves_are_above ps m n a (packets_keep_the_curve ps n b) d h)
    (kept_curves_are_above ps n m b (packets_keep_the_curve ps m a) d h)

pub least_bucket_is_kept : LeastBucketIsKept
least_bucket_is_kept ps m rate burst least bucket = record {
  kept = λ s t h.
      le_ext_trans (Fin (whole (bits_in s t ps))) (m (t -ℚ s)) (bucket_value burst rate (t -ℚ s)) (packets_keep_the_curve ps m least s t h)
      (bucket.above (t -ℚ s) (with2 s t (λ c. omega (arith, c.le, c.lt, c.same))));
  least = λ b kept. bucket.least b (λ d h. kept_curves_are_above ps m (bucket_value b rate) least kept d h);
}

-- ---- it stays below all bits
within_all : (s t : ℚ) (ps : List TracePacket) → bits_in s t ps ≤ sum_by (λ p. p.bits) ps
within_all s t [] = omega arith
within_all s t (p ∷ ps) =
    let rest = within_all s t ps in
    let e = sum_by-cons (λ (p : TracePacket). p.bits) p ps in
    elim (cases_Bool (within s t p.time)) [ inl y ↦ rw y (omega arith) | inr n ↦ rw n (omega arith) ]

pub bounded : (ps : List TracePacket) (m : ℚ → Ext) → IsLeastArrival ps m → IsBounded m
bounded ps m least = record {
  finite = λ t h. let (v, is, k) = least t h in (whole v, is);
  most = whole (sum_by (λ (p : TracePacket). p.bits) ps);
  above = λ t h.
      let (v, is, is_most) = least t h in
      let all = within_all is_most.start (is_most.start +ℚ t) ps in
      let l : v ≤ sum_by (λ (p : TracePacket). p.bits) ps = (let e = is_most.taken in omega arith) in
      subst (λ z. z ≤ₑ Fin (whole (sum_by (λ (p : TracePacket). p.bits) ps))) (sym is) (whole_le v (sum_by (λ (p : TracePacket). p.bits) ps) l);
}

-- ---- in a run
entered_is : (flow : ℕ) (s t : ℚ) (xs : List Step) → entered_in flow s t xs ≡ whole (bits_in s t (of_flow flow (entering_in xs)))
entered_is flow s t [] = refl
entered_is flow s t (Enter f p u b ∷ xs) =
    let rest = entered_is flow s t xs in
    let more = of_flow flow (entering_in xs) in
    elim (cases_Bool (f == flow)) [
      | inr e ↦ rw (e, rest, when_false (false && within s t u) (whole b) refl) (add_nothing (whole (bits_in s t more)))
      | inl e ↦ elim (cases_Bool (within s t u)) [
        | inl y ↦ rw (e, y, rest, when_true true (whole b) refl) (sym (whole_sum b (bits_in s t more)))
        | inr n ↦ rw (e, n, rest, when_false false (whole b) refl) (sym (whole_sum 0 (bits_in s t more)))
      ]
    ]
entered_is flow s t (Reach r p u ∷ xs) = entered_is flow s t xs
entered_is flow s t (Work r p a b w ∷ xs) = entered_is flow s t xs
entered_is flow s t (Leave r p u ∷ xs) = entered_is flow s t xs
entered_is flow s t (Visit r q u ∷ xs) = entered_is flow s t xs

pub least_in_runs : LeastInRuns
least_in_runs flow steps m least =
    let ps = of_flow flow (entering_in steps) in
    record {
      kept = λ s t h. subst (λ z. Fin z ≤ₑ m (t -ℚ s)) (sym (entered_is flow s t steps)) (packets_keep_the_curve ps m least s t h);
      least = λ α kept d h.
          kept_curves_are_above ps m α least (λ s t k. subst (λ z. Fin z ≤ₑ α (t -ℚ s)) (entered_is flow s t steps) (kept s t k)) d h;
    }
