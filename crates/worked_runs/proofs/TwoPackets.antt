-- Two flows over one server, of which each sends one packet at 0: what such a run keeps, whichever is listed first.
use Rattle.std.specs.Prelude.{◌≡◌, ◌<◌, ℕ, zero, suc, true, ◌==◌, ◌&&◌, List, [], ◌∷◌, codes}
use Rattle.std.proofs.Common.{arith, sym, ap₂, ◌∙◌, refl, subst, false}
use Rattle.rational.specs.Rational.{ℚ, ◌+ℚ◌, ◌-ℚ◌, ◌≤ℚ◌}
use Rattle.rational.specs.Extended.{◌≤ₑ◌}
use Rattle.rational.specs.declared.Extended.TheVariants.{Fin}
use Rattle.rational.proofs.Linear.{with3}
use Rattle.min_plus.specs.Functions.{zero_q}
use Rattle.upp_curve.specs.Curve.{value_at}
use Rattle.upp_curve.specs.Kinds.{rate_latency}
use Rattle.run_laws.specs.declared.steps.Step.{Step}
use Rattle.run_laws.specs.declared.steps.Step.TheVariants.{Enter}
use Rattle.run_laws.specs.Runs.{SpecRun}
use Rattle.run_laws.specs.Cards.{whole}
use Rattle.run_laws.specs.Servers.{Discipline, clip}
use Rattle.run_laws.specs.Counts.{when, within}
use Rattle.run_laws.specs.Premises.{KeepsService}
use Rattle.run_laws.specs.Lawful.{IsLawful}
use Rattle.run_laws.specs.Routes.{route_of}
use Rattle.run_laws.specs.RunPremises.{EnterSizes, entered_in}
use Rattle.run_laws.specs.Views.{view}
use Rattle.run_laws.proofs.Sums.{when_true, when_false}
use Rattle.net_model.specs.Networks.{Net}
use Rattle.net_cells.specs.Numbered.{packet, arrival, service}
use Rattle.net_bounds.specs.NetRuns.{routes_of, IsRunOf}
use Rattle.worked_runs.specs.Parts.{late_server, bucket_flow}
use Rattle.worked_runs.proofs.Accepting.{net_of_two}
use Rattle.worked_runs.proofs.Keeping.{bucket_covers, at_most, first_span, second_span}

-- ---- what enters
abbrev pub first_before : List Step
first_before = Enter 0 0 (whole 0) 12000 ∷ Enter 1 1 (whole 0) 6000 ∷ []

abbrev pub second_before : List Step
second_before = Enter 1 0 (whole 0) 6000 ∷ Enter 0 1 (whole 0) 12000 ∷ []

-- 12000 bits of flow 0, and 6000 of flow 1
pub record IsOneOfEach (steps : List Step) : Type 0 where
  pub first : (s t : ℚ) → entered_in 0 s t steps ≤ℚ whole 12000
  pub second : (s t : ℚ) → entered_in 1 s t steps ≤ℚ whole 6000
  pub first_size : EnterSizes 0 12000 steps
  pub second_size : EnterSizes 1 6000 steps

one_counts : (x y z : ℚ) → x ≤ℚ z → y ≡ zero_q → x +ℚ (y +ℚ zero_q) ≤ℚ z
one_counts x y z h e = with3 x y z (λ c. omega (arith, c.le, c.lt, c.same))

other_counts : (x y z : ℚ) → x ≡ zero_q → y ≤ℚ z → x +ℚ (y +ℚ zero_q) ≤ℚ z
other_counts x y z e h = with3 x y z (λ c. omega (arith, c.le, c.lt, c.same))

pub one_of_each_first : IsOneOfEach first_before
one_of_each_first = record {
  first = λ s t. one_counts (when ((0 == 0) && within s t (whole 0)) (whole 12000)) (when ((1 == 0) && within s t (whole 0)) (whole 6000)) (whole 12000)
      (at_most ((0 == 0) && within s t (whole 0)) 12000) (when_false ((1 == 0) && within s t (whole 0)) (whole 6000) refl);
  second = λ s t. other_counts (when ((0 == 1) && within s t (whole 0)) (whole 12000)) (when ((1 == 1) && within s t (whole 0)) (whole 6000)) (whole 6000)
      (when_false ((0 == 1) && within s t (whole 0)) (whole 12000) refl) (at_most ((1 == 1) && within s t (whole 0)) 6000);
  first_size = (λ e. omega arith, (λ e. omega arith, tt));
  second_size = (λ e. omega (arith, e), (λ e. omega arith, tt));
}

pub one_of_each_second : IsOneOfEach second_before
one_of_each_second = record {
  first = λ s t. other_counts (when ((1 == 0) && within s t (whole 0)) (whole 6000)) (when ((0 == 0) && within s t (whole 0)) (whole 12000)) (whole 12000)
      (when_false ((1 == 0) && within s t (whole 0)) (whole 6000) refl) (at_most ((0 == 0) && within s t (whole 0)) 12000);
  second = λ s t. one_counts (when ((1 == 1) && within s t (whole 0)) (whole 6000)) (when ((0 == 1) && within s t (whole 0)) (whole 12000)) (whole 6000)
      (at_most ((1 == 1) && within s t (whole 0)) 6000) (when_false ((0 == 1) && within s t (whole 0)) (whole 12000) refl);
  first_size = (λ e. omega arith, (λ e. omega arith, tt));
  second_size = (λ e. omega arith, (λ e. omega (arith, e), tt));
}

-- what enters in a run is what enters in these steps
pub record EntersAs (run : SpecRun) (steps : List Step) : Type 0 where
  pub bits : (flow : ℕ) (s t : ℚ) → entered_in flow s t run.steps ≡ entered_in flow s t steps
  pub sizes : (flow most : ℕ) → EnterSizes flow most steps → EnterSizes flow most run.steps

-- ---- what is kept
-- by two flows in these queues of a server, token buckets of these rates
abbrev pub two_over : Discipline → (a b r q : ℕ) → Net
two_over d a b r q =
    net_of_two (late_server (codes "s1") 0 d) (bucket_flow (codes "f1") (0 ∷ []) (a ∷ []) 12000 r)
    (bucket_flow (codes "f2") (0 ∷ []) (b ∷ []) 6000 q)

module _ (d : Discipline) (a b r q : ℕ) (run : SpecRun) (steps : List Step) (each : IsOneOfEach steps) (same : EntersAs run steps) where
  abbrev net : Net
  net = two_over d a b r q

  keeps_sizes : (flow : ℕ) → (route_of (routes_of net) flow).live ≡ true → EnterSizes flow (packet net flow) run.steps
  keeps_sizes zero live = same.sizes 0 12000 each.first_size
  keeps_sizes (suc zero) live = same.sizes 1 6000 each.second_size
  keeps_sizes (suc (suc flow)) live = let bad : false ≡ true = live in absurd (cc)

  keeps_arrivals : (flow : ℕ) → (route_of (routes_of net) flow).live ≡ true → (s t : ℚ) → s ≤ℚ t
      → Fin (entered_in flow s t run.steps) ≤ₑ value_at (arrival net flow) (t -ℚ s)
  keeps_arrivals zero live s t before =
      bucket_covers 12000 r (entered_in 0 s t run.steps) s t before
      (subst (λ (x : ℚ). x ≤ℚ whole 12000) (sym (same.bits 0 s t)) (each.first s t))
  keeps_arrivals (suc zero) live s t before =
      bucket_covers 6000 q (entered_in 1 s t run.steps) s t before
      (subst (λ (x : ℚ). x ≤ℚ whole 6000) (sym (same.bits 1 s t)) (each.second s t))
  keeps_arrivals (suc (suc flow)) live s t before = let bad : false ≡ true = live in absurd (cc)

  -- where the server keeps its curve
  pub run_of_two : IsLawful (routes_of net) run
      → KeepsService (value_at (rate_latency (whole 100) (whole 10))) run.end (view (routes_of net) run 0) → IsRunOf net run
  run_of_two lawful kept = record {
    lawful = lawful;
    keeps = record { sizes = keeps_sizes; arrivals = keeps_arrivals; service = keeps_service };
  }
    where
      keeps_service : (server : ℕ) → server < 1 → KeepsService (value_at (service net server)) run.end (view (routes_of net) run server)
      keeps_service zero inside = kept
      keeps_service (suc server) inside = absurd (omega (arith, inside))

-- ---- work
-- the spans in which both are worked on
pub both_spans : (k l : ℕ) (x w : ℚ) → w ≡ when true (clip (first_span k) x) +ℚ when true (clip (second_span k l) x)
    → w ≡ clip (first_span k) x +ℚ clip (second_span k l) x
both_spans k l x w e =
    e ∙ ap₂ (λ (y z : ℚ). y +ℚ z) (when_true true (clip (first_span k) x) refl) (when_true true (clip (second_span k l) x) refl)
