-- One packet through a gate.
use Rattle.std.specs.Prelude.{◌≡◌, ◌<◌, ℕ, zero, suc, pos, true, ◌==◌, ◌&&◌, [], ◌∷◌}
use Rattle.std.proofs.Common.{arith, sym, ap, ◌∙◌, refl, false, inl, inr, subst}
use Rattle.rational.specs.Rational.{ℚ, int, ◌-ℚ◌, ◌*ℚ◌, ◌≤ℚ◌, lt_q}
use Rattle.rational.specs.MinMax.{max_q}
use Rattle.rational.specs.Extended.{Ext, ◌≤ₑ◌}
use Rattle.rational.specs.declared.Extended.TheVariants.{Fin}
use Rattle.rational.proofs.Integers.{nat_nonneg, nat_le}
use Rattle.rational.proofs.Laws.{le_or_lt, le_trans, mul_le_mul, mul_nonneg, mul_one}
use Rattle.rational.proofs.MinMax.{max_q_ge_left, max_q_ge_right}
use Rattle.rational.proofs.Linear.{with1, with2}
use Rattle.min_plus.specs.Functions.{zero_q}
use Rattle.upp_curve.specs.Curve.{value_at}
use Rattle.upp_curve.specs.Kinds.{gate, stair}
use Rattle.upp_curve.proofs.StairValues.{stair_is}
use Rattle.run_laws.specs.Cards.{whole, all}
use Rattle.run_laws.specs.Servers.{Span, clip}
use Rattle.run_laws.specs.Counts.{when, within, arrived, worked}
use Rattle.run_laws.specs.Premises.{KeepsService}
use Rattle.run_laws.specs.Lawful.{IsLawful}
use Rattle.run_laws.specs.Routes.{Routes, route_of}
use Rattle.run_laws.specs.RunPremises.{EnterSizes, entered_in}
use Rattle.run_laws.specs.Views.{view}
use Rattle.run_laws.proofs.Clips.{clip_early}
use Rattle.run_laws.proofs.Small.{le_t, lt_t, sum_t, enters, works, leaves}
use Rattle.run_laws.proofs.Sums.{when_true}
use Rattle.run_laws.proofs.Sizes.{whole_times}
use Rattle.run_laws.proofs.SmallRuns.{one_idle, none_due}
use Rattle.net_cells.specs.Numbered.{packet, arrival, service}
use Rattle.net_bounds.specs.NetRuns.{routes_of}
use Rattle.worked_runs.specs.OneGate.{one_gate, at_its_end}
use Rattle.worked_runs.specs.Reached.{HasDelay}
use Rattle.worked_trees.proofs.Busy.{none_over, not_yet, span_at_rate, IsAtMostService, IsAtRate, keeps_at_rate}
use Rattle.worked_runs.proofs.Gates.{while_closed, while_open}
use Rattle.worked_runs.proofs.Keeping.{at_most}

abbrev net : Routes
net = routes_of one_gate

-- ---- lawful
lawful : IsLawful net at_its_end
lawful = record {
  allowed = (
    enters 0 0 24000 0 0 990 record { in_turn = refl; is_live = refl; has_path = refl } (omega arith) refl refl
        record { known_queue = omega arith; some_bits = omega arith },
    (
      works 0 0 0 0 750 990 24000 990 record { has_entered = omega arith; passes = inl refl } (omega arith) refl
          refl refl tt refl refl refl,
      (
        leaves 0 0 750 990 990 record { has_entered = omega arith; passes = inl refl } (omega arith) refl refl
            record { is_card = refl; worked_off = sum_t 0 24000; at_end = refl },
        tt,
      ),
    ),
  );
  none_complete = one_idle _ refl;
  none_overdue = none_due (whole 990);
}

-- ---- it keeps the arrival curve
keeps_sizes : (flow : ℕ) → (route_of net flow).live ≡ true → EnterSizes flow (packet one_gate flow) at_its_end.steps
keeps_sizes zero live = (λ e. omega arith, tt)
keeps_sizes (suc flow) live = let bad : false ≡ true = live in absurd (cc)

-- each value of the stair is at least one packet
stair_covers : (x u : ℚ) → x ≤ℚ whole 24000 → zero_q ≤ℚ u → Fin x ≤ₑ value_at (stair (whole 24000) (whole 1500) (whole 0)) u
stair_covers x u most on =
    subst (λ (v : Ext). Fin x ≤ₑ v) (sym (stair_is (whole 24000) (whole 1500) (whole 0) u (le_t 0 24000 refl) (lt_t 0 1500 refl) (le_t 0 0 refl) on))
    (le_trans most (one_step _))
  where
    one_step : (n : ℕ) → whole 24000 ≤ℚ whole 24000 *ℚ int (pos (suc n))
    one_step n =
        let m = mul_le_mul (whole 24000) (le_t 0 24000 refl) (nat_le 1 (suc n) (omega arith)) in
        let o = mul_one (whole 24000) in
        subst (λ z. z ≤ℚ whole 24000 *ℚ int (pos (suc n))) o m

enters_at_most : (s t : ℚ) → entered_in 0 s t at_its_end.steps ≤ℚ whole 24000
enters_at_most s t =
    let one = when ((0 == 0) && within s t (whole 0)) (whole 24000) in
    let k = at_most ((0 == 0) && within s t (whole 0)) 24000 in
    with1 one (λ c. omega (arith, c.le, c.lt, c.same))

keeps_arrivals : (flow : ℕ) → (route_of net flow).live ≡ true → (s t : ℚ) → s ≤ℚ t
    → Fin (entered_in flow s t at_its_end.steps) ≤ₑ value_at (arrival one_gate flow) (t -ℚ s)
keeps_arrivals zero live s t before =
    stair_covers (entered_in 0 s t at_its_end.steps) (t -ℚ s) (enters_at_most s t)
    (with2 s t (λ c. omega (arith, c.le, c.lt, c.same)))
keeps_arrivals (suc flow) live s t before = let bad : false ≡ true = live in absurd (cc)

-- ---- it keeps the service curve
-- up to 990 the gate's curve is that of its rate after the closed part of a cycle
gate_at_most : IsAtMostService (whole 100) (whole 750) (whole 990 -ℚ whole 0) (value_at (gate (whole 100) (whole 1000) (whole 250)))
gate_at_most u on short = elim (le_or_lt (whole 750) u) [
  | inl h ↦
      let m = max_q_ge_right zero_q (u -ℚ whole 750) in
      rw (while_open 0 u (with1 u (λ c. omega (arith, c.le, c.lt, c.same))) (with1 u (λ c. omega (arith, c.le, c.lt, c.same))))
      (late (max_q zero_q (u -ℚ whole 750)) m)
  | inr h ↦
      let m : zero_q ≤ℚ whole 100 *ℚ max_q zero_q (u -ℚ whole 750) =
      mul_nonneg (nat_nonneg 100) (max_q_ge_left zero_q (u -ℚ whole 750)) in
      rw (while_closed 0 u (with1 u (λ c. omega (arith, c.le, c.lt, c.same))) (with1 u (λ c. omega (arith, c.le, c.lt, c.same))))
      (early (whole 100 *ℚ max_q zero_q (u -ℚ whole 750)) m)
]
  where
    late : (top : ℚ) → u -ℚ whole 750 ≤ℚ top → whole 100 *ℚ u -ℚ whole 75000 *ℚ whole 0 -ℚ whole 75000 ≤ℚ whole 100 *ℚ top
    late top h = with2 u top (λ c. omega (arith, c.le, c.lt, c.same))

    early : (top : ℚ) → zero_q ≤ℚ top → whole 25000 *ℚ whole 0 ≤ℚ top
    early top h = with1 top (λ c. omega (arith, c.le, c.lt, c.same))

abbrev its_work : Span
its_work = record { start = whole 750; end = whole 990; bits = whole 24000 }

worked_is : (x : ℚ) → worked all (view net at_its_end 0) x ≡ clip its_work x
worked_is x =
    let e = when_true true (clip its_work x) refl in
    with2 (when true (clip its_work x)) (clip its_work x) (λ c. omega (arith, c.le, c.lt, c.same))

arrived_is : (x : ℚ) → arrived all (view net at_its_end 0) x ≡ when (true && lt_q (whole 0) x) (whole 24000)
arrived_is x = with1 (when (true && lt_q (whole 0) x) (whole 24000)) (λ c. omega (arith, c.le, c.lt, c.same))

at_rate : IsAtRate (whole 100) (whole 750) (whole 0) (whole 750) (whole 990) (whole 990) (view net at_its_end 0)
at_rate = record {
  rate = le_t 0 100 refl;
  soon = rw (sum_t 0 750) (le_t 750 750 refl);
  only = record {
    before = λ x h. none_over (arrived all (view net at_its_end 0) x) (worked all (view net at_its_end 0) x)
        (arrived_is x ∙ not_yet (whole 0) (whole 24000) x h)
        (worked_is x ∙ clip_early its_work x (le_trans h (le_t 0 750 refl)));
    past = inl refl;
  };
  early = λ x h. worked_is x ∙ clip_early its_work x h;
  steady = λ x low high. worked_is x
      ∙ span_at_rate (whole 100) (whole 240) its_work x (sym (sum_t 750 240)) (lt_t 0 240 refl) (whole_times 100 240) low high;
}

keeps_service : (server : ℕ) → server < 1 → KeepsService (value_at (service one_gate server)) (whole 990) (view net at_its_end server)
keeps_service zero inside =
    keeps_at_rate (whole 100) (whole 750) (whole 0) (whole 750) (whole 990) (whole 990) (value_at (service one_gate 0))
    (view net at_its_end 0) gate_at_most (le_t 0 750 refl) at_rate
keeps_service (suc server) inside = absurd (omega (arith, inside))

pub at_its_end_delay : HasDelay one_gate at_its_end 0 (whole 990)
at_its_end_delay = record {
  is_run = record {
    lawful = lawful;
    keeps = record { sizes = keeps_sizes; arrivals = keeps_arrivals; service = keeps_service };
  };
  its_delay = ap (λ (x : ℚ). x ∷ []) (with1 (whole 0) (λ c. omega (arith, c.le, c.lt, c.same)));
}
