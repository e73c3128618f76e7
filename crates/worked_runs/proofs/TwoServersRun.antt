-- One packet over two servers with links of 5.
use Rattle.std.specs.Prelude.{◌≡◌, ◌<◌, ℕ, zero, suc, true, ◌&&◌, [], ◌∷◌}
use Rattle.std.proofs.Common.{arith, sym, ap, ◌∙◌, refl, inl, inr}
use Rattle.rational.specs.Rational.{ℚ, ◌+ℚ◌, ◌-ℚ◌, lt_q}
use Rattle.rational.specs.Extended.{Ext}
use Rattle.rational.proofs.Laws.{le_refl, le_trans}
use Rattle.rational.proofs.Over.{le_q_out}
use Rattle.rational.proofs.Linear.{with1, with2, with3}
use Rattle.min_plus.specs.Formulas.{IsService}
use Rattle.run_laws.specs.Cards.{whole, all}
use Rattle.run_laws.specs.Servers.{Span, clip}
use Rattle.run_laws.specs.Counts.{when, arrived, worked}
use Rattle.run_laws.specs.Premises.{KeepsService}
use Rattle.run_laws.specs.FlowDelays.{delays}
use Rattle.run_laws.specs.Lawful.{IsLawful}
use Rattle.run_laws.specs.Routes.{Routes}
use Rattle.run_laws.specs.Views.{view}
use Rattle.run_laws.proofs.Clips.{clip_early, clip_late}
use Rattle.run_laws.proofs.Small.{le_t, lt_t, sum_t, enters, works, leaves}
use Rattle.run_laws.proofs.Sums.{when_true, when_most}
use Rattle.run_laws.proofs.Sizes.{whole_times}
use Rattle.run_laws.proofs.OverALink.{two_idle}
use Rattle.run_laws.proofs.SmallRuns.{none_due}
use Rattle.net_bounds.specs.NetRuns.{routes_of}
use Rattle.worked_runs.specs.TwoServers.{two_servers, over_both}
use Rattle.worked_trees.proofs.Linked.{reaches}
use Rattle.worked_trees.proofs.Busy.{none_over, IsAtRate, keeps_at_rate, service_at_most, span_at_rate, not_yet}

abbrev net : Routes
net = routes_of two_servers

-- ---- lawful
pub lawful : IsLawful net over_both
lawful = record {
  allowed = (
    enters 0 0 12000 0 0 265 record { in_turn = refl; is_live = refl; has_path = refl } (omega arith) refl refl
        record { known_queue = omega arith; some_bits = omega arith },
    (
      works 0 0 0 0 10 130 12000 265 record { has_entered = omega arith; passes = inl refl } (omega arith) refl
          refl refl tt refl refl refl,
      (
        leaves 0 0 10 130 265 record { has_entered = omega arith; passes = inl refl } (omega arith) refl refl
            record { is_card = refl; worked_off = sum_t 0 12000; at_end = refl },
        (
          reaches 1 0 130 5 0 265 (0, omega arith, refl) (omega arith) refl refl record { known_queue = omega arith; some_bits = omega arith },
          (
            works 1 0 0 135 145 265 12000 265 record { has_entered = omega arith; passes = inr (inl refl) } (omega arith) (sum_t 130 5)
                refl refl tt refl refl refl,
            (
              leaves 1 0 145 265 265 record { has_entered = omega arith; passes = inr (inl refl) } (omega arith) refl refl
                  record { is_card = refl; worked_off = sum_t 0 12000; at_end = refl },
              tt,
            ),
          ),
        ),
      ),
    ),
  );
  none_complete = two_idle _ _ refl refl;
  none_overdue = rw (le_q_out _ _ (le_refl (whole 130 +ℚ whole 5))) (none_due (whole 265));
}

pub its_delay : delays net over_both 0 ≡ whole 270 ∷ []
its_delay = ap (λ (x : ℚ). x ∷ []) (with1 (whole 0) (λ c. omega (arith, c.le, c.lt, c.same)))

-- ---- it keeps the service curves
-- the one span of work that each server sees
abbrev at_first : Span
at_first = record { start = whole 10; end = whole 130; bits = whole 12000 }

abbrev at_second : Span
at_second = record { start = whole 145; end = whole 265; bits = whole 12000 }

worked_first : (x : ℚ) → worked all (view net over_both 0) x ≡ clip at_first x
worked_first x =
    let e = when_true true (clip at_first x) refl in
    with2 (when true (clip at_first x)) (clip at_first x) (λ c. omega (arith, c.le, c.lt, c.same))

worked_second : (x : ℚ) → worked all (view net over_both 1) x ≡ clip at_second x
worked_second x =
    let e = when_true true (clip at_second x) refl in
    with2 (when true (clip at_second x)) (clip at_second x) (λ c. omega (arith, c.le, c.lt, c.same))

arrived_first : (x : ℚ) → arrived all (view net over_both 0) x ≡ when (true && lt_q (whole 0) x) (whole 12000)
arrived_first x = with1 (when (true && lt_q (whole 0) x) (whole 12000)) (λ c. omega (arith, c.le, c.lt, c.same))

arrived_second : (x : ℚ) → arrived all (view net over_both 1) x ≡ when (true && lt_q (whole 130 +ℚ whole 5) x) (whole 12000)
arrived_second x = with1 (when (true && lt_q (whole 130 +ℚ whole 5) x) (whole 12000)) (λ c. omega (arith, c.le, c.lt, c.same))

first_at_rate : IsAtRate (whole 100) (whole 10) (whole 0) (whole 10) (whole 130) (whole 265) (view net over_both 0)
first_at_rate = record {
  rate = le_t 0 100 refl;
  soon = rw (sum_t 0 10) (le_t 10 10 refl);
  only = record {
    before = λ x h. none_over (arrived all (view net over_both 0) x) (worked all (view net over_both 0) x)
        (arrived_first x ∙ not_yet (whole 0) (whole 12000) x h)
        (worked_first x ∙ clip_early at_first x (le_trans h (le_t 0 10 refl)));
    past = inr (λ x h.
        let a = arrived_first x in
        let m = when_most (true && lt_q (whole 0) x) (whole 12000) (le_t 0 12000 refl) in
        let w = worked_first x ∙ clip_late at_first x (lt_t 10 130 refl) h in
        with3 (arrived all (view net over_both 0) x) (worked all (view net over_both 0) x)
        (when (true && lt_q (whole 0) x) (whole 12000)) (λ c. omega (arith, c.le, c.lt, c.same)));
  };
  early = λ x h. worked_first x ∙ clip_early at_first x h;
  steady = λ x low high. worked_first x
      ∙ span_at_rate (whole 100) (whole 120) at_first x (sym (sum_t 10 120)) (lt_t 0 120 refl) (whole_times 100 120) low high;
}

second_at_rate : IsAtRate (whole 100) (whole 10) (whole 130 +ℚ whole 5) (whole 145) (whole 265) (whole 265) (view net over_both 1)
second_at_rate = record {
  rate = le_t 0 100 refl;
  soon = rw (sum_t 130 5, sum_t 135 10) (le_t 145 145 refl);
  only = record {
    before = λ x h. none_over (arrived all (view net over_both 1) x) (worked all (view net over_both 1) x)
        (arrived_second x ∙ not_yet (whole 130 +ℚ whole 5) (whole 12000) x h)
        (worked_second x ∙ clip_early at_second x (le_trans h (rw (sum_t 130 5) (le_t 135 145 refl))));
    past = inl refl;
  };
  early = λ x h. worked_second x ∙ clip_early at_second x h;
  steady = λ x low high. worked_second x
      ∙ span_at_rate (whole 100) (whole 120) at_second x (sym (sum_t 145 120)) (lt_t 0 120 refl) (whole_times 100 120) low high;
}

pub keeps_service : (g : ℚ → Ext) → IsService (whole 100) (whole 10) g → (s : ℕ) → s < 2
    → KeepsService g (whole 265) (view net over_both s)
keeps_service g G zero h =
    keeps_at_rate (whole 100) (whole 10) (whole 0) (whole 10) (whole 130) (whole 265) g (view net over_both 0)
    (service_at_most (whole 100) (whole 10) (whole 130 -ℚ whole 0) g G) (le_t 0 10 refl) first_at_rate
keeps_service g G (suc zero) h =
    keeps_at_rate (whole 100) (whole 10) (whole 130 +ℚ whole 5) (whole 145) (whole 265) (whole 265) g (view net over_both 1)
    (service_at_most (whole 100) (whole 10) (whole 265 -ℚ (whole 130 +ℚ whole 5)) g G) (le_t 0 10 refl) second_at_rate
keeps_service g G (suc (suc s)) h = absurd (omega arith)
