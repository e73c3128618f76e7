-- Two packets at a priority server.
use Rattle.std.specs.Prelude.{◌≡◌, ◌⊎◌, true, ◌&&◌, [], ◌∷◌}
use Rattle.std.proofs.Common.{arith, ap, ap₂, ◌∙◌, refl, sym, inl, inr}
use Rattle.rational.specs.Rational.{ℚ, ◌+ℚ◌, ◌-ℚ◌, ◌≤ℚ◌, ◌<ℚ◌, lt_q}
use Rattle.rational.proofs.Integers.{nat_nonneg}
use Rattle.rational.proofs.Linear.{with1, with3, with4, with6}
use Rattle.upp_curve.specs.Curve.{value_at}
use Rattle.upp_curve.specs.Kinds.{rate_latency}
use Rattle.upp_curve.proofs.KindValues.{service_is}
use Rattle.run_laws.specs.Cards.{whole, all}
use Rattle.run_laws.specs.Servers.{Priority, Span, clip}
use Rattle.run_laws.specs.Counts.{when, arrived, worked}
use Rattle.run_laws.specs.Premises.{KeepsService}
use Rattle.run_laws.specs.Lawful.{IsLawful}
use Rattle.run_laws.specs.Routes.{Routes}
use Rattle.run_laws.specs.Views.{view}
use Rattle.run_laws.proofs.Small.{le_t, lt_t, sum_t, enters, works, leaves}
use Rattle.run_laws.proofs.Clips.{clip_early, clip_late}
use Rattle.rational.proofs.Laws.{le_or_lt, le_of_lt, le_trans}
use Rattle.rational.specs.Rational.{◌*ℚ◌}
use Rattle.worked_trees.proofs.Busy.{not_yet, in_span, span_at_rate, service_at_most, IsBusyOnly, keeps_latency}
use Rattle.run_laws.proofs.Sums.{when_true}
use Rattle.run_laws.proofs.Sizes.{whole_times}
use Rattle.run_laws.proofs.SmallRuns.{one_idle, none_due}
use Rattle.net_bounds.specs.NetRuns.{routes_of}
use Rattle.worked_runs.specs.TwoPriorities.{two_priorities, lower_first, higher_first}
use Rattle.worked_runs.specs.Reached.{HasDelay}
use Rattle.worked_runs.proofs.Keeping.{first_span, second_span, SeesTwo, keeps_late}
use Rattle.worked_runs.proofs.TwoPackets.{first_before, one_of_each_first, run_of_two, both_spans}
use Rattle.worked_runs.proofs.Terms.{both_arrive, both_worked, one_after_work, worked_before_one}

abbrev net : Routes
net = routes_of two_priorities

-- ---- higher first
higher_first_sees : SeesTwo 60 120 12000 6000 (view net higher_first 0)
higher_first_sees = record {
  arrivals = λ x. both_arrive (when (true && lt_q (whole 0) x) (whole 12000)) (when (true && lt_q (whole 0) x) (whole 6000));
  work = λ x. both_spans 60 120 x _ (both_worked (when true (clip (first_span 60) x)) (when true (clip (second_span 60 120) x)));
}

higher_first_lawful : IsLawful net higher_first
higher_first_lawful = record {
  allowed = (
    enters 0 0 12000 0 0 190 record { in_turn = refl; is_live = refl; has_path = refl } (omega arith) refl refl record { known_queue = omega arith; some_bits = omega arith },
    (
      enters 1 1 6000 0 0 190 record { in_turn = refl; is_live = refl; has_path = refl } (omega arith) refl refl record { known_queue = omega arith; some_bits = omega arith },
      (
        works 0 1 0 0 10 70 6000 190 record { has_entered = omega arith; passes = inl refl } (omega arith) refl refl refl tt refl refl refl,
        (
          leaves 0 1 10 70 190 record { has_entered = omega arith; passes = inl refl } (omega arith) refl refl record { is_card = refl; worked_off = sum_t 0 6000; at_end = refl },
          (
            works 0 0 70 70 70 190 12000 190 record { has_entered = omega arith; passes = inl refl } (omega arith) refl refl refl tt refl refl refl,
            (
              leaves 0 0 70 190 190 record { has_entered = omega arith; passes = inl refl } (omega arith) refl refl record { is_card = refl; worked_off = sum_t 0 12000; at_end = refl },
              tt,
            ),
          ),
        ),
      ),
    ),
  );
  none_complete = one_idle _ refl;
  none_overdue = none_due (whole 190);
}

pub higher_first_delay : HasDelay two_priorities higher_first 0 (whole 190)
higher_first_delay = record {
  is_run = run_of_two (Priority 2) 1 0 0 0 higher_first first_before one_of_each_first record { bits = λ flow s t. refl; sizes = λ flow most h. h }
      higher_first_lawful (keeps_late 60 120 12000 6000 (view net higher_first 0) (omega arith) (omega arith) higher_first_sees);
  its_delay = ap (λ (x : ℚ). x ∷ []) (with1 (whole 0) (λ c. omega (arith, c.le, c.lt, c.same)));
}

-- ---- lower first
lower_first_lawful : IsLawful net lower_first
lower_first_lawful = record {
  allowed = (
    enters 0 0 12000 0 0 190 record { in_turn = refl; is_live = refl; has_path = refl } (omega arith) refl refl record { known_queue = omega arith; some_bits = omega arith },
    (
      works 0 0 0 0 0 130 12000 190 record { has_entered = omega arith; passes = inl refl } (omega arith) refl refl refl tt refl refl refl,
      (
        enters 1 1 6000 0 0 190 record { in_turn = refl; is_live = refl; has_path = refl } (omega arith) refl refl record { known_queue = omega arith; some_bits = omega arith },
        (
          leaves 0 0 0 130 190 record { has_entered = omega arith; passes = inl refl } (omega arith) refl refl record { is_card = refl; worked_off = sum_t 0 12000; at_end = refl },
          (
            works 0 1 130 130 130 190 6000 190 record { has_entered = omega arith; passes = inl refl } (omega arith) refl refl refl tt refl refl refl,
            (
              leaves 0 1 130 190 190 record { has_entered = omega arith; passes = inl refl } (omega arith) refl refl record { is_card = refl; worked_off = sum_t 0 6000; at_end = refl },
              tt,
            ),
          ),
        ),
      ),
    ),
  );
  none_complete = one_idle _ refl;
  none_overdue = none_due (whole 190);
}

-- the packet of the lower queue is worked on below the rate, and that of the higher one at the rate
abbrev slow : Span
slow = record { start = whole 0; end = whole 130; bits = whole 12000 }

abbrev fast : Span
fast = record { start = whole 130; end = whole 190; bits = whole 6000 }

worked_is : (x : ℚ) → worked all (view net lower_first 0) x ≡ clip slow x +ℚ clip fast x
worked_is x = worked_before_one (when true (clip slow x)) (when true (clip fast x))
    ∙ ap₂ (λ (y z : ℚ). y +ℚ z) (when_true true (clip slow x) refl) (when_true true (clip fast x) refl)

arrived_is : (x : ℚ) → arrived all (view net lower_first 0) x
    ≡ when (true && lt_q (whole 0) x) (whole 12000) +ℚ when (true && lt_q (whole 0) x) (whole 6000)
arrived_is x = one_after_work (when (true && lt_q (whole 0) x) (whole 12000)) (when (true && lt_q (whole 0) x) (whole 6000))

-- how much is done at a time of the run
abbrev IsDoneAt : ℚ → ℚ → Type 0
IsDoneAt x w = ((x ≤ℚ whole 130) × (whole 130 *ℚ w ≡ whole 12000 *ℚ (x -ℚ whole 0)))
    ⊎ ((whole 130 ≤ℚ x) × (w ≡ whole 12000 +ℚ whole 100 *ℚ (x -ℚ whole 130)))

done_at : (x : ℚ) → whole 0 ≤ℚ x → x ≤ℚ whole 190 → IsDoneAt x (worked all (view net lower_first 0) x)
done_at x low high = elim (le_or_lt x (whole 130)) [
  | inl h ↦
      let w = worked_is x in
      let a = in_span slow (whole 130) x (sym (sum_t 0 130)) (lt_t 0 130 refl) low h in
      let b = clip_early fast x h in
      inl (h, first (worked all (view net lower_first 0) x) (clip slow x) (clip fast x) w a b)
  | inr h ↦
      let w = worked_is x in
      let a = clip_late slow x (lt_t 0 130 refl) (le_of_lt h) in
      let b = span_at_rate (whole 100) (whole 60) fast x (sym (sum_t 130 60)) (lt_t 0 60 refl) (whole_times 100 60) (le_of_lt h) high in
      inr (le_of_lt h, w ∙ ap₂ (λ (y z : ℚ). y +ℚ z) a b)
]
  where
    first : (w u v : ℚ) → w ≡ u +ℚ v → whole 130 *ℚ u ≡ whole 12000 *ℚ (x -ℚ whole 0) → v ≡ whole 0
        → whole 130 *ℚ w ≡ whole 12000 *ℚ (x -ℚ whole 0)
    first w u v e f g = with4 w u v x (λ c. omega (arith, c.le, c.lt, c.same))

in_window : (a b v w : ℚ) → whole 0 ≤ℚ a → a <ℚ b → b ≤ℚ whole 190 → IsDoneAt a v → IsDoneAt b w
    → (v ≤ℚ w) × (v +ℚ whole 100 *ℚ (b -ℚ a -ℚ whole 10) ≤ℚ w)
in_window a b v w low l high (inl (h, e)) (inl (k, f)) =
    (with4 a b v w (λ c. omega (arith, c.le, c.lt, c.same)), with4 a b v w (λ c. omega (arith, c.le, c.lt, c.same)))
in_window a b v w low l high (inl (h, e)) (inr (k, f)) =
    (with4 a b v w (λ c. omega (arith, c.le, c.lt, c.same)), with4 a b v w (λ c. omega (arith, c.le, c.lt, c.same)))
in_window a b v w low l high (inr (h, e)) (inl (k, f)) =
    (with4 a b v w (λ c. omega (arith, c.le, c.lt, c.same)), with4 a b v w (λ c. omega (arith, c.le, c.lt, c.same)))
in_window a b v w low l high (inr (h, e)) (inr (k, f)) =
    (with4 a b v w (λ c. omega (arith, c.le, c.lt, c.same)), with4 a b v w (λ c. omega (arith, c.le, c.lt, c.same)))

only_then : IsBusyOnly (whole 0) (whole 190) (whole 190) (view net lower_first 0)
only_then = record {
  before = λ x h. none (arrived all (view net lower_first 0) x) (worked all (view net lower_first 0) x)
      (when (true && lt_q (whole 0) x) (whole 12000)) (when (true && lt_q (whole 0) x) (whole 6000)) (clip slow x) (clip fast x)
      (arrived_is x) (worked_is x) (not_yet (whole 0) (whole 12000) x h) (not_yet (whole 0) (whole 6000) x h)
      (clip_early slow x h) (clip_early fast x (le_trans h (le_t 0 130 refl)));
  past = inl refl;
}
  where
    none : (x y a b u v : ℚ) → x ≡ a +ℚ b → y ≡ u +ℚ v → a ≡ whole 0 → b ≡ whole 0 → u ≡ whole 0 → v ≡ whole 0 → x ≤ℚ y
    none x y a b u v e f g h i j = with6 x y a b u v (λ c. omega (arith, c.le, c.lt, c.same))

lower_first_service : KeepsService (value_at (rate_latency (whole 100) (whole 10))) (whole 190) (view net lower_first 0)
lower_first_service =
    keeps_latency (whole 100) (whole 10) (whole 0) (whole 190) (whole 190) (value_at (rate_latency (whole 100) (whole 10))) (view net lower_first 0)
    (service_at_most (whole 100) (whole 10) (whole 190 -ℚ whole 0) (value_at (rate_latency (whole 100) (whole 10)))
    (service_is (whole 100) (whole 10) (nat_nonneg 100) (nat_nonneg 10)))
    only_then works_at_least
  where
    works_at_least : (a b : ℚ) → whole 0 ≤ℚ a → a <ℚ b → b ≤ℚ whole 190
        → (worked all (view net lower_first 0) a ≤ℚ worked all (view net lower_first 0) b)
        × (worked all (view net lower_first 0) a +ℚ whole 100 *ℚ (b -ℚ a -ℚ whole 10) ≤ℚ worked all (view net lower_first 0) b)
    works_at_least a b low l high =
        in_window a b (worked all (view net lower_first 0) a) (worked all (view net lower_first 0) b) low l high
        (done_at a low (with3 a b (whole 190) (λ c. omega (arith, c.le, c.lt, c.same))))
        (done_at b (with3 a b (whole 0) (λ c. omega (arith, c.le, c.lt, c.same))) high)

pub lower_first_delay : HasDelay two_priorities lower_first 1 (whole 190)
lower_first_delay = record {
  is_run = run_of_two (Priority 2) 1 0 0 0 lower_first first_before one_of_each_first record { bits = λ flow s t. refl; sizes = λ flow most h. h }
      lower_first_lawful lower_first_service;
  its_delay = ap (λ (x : ℚ). x ∷ []) (with1 (whole 0) (λ c. omega (arith, c.le, c.lt, c.same)));
}
