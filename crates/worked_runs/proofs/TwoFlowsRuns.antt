-- Two packets in one first in, first out queue.
use Rattle.std.specs.Prelude.{true, ◌&&◌, [], ◌∷◌}
use Rattle.std.proofs.Common.{arith, ap, refl, inl}
use Rattle.rational.specs.Rational.{ℚ, lt_q}
use Rattle.rational.proofs.Linear.{with1}
use Rattle.run_laws.specs.Cards.{whole}
use Rattle.run_laws.specs.Servers.{Fifo, clip}
use Rattle.run_laws.specs.Counts.{when}
use Rattle.run_laws.specs.Lawful.{IsLawful}
use Rattle.run_laws.specs.Routes.{Routes}
use Rattle.run_laws.specs.Views.{view}
use Rattle.run_laws.proofs.Small.{sum_t, enters, works, leaves}
use Rattle.run_laws.proofs.SmallRuns.{one_idle, none_due}
use Rattle.net_bounds.specs.NetRuns.{routes_of}
use Rattle.worked_runs.specs.TwoFlows.{two_flows, first_flow_last, second_flow_last}
use Rattle.worked_runs.specs.Reached.{HasDelay}
use Rattle.worked_runs.proofs.Keeping.{first_span, second_span, SeesTwo, keeps_late}
use Rattle.worked_runs.proofs.TwoPackets.{first_before, second_before, one_of_each_first, one_of_each_second, run_of_two, both_spans}
use Rattle.worked_runs.proofs.Terms.{both_arrive, both_worked}

abbrev net : Routes
net = routes_of two_flows

-- ---- first flow last
first_flow_last_sees : SeesTwo 60 120 6000 12000 (view net first_flow_last 0)
first_flow_last_sees = record {
  arrivals = λ x. both_arrive (when (true && lt_q (whole 0) x) (whole 6000)) (when (true && lt_q (whole 0) x) (whole 12000));
  work = λ x. both_spans 60 120 x _ (both_worked (when true (clip (first_span 60) x)) (when true (clip (second_span 60 120) x)));
}

first_flow_last_lawful : IsLawful net first_flow_last
first_flow_last_lawful = record {
  allowed = (
    enters 1 0 6000 0 0 190 record { in_turn = refl; is_live = refl; has_path = refl } (omega arith) refl refl record { known_queue = omega arith; some_bits = omega arith },
    (
      enters 0 1 12000 0 0 190 record { in_turn = refl; is_live = refl; has_path = refl } (omega arith) refl refl record { known_queue = omega arith; some_bits = omega arith },
      (
        works 0 0 0 0 10 70 6000 190 record { has_entered = omega arith; passes = inl refl } (omega arith) refl refl refl tt refl refl refl,
        (
          leaves 0 0 10 70 190 record { has_entered = omega arith; passes = inl refl } (omega arith) refl refl record { is_card = refl; worked_off = sum_t 0 6000; at_end = refl },
          (
            works 0 1 70 70 70 190 12000 190 record { has_entered = omega arith; passes = inl refl } (omega arith) refl refl refl tt refl refl refl,
            (
              leaves 0 1 70 190 190 record { has_entered = omega arith; passes = inl refl } (omega arith) refl refl record { is_card = refl; worked_off = sum_t 0 12000; at_end = refl },
              tt,
            ),
          ),
        ),
      ),
    ),
  );
  none_complete = one_idle _ refl;
  none_overdue = none_due (whole 190);
}

pub first_flow_last_delay : HasDelay two_flows first_flow_last 0 (whole 190)
first_flow_last_delay = record {
  is_run = run_of_two Fifo 0 0 10 5 first_flow_last second_before one_of_each_second record { bits = λ flow s t. refl; sizes = λ flow most h. h }
      first_flow_last_lawful (keeps_late 60 120 6000 12000 (view net first_flow_last 0) (omega arith) (omega arith) first_flow_last_sees);
  its_delay = ap (λ (x : ℚ). x ∷ []) (with1 (whole 0) (λ c. omega (arith, c.le, c.lt, c.same)));
}

-- ---- second flow last
second_flow_last_sees : SeesTwo 120 60 12000 6000 (view net second_flow_last 0)
second_flow_last_sees = record {
  arrivals = λ x. both_arrive (when (true && lt_q (whole 0) x) (whole 12000)) (when (true && lt_q (whole 0) x) (whole 6000));
  work = λ x. both_spans 120 60 x _ (both_worked (when true (clip (first_span 120) x)) (when true (clip (second_span 120 60) x)));
}

second_flow_last_lawful : IsLawful net second_flow_last
second_flow_last_lawful = record {
  allowed = (
    enters 0 0 12000 0 0 190 record { in_turn = refl; is_live = refl; has_path = refl } (omega arith) refl refl record { known_queue = omega arith; some_bits = omega arith },
    (
      enters 1 1 6000 0 0 190 record { in_turn = refl; is_live = refl; has_path = refl } (omega arith) refl refl record { known_queue = omega arith; some_bits = omega arith },
      (
        works 0 0 0 0 10 130 12000 190 record { has_entered = omega arith; passes = inl refl } (omega arith) refl refl refl tt refl refl refl,
        (
          leaves 0 0 10 130 190 record { has_entered = omega arith; passes = inl refl } (omega arith) refl refl record { is_card = refl; worked_off = sum_t 0 12000; at_end = refl },
          (
            works 0 1 130 130 130 190 6000 190 record { has_entered = omega arith; passes = inl refl } (omega arith) refl refl refl tt refl refl refl,
            (
              leaves 0 1 130 190 190 record { has_entered = omega arith; passes = inl refl } (omega arith) refl refl record { is_card = refl; worked_off = sum_t 0 6000; at_end = refl },
              tt,
            ),
          ),
        ),
      ),
    ),
  );
  none_complete = one_idle _ refl;
  none_overdue = none_due (whole 190);
}

pub second_flow_last_delay : HasDelay two_flows second_flow_last 1 (whole 190)
second_flow_last_delay = record {
  is_run = run_of_two Fifo 0 0 10 5 second_flow_last first_before one_of_each_first record { bits = λ flow s t. refl; sizes = λ flow most h. h }
      second_flow_last_lawful (keeps_late 120 60 12000 6000 (view net second_flow_last 0) (omega arith) (omega arith) second_flow_last_sees);
  its_delay = ap (λ (x : ℚ). x ∷ []) (with1 (whole 0) (λ c. omega (arith, c.le, c.lt, c.same)));
}
