-- Small runs, lawful and not.
use Rattle.std.specs.Prelude.{Option, Some, None, ◌≡◌, ℕ, zero, suc, [], ◌∷◌, All}
use Rattle.std.proofs.Common.{arith, ap, refl, inl}
use Rattle.rational.specs.Rational.{ℚ, ◌<ℚ◌}
use Rattle.rational.proofs.Linear.{with1}
use Rattle.run_laws.specs.Cards.{Card, whole}
use Rattle.run_laws.specs.Servers.{Fifo, ServerState, start}
use Rattle.run_laws.specs.Allows.{IsComplete}
use Rattle.run_laws.specs.Lawful.{Due, IsLawful}
use Rattle.run_laws.specs.Examples.{one_server, one_packet, leaves_then_enters, enters_then_leaves, WorkPastTheBits, Overtaking, LeftComplete, BothOrders, two_priorities, higher_first, lower_first, Priorities, two_quanta, two_visits, one_visit, not_the_head, Quanta}
use Rattle.run_laws.proofs.Small.{sum_t, enters, works, leaves, visits}

-- ---- one server
-- at its end no packet is under way, and none is on a link
pub one_idle : (s : ServerState) → s.under ≡ None → All (λ (x : ServerState). ¬ IsComplete x.under) (s ∷ [])
one_idle s e zero d h = rw e (λ k. k)
one_idle s e (suc n) d h = absurd (omega arith)

pub none_due : (end : ℚ) → All (λ (d : Due). end <ℚ d.time) []
none_due end n d h = absurd (omega arith)

pub one_packet_is_lawful : IsLawful one_server one_packet
one_packet_is_lawful = record {
  allowed = (
    enters 0 0 12000 0 0 130 record { in_turn = refl; is_live = refl; has_path = refl } (omega arith) refl refl record { known_queue = omega arith; some_bits = omega arith },
    (
      works 0 0 0 0 10 130 12000 130 record { has_entered = omega arith; passes = inl refl } (omega arith) refl refl refl tt refl refl refl,
      (
        leaves 0 0 10 130 130 record { has_entered = omega arith; passes = inl refl } (omega arith) refl refl record { is_card = refl; worked_off = sum_t 0 12000; at_end = refl },
        tt,
      ),
    ),
  );
  none_complete = one_idle _ refl;
  none_overdue = none_due (whole 130);
}

-- ---- not lawful
pub work_past_the_bits : WorkPastTheBits
work_past_the_bits h = let k = h.allowed.1.0.at_server.1.within_bits in with1 (whole 0) (λ c. omega (arith, c.le, c.lt, c.same))

abbrev number_of : Option Card → ℕ
number_of None = 0
number_of (Some c) = c.packet

pub overtaking : Overtaking
overtaking h =
    let first : ℕ = 0 in
    let second : ℕ = 1 in
    let e : first ≡ second = ap number_of h.allowed.1.1.0.at_server.1.is_next in
    omega arith

pub left_complete : LeftComplete
left_complete h = h.none_complete 0 (start Fifo) (omega arith) (with1 (whole 0) (λ c. omega (arith, c.le, c.lt, c.same)))

-- ---- both orders
leaves_first : IsLawful one_server leaves_then_enters
leaves_first = record {
  allowed = (
    enters 0 0 12000 0 0 20 record { in_turn = refl; is_live = refl; has_path = refl } (omega arith) refl refl record { known_queue = omega arith; some_bits = omega arith },
    (
      works 0 0 0 0 0 10 12000 20 record { has_entered = omega arith; passes = inl refl } (omega arith) refl refl refl tt refl refl refl,
      (
        leaves 0 0 0 10 20 record { has_entered = omega arith; passes = inl refl } (omega arith) refl refl record { is_card = refl; worked_off = sum_t 0 12000; at_end = refl },
        (
          enters 0 1 12000 10 10 20 record { in_turn = refl; is_live = refl; has_path = refl } (omega arith) refl refl record { known_queue = omega arith; some_bits = omega arith },
          (
            works 0 1 10 10 10 20 12000 20 record { has_entered = omega arith; passes = inl refl } (omega arith) refl refl refl tt refl refl refl,
            (
              leaves 0 1 10 20 20 record { has_entered = omega arith; passes = inl refl } (omega arith) refl refl record { is_card = refl; worked_off = sum_t 0 12000; at_end = refl },
              tt,
            ),
          ),
        ),
      ),
    ),
  );
  none_complete = one_idle _ refl;
  none_overdue = none_due (whole 20);
}

enters_first : IsLawful one_server enters_then_leaves
enters_first = record {
  allowed = (
    enters 0 0 12000 0 0 20 record { in_turn = refl; is_live = refl; has_path = refl } (omega arith) refl refl record { known_queue = omega arith; some_bits = omega arith },
    (
      works 0 0 0 0 0 10 12000 20 record { has_entered = omega arith; passes = inl refl } (omega arith) refl refl refl tt refl refl refl,
      (
        enters 0 1 12000 0 10 20 record { in_turn = refl; is_live = refl; has_path = refl } (omega arith) refl refl record { known_queue = omega arith; some_bits = omega arith },
        (
          leaves 0 0 10 10 20 record { has_entered = omega arith; passes = inl refl } (omega arith) refl refl record { is_card = refl; worked_off = sum_t 0 12000; at_end = refl },
          (
            works 0 1 10 10 10 20 12000 20 record { has_entered = omega arith; passes = inl refl } (omega arith) refl refl refl tt refl refl refl,
            (
              leaves 0 1 10 20 20 record { has_entered = omega arith; passes = inl refl } (omega arith) refl refl record { is_card = refl; worked_off = sum_t 0 12000; at_end = refl },
              tt,
            ),
          ),
        ),
      ),
    ),
  );
  none_complete = one_idle _ refl;
  none_overdue = none_due (whole 20);
}

pub both_orders : BothOrders
both_orders = (leaves_first, enters_first)

-- ---- priorities
higher_is_lawful : IsLawful two_priorities higher_first
higher_is_lawful = record {
  allowed = (
    enters 0 0 8 0 0 16 record { in_turn = refl; is_live = refl; has_path = refl } (omega arith) refl refl record { known_queue = omega arith; some_bits = omega arith },
    (
      enters 1 1 8 0 0 16 record { in_turn = refl; is_live = refl; has_path = refl } (omega arith) refl refl record { known_queue = omega arith; some_bits = omega arith },
      (
        works 0 1 0 0 0 8 8 16 record { has_entered = omega arith; passes = inl refl } (omega arith) refl refl refl tt refl refl refl,
        (
          leaves 0 1 0 8 16 record { has_entered = omega arith; passes = inl refl } (omega arith) refl refl record { is_card = refl; worked_off = sum_t 0 8; at_end = refl },
          (
            works 0 0 8 8 8 16 8 16 record { has_entered = omega arith; passes = inl refl } (omega arith) refl refl refl tt refl refl refl,
            (
              leaves 0 0 8 16 16 record { has_entered = omega arith; passes = inl refl } (omega arith) refl refl record { is_card = refl; worked_off = sum_t 0 8; at_end = refl },
              tt,
            ),
          ),
        ),
      ),
    ),
  );
  none_complete = one_idle _ refl;
  none_overdue = none_due (whole 16);
}

lower_is_not : ¬ IsLawful two_priorities lower_first
lower_is_not h =
    let first : ℕ = 1 in
    let second : ℕ = 0 in
    let e : first ≡ second = ap number_of h.allowed.1.1.0.at_server.1.is_next in
    omega arith

pub priorities : Priorities
priorities = (higher_is_lawful, lower_is_not)

-- ---- quanta
visits_are_lawful : IsLawful two_quanta two_visits
visits_are_lawful = record {
  allowed = (
    enters 0 0 6 0 0 12 record { in_turn = refl; is_live = refl; has_path = refl } (omega arith) refl refl record { known_queue = omega arith; some_bits = omega arith },
    (
      enters 0 1 6 0 0 12 record { in_turn = refl; is_live = refl; has_path = refl } (omega arith) refl refl record { known_queue = omega arith; some_bits = omega arith },
      (
        visits 0 1 0 0 12 (omega arith) refl refl record { idle = refl; no_visit = refl; is_first = refl },
        (
          works 0 0 0 0 0 6 6 12 record { has_entered = omega arith; passes = inl refl } (omega arith) refl refl refl tt refl refl refl,
          (
            leaves 0 0 0 6 12 record { has_entered = omega arith; passes = inl refl } (omega arith) refl refl record { is_card = refl; worked_off = sum_t 0 6; at_end = refl },
            (
              visits 0 1 6 6 12 (omega arith) refl refl record { idle = refl; no_visit = refl; is_first = refl },
              (
                works 0 1 6 6 6 12 6 12 record { has_entered = omega arith; passes = inl refl } (omega arith) refl refl refl tt refl refl refl,
                (
                  leaves 0 1 6 12 12 record { has_entered = omega arith; passes = inl refl } (omega arith) refl refl record { is_card = refl; worked_off = sum_t 0 6; at_end = refl },
                  tt,
                ),
              ),
            ),
          ),
        ),
      ),
    ),
  );
  none_complete = one_idle _ refl;
  none_overdue = none_due (whole 12);
}

one_visit_is_not : ¬ IsLawful two_quanta one_visit
one_visit_is_not h =
    let k = h.allowed.1.1.1.1.1.0.at_server.1.is_next in
    let none : ℕ = 0 in
    let some : ℕ = 1 in
    let e : none ≡ some = ap number_of k in
    omega arith

out_of_turn_is_not : ¬ IsLawful two_quanta not_the_head
out_of_turn_is_not h =
    let first : ℕ = 1 in
    let second : ℕ = 0 in
    let e : first ≡ second = h.allowed.1.1.0.at_server.1.is_first in
    omega arith

pub quanta : Quanta
quanta = record { in_two_visits = visits_are_lawful; in_one_visit = one_visit_is_not; out_of_turn = out_of_turn_is_not }
