-- A packet on a link between two servers.
use Rattle.std.specs.Prelude.{None, ◌≡◌, zero, suc, [], ◌∷◌, All}
use Rattle.std.proofs.Common.{arith, ap, refl, inl, inr}
use Rattle.rational.specs.Rational.{ℚ, ◌+ℚ◌, ◌<ℚ◌}
use Rattle.rational.proofs.Laws.{le_refl}
use Rattle.rational.proofs.Linear.{with1}
use Rattle.run_laws.specs.Cards.{whole}
use Rattle.run_laws.specs.Servers.{ServerState}
use Rattle.run_laws.specs.Allows.{IsComplete}
use Rattle.run_laws.specs.FlowDelays.{delays}
use Rattle.run_laws.specs.Lawful.{Due, IsLawful, run_start, after_run, AllAllowedInRun}
use Rattle.run_laws.specs.Examples.{ends_at, two_servers, first_hop, both_hops, OverALink}
use Rattle.rational.proofs.Over.{le_q_out}
use Rattle.run_laws.proofs.Small.{le_t, lt_t, sum_t, enters, works, leaves}

first_allowed : AllAllowedInRun two_servers (whole 14) (run_start two_servers) first_hop
first_allowed = (
  enters 0 0 12000 0 0 14 record { in_turn = refl; is_live = refl; has_path = refl } (omega arith) refl refl record { known_queue = omega arith; some_bits = omega arith },
  (
    works 0 0 0 0 0 10 12000 14 record { has_entered = omega arith; passes = inl refl } (omega arith) refl refl refl tt refl refl refl,
    (
      leaves 0 0 0 10 14 record { has_entered = omega arith; passes = inl refl } (omega arith) refl refl record { is_card = refl; worked_off = sum_t 0 12000; at_end = refl },
      tt,
    ),
  ),
)

pub two_idle : (s t : ServerState) → s.under ≡ None → t.under ≡ None → All (λ (x : ServerState). ¬ IsComplete x.under) (s ∷ t ∷ [])
two_idle s t e f zero d h = rw e (λ k. k)
two_idle s t e f (suc zero) d h = rw f (λ k. k)
two_idle s t e f (suc (suc n)) d h = absurd (omega arith)

on_the_link_at_14 : IsLawful two_servers (ends_at 14 first_hop)
on_the_link_at_14 = record { allowed = first_allowed; none_complete = two_idle _ _ refl refl; none_overdue = one_due }
  where
    one_due : All (λ (d : Due). whole 14 <ℚ d.time) (after_run two_servers (run_start two_servers) first_hop).due
    one_due zero d h = rw (sum_t 10 5) (lt_t 14 15 refl)
    one_due (suc k) d h = absurd (omega arith)

overdue_at_15 : ¬ IsLawful two_servers (ends_at 15 first_hop)
overdue_at_15 h =
    let late : whole 15 <ℚ whole 10 +ℚ whole 5 = h.none_overdue 0 record { packet = 0; server = 1; time = whole 0 } (omega arith) in
    let k : whole 15 <ℚ whole 15 = rw (sum_t 10 5) at late in
    with1 (whole 15) (λ c. omega (arith, c.le, c.lt, c.same))

over_both_hops : IsLawful two_servers (ends_at 30 both_hops)
over_both_hops = record {
  allowed = (
    enters 0 0 12000 0 0 30 record { in_turn = refl; is_live = refl; has_path = refl } (omega arith) refl refl record { known_queue = omega arith; some_bits = omega arith },
    (
      works 0 0 0 0 0 10 12000 30 record { has_entered = omega arith; passes = inl refl } (omega arith) refl refl refl tt refl refl refl,
      (
        leaves 0 0 0 10 30 record { has_entered = omega arith; passes = inl refl } (omega arith) refl refl record { is_card = refl; worked_off = sum_t 0 12000; at_end = refl },
        (
          record {
            known = (0, omega arith, refl);
            known_server = omega arith;
            at_server = (record { in_order = rw (sum_t 10 5) (le_t 0 15 refl); in_run = rw (sum_t 10 5) (le_t 15 30 refl) }, record { known_queue = omega arith; some_bits = omega arith });
          },
          (
            record {
              known = record { has_entered = omega arith; passes = inr (inl refl) };
              known_server = omega arith;
              at_server = (
                record { in_order = rw (sum_t 10 5) (le_t 15 20 refl); in_run = le_t 20 30 refl },
                record {
                  no_overlap = le_t 0 20 refl;
                  forward = lt_t 20 30 refl;
                  ends_in_run = le_t 30 30 refl;
                  some_work = lt_t 0 12000 refl;
                  in_pace = tt;
                  is_next = refl;
                  within_bits = rw (sum_t 0 12000) (le_t 12000 12000 refl);
                },
              );
            },
            (
              leaves 1 0 20 30 30 record { has_entered = omega arith; passes = inr (inl refl) } (omega arith) refl refl record { is_card = refl; worked_off = sum_t 0 12000; at_end = refl },
              tt,
            ),
          ),
        ),
      ),
    ),
  );
  none_complete = two_idle _ _ refl refl;
  none_overdue = rw (le_q_out _ _ (le_refl (whole 10 +ℚ whole 5))) none_left;
}
  where
    none_left : All (λ (d : Due). whole 30 <ℚ d.time) []
    none_left n d h = absurd (omega arith)

its_delay_is_30 : delays two_servers (ends_at 30 both_hops) 0 ≡ whole 30 ∷ []
its_delay_is_30 = ap (λ (x : ℚ). x ∷ []) (with1 (whole 0) (λ c. omega (arith, c.le, c.lt, c.same)))

pub over_a_link : OverALink
over_a_link = record { on_the_link = on_the_link_at_14; overdue = overdue_at_15; over_both = over_both_hops; its_delay = its_delay_is_30 }
