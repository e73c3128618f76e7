-- Two packets that leave one right after the other reach the bound of the pace.
use Rattle.std.specs.Prelude.{◌≡◌, ◌&&◌, true, ℕ}
use Rattle.std.proofs.Common.{arith, refl}
use Rattle.std.proofs.lemmas.Bool.{and_from}
use Rattle.rational.specs.Rational.{◌+ℚ◌, ◌-ℚ◌, ◌*ℚ◌, ◌≤ℚ◌, le_q}
use Rattle.rational.proofs.Over.{le_q_out}
use Rattle.rational.proofs.Laws.{one_mul}
use Rattle.rational.proofs.Linear.{with1}
use Rattle.run_laws.specs.Cards.{all, whole}
use Rattle.run_laws.specs.Counts.{when, within, departed_in}
use Rattle.run_laws.proofs.Small.{le_t, sum_t, in_time, works_whole}
use Rattle.run_laws.proofs.Sums.{when_true}
use Rattle.net_laws.specs.paces.Reached.{two_in_a_row, PaceIsReached}

in_pace : (a b : ℕ) → whole 10 ≤ℚ whole b -ℚ whole a → whole 10 ≤ℚ whole 1 *ℚ (whole b -ℚ whole a)
in_pace a b h = rw (one_mul (whole b -ℚ whole a)) h

left : (u : ℕ) → whole 10 ≤ℚ whole u → whole u ≤ℚ whole 20 → when (true && within (whole 10) (whole 20) (whole u)) (whole 10) ≡ whole 10
left u h k =
    when_true (true && within (whole 10) (whole 20) (whole u)) (whole 10)
    (and_from (le_q (whole 10) (whole u)) (le_q (whole u) (whole 20)) (le_q_out _ _ h) (le_q_out _ _ k))

both_left : departed_in all two_in_a_row (whole 10) (whole 20) ≡ whole 1 *ℚ (whole 20 -ℚ whole 10) +ℚ whole 10
both_left =
    let one = left 10 (le_t 10 10 refl) (le_t 10 20 refl) in
    let two = left 20 (le_t 10 20 refl) (le_t 20 20 refl) in
    let time = one_mul (whole 20 -ℚ whole 10) in
    rw (one, two, time) (with1 (whole 0) (λ c. omega (arith, c.le, c.lt, c.same)))

pub pace_is_reached : PaceIsReached
pace_is_reached = record {
  lawful = record {
    allowed = (
      (in_time 0 0 20 refl refl, record { known_queue = omega arith; some_bits = omega arith }),
      (
        (in_time 0 0 20 refl refl, record { known_queue = omega arith; some_bits = omega arith }),
        (
          (in_time 0 0 20 refl refl, works_whole 0 0 10 10 20 refl refl (in_pace 0 10 (with1 (whole 0) (λ c. omega (arith, c.le, c.lt, c.same)))) refl refl),
          (
            (in_time 0 10 20 refl refl, record { is_card = refl; worked_off = sum_t 0 10; at_end = refl }),
            (
              (in_time 10 10 20 refl refl, works_whole 10 10 20 10 20 refl refl (in_pace 10 20 (with1 (whole 0) (λ c. omega (arith, c.le, c.lt, c.same)))) refl refl),
              ((in_time 10 20 20 refl refl, record { is_card = refl; worked_off = sum_t 0 10; at_end = refl }), tt),
            ),
          ),
        ),
      ),
    );
    none_complete = λ h. h;
  };
  sizes = (λ e. omega arith, (λ e. omega arith, tt));
  reached = both_left;
}
