-- The table of two flows in one first in, first out queue.
use Rattle.std.specs.Prelude.{pos, ◌≡◌, ℕ, zero, suc, ◌+◌, ◌==◌, ◌&&◌, nat_lt, IsTrue, true, false, Option, Some, None, [], ◌∷◌}
use Rattle.std.proofs.lemmas.Bool.{and_parts}
use Rattle.std.proofs.Common.{refl, ap}
use Rattle.rational.specs.Extended.{Ext, min_ext}
use Rattle.rational.specs.declared.Extended.TheVariants.{Fin}
use Rattle.rational.specs.Rational.{frac}
use Rattle.rational.specs.Fractions.{same_parts}
use Rattle.min_plus.specs.Deviations.{IsHorizontalDeviation, IsVerticalDeviation}
use Rattle.curve_call.specs.Answers.{IsMadeBy}
use Rattle.upp_limits.specs.declared.op_kind.OpKind.TheVariants.{Sum, PosMinus, FifoLeft}
use Rattle.upp_curve.specs.Curve.{SpecCurve, value_at}
use Rattle.upp_curve.specs.Kinds.{bucket, rate_latency}
use Rattle.upp_curve.proofs.Worked.{computing}
use Rattle.run_laws.specs.Cards.{whole}
use Rattle.run_laws.proofs.Small.{le_t, lt_t}
use Rattle.net_cells.specs.declared.cell.Kind.{Kind}
use Rattle.net_cells.specs.declared.cell.Kind.TheVariants.{In, Cross, Total, Higher, QueueService, Theta, Residual, QueueDelay, QueueBacklog, HopDelay, ShiftOut, DeconvOut, Out, PathService, Tfa, Sfa, Bound}
use Rattle.net_cells.specs.Numbered.{hops, queues, levels, is_live}
use Rattle.net_cells.specs.Cells.{cell_of, has_cell}
use Rattle.net_cells.specs.CellFormulas.{value, less}
use Rattle.net_cells.specs.Formulas.{horizontal}
use Rattle.net_cells.specs.Equations.{MeetsEquation, MeetsEquations}
use Rattle.net_cells.specs.Meanings.{Meaning, curve, number, CellTable}
use Rattle.worked_runs.specs.TwoFlows.{two_flows}
use Rattle.worked_runs.proofs.Meanings.{by_number, of_one, of_two, of_left, of_horizontal, of_vertical, of_smaller, of_along, of_delayed, none_below, below_one, none_before, none_before_one, only_zero}
use Rattle.worked_runs.proofs.Operators.{buckets_sum, beside_left, delay_of, backlog_of}
use Rattle.worked_runs.proofs.Rows.{after_10, after_130, burst_12000, burst_6000, service, packets, first_arrival, second_arrival, whole_packets, first_delay_is, no_link}
use Rattle.worked_runs.proofs.Curves.{IsBurst, burst_by, IsLate, late_by}

-- ---- the values
-- with what both come, and what is left to each
abbrev both_arrivals : SpecCurve
both_arrivals = bucket (whole 18000) (whole 15)

abbrev first_left : SpecCurve
first_left = rate_latency (whole 95) (whole 70)

abbrev second_left : SpecCurve
second_left = rate_latency (whole 90) (whole 130)

-- the delay of the queue, and the delays by what is left to each flow
abbrev delay : Ext
delay = Fin (whole 190)

abbrev first_alone : Ext
first_alone = Fin (frac (pos 3730) 18)

abbrev second_alone : Ext
second_alone = Fin (frac (pos 590) 2)

abbrev values : Kind → ℕ → Option Meaning
values In i = Some (curve (by_number first_arrival second_arrival i))
values Cross i = Some (curve (by_number second_arrival first_arrival i))
values Total s = Some (curve both_arrivals)
values Higher s = None
values QueueService s = Some (curve service)
values Theta i = Some (number (by_number (Fin (whole 70)) (Fin (whole 130)) i))
values Residual i = Some (curve (by_number first_left second_left i))
values QueueDelay s = Some (number delay)
values QueueBacklog s = Some (number (Fin (whole 19950)))
values HopDelay i = Some (number delay)
values ShiftOut i = None
values DeconvOut i = None
values Out i = None
values PathService i = Some (curve (by_number first_left second_left i))
values Tfa i = Some (number delay)
values Sfa i = Some (number (by_number first_alone second_alone i))
values Bound i = Some (number delay)

abbrev pub table : CellTable
table c = values c.kind c.a

-- ---- what the operators make
burst_18000 : IsBurst (whole 18000) (whole 15)
unfolding computing
burst_18000 = burst_by (whole 18000) (whole 15) refl

first_late : IsLate (whole 95) (whole 70)
unfolding computing
first_late = late_by (whole 95) (whole 70) refl

second_late : IsLate (whole 90) (whole 130)
unfolding computing
second_late = late_by (whole 90) (whole 130) refl

sum_is : IsMadeBy Sum first_arrival second_arrival both_arrivals
unfolding computing
sum_is =
    buckets_sum (whole 12000) (whole 10) (whole 6000) (whole 5) (whole 18000) (whole 15) burst_12000 burst_6000 burst_18000
    (same_parts _ _ refl refl) (same_parts _ _ refl refl)

queue_delay : IsHorizontalDeviation (value_at both_arrivals) (value_at service) delay
unfolding computing
queue_delay =
    delay_of (whole 18000) (whole 15) (whole 100) (whole 10) (whole 190) burst_18000 after_10 (le_t 15 100 refl)
    (lt_t 0 18000 refl) (same_parts _ _ refl refl)

queue_backlog : IsVerticalDeviation (value_at both_arrivals) (value_at packets) (Fin (whole 19950))
unfolding computing
queue_backlog =
    backlog_of (whole 18000) (whole 15) (whole 100) (whole 130) (whole 19950) burst_18000 after_130 (le_t 15 100 refl)
    (same_parts _ _ refl refl)

-- how far the second flow is from the service, and what each leaves to the other
first_theta : IsHorizontalDeviation (value_at second_arrival) (value_at service) (Fin (whole 70))
unfolding computing
first_theta =
    delay_of (whole 6000) (whole 5) (whole 100) (whole 10) (whole 70) burst_6000 after_10 (le_t 5 100 refl) (lt_t 0 6000 refl)
    (same_parts _ _ refl refl)

first_rest : IsMadeBy (FifoLeft (Fin (whole 70))) service second_arrival first_left
unfolding computing
first_rest =
    beside_left (whole 100) (whole 10) (whole 6000) (whole 5) (whole 95) (whole 70) after_10 burst_6000 first_late
    (le_t 10 70 refl) (same_parts _ _ refl refl) (same_parts _ _ refl refl)

second_rest : IsMadeBy (FifoLeft (Fin (whole 130))) service first_arrival second_left
unfolding computing
second_rest =
    beside_left (whole 100) (whole 10) (whole 12000) (whole 10) (whole 90) (whole 130) after_10 burst_12000 second_late
    (le_t 10 130 refl) (same_parts _ _ refl refl) (same_parts _ _ refl refl)

first_delay : IsHorizontalDeviation (value_at first_arrival) (value_at first_left) first_alone
unfolding computing
first_delay =
    delay_of (whole 12000) (whole 10) (whole 95) (whole 70) (frac (pos 3730) 18) burst_12000 first_late (le_t 10 95 refl)
    (lt_t 0 12000 refl) (same_parts _ _ refl refl)

second_delay : IsHorizontalDeviation (value_at second_arrival) (value_at second_left) second_alone
unfolding computing
second_delay =
    delay_of (whole 6000) (whole 5) (whole 90) (whole 130) (frac (pos 590) 2) burst_6000 second_late (le_t 5 90 refl)
    (lt_t 0 6000 refl) (same_parts _ _ refl refl)

-- with no link; and the lesser of two

least_first : min_ext delay first_alone ≡ delay
unfolding computing
least_first = ap Fin (same_parts _ _ refl refl)

least_second : min_ext delay second_alone ≡ delay
unfolding computing
least_second = ap Fin (same_parts _ _ refl refl)

-- ---- the equations
at_hop : (P : ℕ → ℕ → Type 0) → P 0 0 → P 1 0 → (a b : ℕ) → IsTrue (nat_lt b (hops two_flows a)) → P a b
at_hop P p q zero b h = below_one (P 0) p b h
at_hop P p q (suc zero) b h = below_one (P 1) q b h
at_hop P p q (suc (suc a)) b h = none_below (P (suc (suc a))) b h

before_hop : (P : ℕ → ℕ → Type 0) → (a b : ℕ) → IsTrue (nat_lt (b + 1) (hops two_flows a)) → P a b
before_hop P zero b h = none_before_one (P 0) b h
before_hop P (suc zero) b h = none_before_one (P 1) b h
before_hop P (suc (suc a)) b h = none_before (P (suc (suc a))) b h

at_queue : (P : ℕ → ℕ → Type 0) → P 0 0 → (a b : ℕ) → IsTrue (nat_lt b (queues two_flows a)) → P a b
at_queue P p zero b h = below_one (P 0) p b h
at_queue P p (suc a) b h = none_below (P (suc a)) b h

at_level : (P : ℕ → ℕ → Type 0) → (a b : ℕ) → IsTrue (nat_lt b (levels two_flows a)) → P a b
at_level P zero b h = none_below (P 0) b h
at_level P (suc a) b h = none_below (P (suc a)) b h

at_path : (P : ℕ → ℕ → Type 0) → P 0 0 → P 1 0 → (a b : ℕ) → IsTrue (is_live two_flows a && (b == 0)) → P a b
at_path P p q zero b h = only_zero (P 0) true p b h
at_path P p q (suc zero) b h = only_zero (P 1) true q b h
at_path P p q (suc (suc a)) b h = absurd (let parts = and_parts false (b == 0) h in cc)

abbrev Meets : Kind → ℕ → ℕ → Type 0
Meets kind a b = MeetsEquation two_flows table (cell_of kind a b)

meets_at : (kind : Kind) (a b : ℕ) → IsTrue (has_cell two_flows (cell_of kind a b)) → Meets kind a b
meets_at In a b h = at_hop (Meets In)
    record { value = curve first_arrival; is = refl; means = refl }
    record { value = curve second_arrival; is = refl; means = refl } a b h
meets_at Cross a b h = at_hop (Meets Cross)
    record { value = curve second_arrival; is = refl; means = refl }
    record { value = curve first_arrival; is = refl; means = refl } a b h
meets_at Total a b h = at_queue (Meets Total)
    record { value = curve both_arrivals; is = refl; means = of_two table Sum (value In 0 0) (value In 1 0) first_arrival second_arrival both_arrivals refl refl sum_is } a b h
meets_at Higher a b h = at_level (Meets Higher) a b h
meets_at QueueService a b h = at_queue (Meets QueueService)
    record { value = curve service; is = refl; means = refl } a b h
meets_at Theta a b h = at_hop (Meets Theta)
    record { value = number (Fin (whole 70)); is = refl; means = of_horizontal table (value Cross 0 0) (value QueueService 0 0) second_arrival service (Fin (whole 70)) refl refl first_theta }
    record { value = number (Fin (whole 130)); is = refl; means = of_horizontal table (value Cross 1 0) (value QueueService 0 0) first_arrival service (Fin (whole 130)) refl refl first_delay_is } a b h
meets_at Residual a b h = at_hop (Meets Residual)
    record { value = curve first_left; is = refl; means = of_left table (value QueueService 0 0) (value Cross 0 0) (value Theta 0 0) service second_arrival first_left (Fin (whole 70)) refl refl refl first_rest }
    record { value = curve second_left; is = refl; means = of_left table (value QueueService 0 0) (value Cross 1 0) (value Theta 1 0) service first_arrival second_left (Fin (whole 130)) refl refl refl second_rest } a b h
meets_at QueueDelay a b h = at_queue (Meets QueueDelay)
    record { value = number delay; is = refl; means = of_horizontal table (value Total 0 0) (value QueueService 0 0) both_arrivals service delay refl refl queue_delay } a b h
meets_at QueueBacklog a b h = at_queue (Meets QueueBacklog)
    record { value = number (Fin (whole 19950)); is = refl; means = of_vertical table (value Total 0 0) (less (value QueueService 0 0) 12000) both_arrivals packets (Fin (whole 19950)) refl (of_one table (PosMinus (whole 12000)) (value QueueService 0 0) service packets refl whole_packets) queue_backlog } a b h
meets_at HopDelay a b h = at_hop (Meets HopDelay)
    record { value = number delay; is = refl; means = of_smaller table (value QueueDelay 0 0) (horizontal (value In 0 0) (value Residual 0 0)) delay first_alone delay refl (of_horizontal table (value In 0 0) (value Residual 0 0) first_arrival first_left first_alone refl refl first_delay) least_first }
    record { value = number delay; is = refl; means = of_smaller table (value QueueDelay 0 0) (horizontal (value In 1 0) (value Residual 1 0)) delay second_alone delay refl (of_horizontal table (value In 1 0) (value Residual 1 0) second_arrival second_left second_alone refl refl second_delay) least_second } a b h
meets_at ShiftOut a b h = before_hop (Meets ShiftOut) a b h
meets_at DeconvOut a b h = before_hop (Meets DeconvOut) a b h
meets_at Out a b h = before_hop (Meets Out) a b h
meets_at PathService a b h = at_path (Meets PathService)
    record { value = curve first_left; is = refl; means = refl }
    record { value = curve second_left; is = refl; means = refl } a b h
meets_at Tfa a b h = at_path (Meets Tfa)
    record { value = number delay; is = refl; means = of_along table (cell_of HopDelay 0 0 ∷ []) (whole 0 ∷ []) (delay ∷ []) delay (refl, tt) (no_link delay) }
    record { value = number delay; is = refl; means = of_along table (cell_of HopDelay 1 0 ∷ []) (whole 0 ∷ []) (delay ∷ []) delay (refl, tt) (no_link delay) } a b h
meets_at Sfa a b h = at_path (Meets Sfa)
    record { value = number first_alone; is = refl; means = of_delayed table (horizontal (value In 0 0) (value PathService 0 0)) (whole 0 ∷ []) first_alone first_alone (of_horizontal table (value In 0 0) (value PathService 0 0) first_arrival first_left first_alone refl refl first_delay) (no_link first_alone) }
    record { value = number second_alone; is = refl; means = of_delayed table (horizontal (value In 1 0) (value PathService 1 0)) (whole 0 ∷ []) second_alone second_alone (of_horizontal table (value In 1 0) (value PathService 1 0) second_arrival second_left second_alone refl refl second_delay) (no_link second_alone) } a b h
meets_at Bound a b h = at_path (Meets Bound)
    record { value = number delay; is = refl; means = of_smaller table (value Tfa 0 0) (value Sfa 0 0) delay first_alone delay refl refl least_first }
    record { value = number delay; is = refl; means = of_smaller table (value Tfa 1 0) (value Sfa 1 0) delay second_alone delay refl refl least_second } a b h

pub meets : MeetsEquations two_flows table
meets c h = meets_at c.kind c.a c.b h
