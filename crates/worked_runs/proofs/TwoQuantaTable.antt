-- The table of two flows at a deficit round robin server.
use Rattle.std.specs.Prelude.{pos, ℕ, zero, suc, ◌+◌, ◌==◌, ◌&&◌, nat_lt, IsTrue, true, false, Option, Some, None, [], ◌∷◌}
use Rattle.std.proofs.lemmas.Bool.{and_parts}
use Rattle.std.proofs.Common.{refl}
use Rattle.rational.specs.Extended.{Ext}
use Rattle.rational.specs.declared.Extended.TheVariants.{Fin}
use Rattle.rational.specs.Rational.{frac}
use Rattle.rational.proofs.Over.{le_q_in}
use Rattle.residual_laws.specs.DrrLaws.{share, owed}
use Rattle.rational.specs.Fractions.{same_parts}
use Rattle.min_plus.specs.Functions.{zero_q}
use Rattle.min_plus.specs.Deviations.{IsHorizontalDeviation, IsVerticalDeviation}
use Rattle.curve_call.specs.Answers.{IsMadeBy}
use Rattle.upp_limits.specs.declared.op_kind.OpKind.TheVariants.{PosMinus, FifoLeft}
use Rattle.upp_curve.specs.Curve.{SpecCurve, value_at}
use Rattle.upp_curve.specs.Kinds.{rate_latency}
use Rattle.upp_curve.proofs.Worked.{computing}
use Rattle.run_laws.specs.Cards.{whole}
use Rattle.run_laws.proofs.Small.{le_t, lt_t}
use Rattle.net_cells.specs.declared.cell.Kind.{Kind}
use Rattle.net_cells.specs.declared.cell.Kind.TheVariants.{In, Cross, Total, Higher, QueueService, Theta, Residual, QueueDelay, QueueBacklog, HopDelay, ShiftOut, DeconvOut, Out, PathService, Tfa, Sfa, Bound}
use Rattle.net_cells.specs.Numbered.{hops, queues, levels, is_live, zero_curve}
use Rattle.net_cells.specs.Cells.{cell_of, has_cell}
use Rattle.net_cells.specs.CellFormulas.{value, less}
use Rattle.net_cells.specs.Formulas.{horizontal}
use Rattle.net_cells.specs.Means.{IsDrrCurve}
use Rattle.net_cells.specs.Equations.{MeetsEquation, MeetsEquations}
use Rattle.net_cells.specs.Meanings.{Meaning, curve, number, CellTable}
use Rattle.worked_runs.specs.TwoQuanta.{two_quanta}
use Rattle.worked_runs.proofs.Meanings.{by_number, of_one, of_left, of_horizontal, of_vertical, of_smaller, of_along, of_delayed, none_below, below_one, below_two, none_before, none_before_one, only_zero}
use Rattle.worked_runs.proofs.Operators.{less_packet, alone_left, share_left, delay_of, no_delay, backlog_of}
use Rattle.worked_runs.proofs.Rows.{nothing, after_10, burst_12000, burst_6000, service, first_arrival, second_arrival, no_link, lesser_same}
use Rattle.worked_runs.proofs.Curves.{IsLate, late_by}

-- ---- the values
-- the service of each queue, and in whole packets
abbrev first_service : SpecCurve
first_service = rate_latency (frac (pos 200) 2) (whole 190)

abbrev second_service : SpecCurve
second_service = rate_latency (frac (pos 100) 2) (whole 370)

abbrev first_packets : SpecCurve
first_packets = rate_latency (frac (pos 200) 2) (whole 370)

abbrev second_packets : SpecCurve
second_packets = rate_latency (frac (pos 100) 2) (whole 550)

abbrev first_delay : Ext
first_delay = Fin (whole 370)

abbrev second_delay : Ext
second_delay = Fin (whole 550)

abbrev values : Kind → ℕ → ℕ → Option Meaning
values In i k = Some (curve (by_number first_arrival second_arrival i))
values Cross i k = Some (curve zero_curve)
values Total s q = Some (curve (by_number first_arrival second_arrival q))
values Higher s q = None
values QueueService s q = Some (curve (by_number first_service second_service q))
values Theta i k = Some (number (Fin zero_q))
values Residual i k = Some (curve (by_number first_service second_service i))
values QueueDelay s q = Some (number (by_number first_delay second_delay q))
values QueueBacklog s q = Some (number (by_number (Fin (whole 15700)) (Fin (whole 8750)) q))
values HopDelay i k = Some (number (by_number first_delay second_delay i))
values ShiftOut i k = None
values DeconvOut i k = None
values Out i k = None
values PathService i b = Some (curve (by_number first_service second_service i))
values Tfa i b = Some (number (by_number first_delay second_delay i))
values Sfa i b = Some (number (by_number first_delay second_delay i))
values Bound i b = Some (number (by_number first_delay second_delay i))

abbrev pub table : CellTable
table c = values c.kind c.a c.b

-- ---- what the operators make
first_late : IsLate (frac (pos 200) 2) (whole 190)
unfolding computing
first_late = late_by (frac (pos 200) 2) (whole 190) refl

second_late : IsLate (frac (pos 100) 2) (whole 370)
unfolding computing
second_late = late_by (frac (pos 100) 2) (whole 370) refl

first_later : IsLate (frac (pos 200) 2) (whole 370)
unfolding computing
first_later = late_by (frac (pos 200) 2) (whole 370) refl

second_later : IsLate (frac (pos 100) 2) (whole 550)
unfolding computing
second_later = late_by (frac (pos 100) 2) (whole 550) refl

-- two thirds of the service, and one
first_share : IsDrrCurve service (12000 ∷ 6000 ∷ []) (12000 ∷ 6000 ∷ []) 0 first_service
unfolding computing
first_share = record {
  curve = first_late.curve;
  serves = share_left (whole 100) (whole 10) (frac (pos 200) 2) (whole 190) (share 12000 18000) (owed 12000 12000 18000 18000)
      after_10 first_late (same_parts _ _ refl refl) (le_t 10 190 refl) (same_parts _ _ refl refl);
}

second_share : IsDrrCurve service (12000 ∷ 6000 ∷ []) (12000 ∷ 6000 ∷ []) 1 second_service
unfolding computing
second_share = record {
  curve = second_late.curve;
  serves = share_left (whole 100) (whole 10) (frac (pos 100) 2) (whole 370) (share 6000 18000) (owed 6000 6000 18000 18000)
      after_10 second_late (same_parts _ _ refl refl) (le_t 10 370 refl) (same_parts _ _ refl refl);
}

first_delay_is : IsHorizontalDeviation (value_at first_arrival) (value_at first_service) first_delay
unfolding computing
first_delay_is =
    delay_of (whole 12000) (whole 10) (frac (pos 200) 2) (whole 190) (whole 370) burst_12000 first_late (le_q_in _ _ refl)
    (lt_t 0 12000 refl) (same_parts _ _ refl refl)

second_delay_is : IsHorizontalDeviation (value_at second_arrival) (value_at second_service) second_delay
unfolding computing
second_delay_is =
    delay_of (whole 6000) (whole 5) (frac (pos 100) 2) (whole 370) (whole 550) burst_6000 second_late (le_q_in _ _ refl)
    (lt_t 0 6000 refl) (same_parts _ _ refl refl)

first_whole : IsMadeBy (PosMinus (whole 12000)) first_service first_service first_packets
unfolding computing
first_whole =
    less_packet (frac (pos 200) 2) (whole 190) (whole 370) (whole 12000) first_late first_later (le_t 190 370 refl)
    (same_parts _ _ refl refl)

second_whole : IsMadeBy (PosMinus (whole 6000)) second_service second_service second_packets
unfolding computing
second_whole =
    less_packet (frac (pos 100) 2) (whole 370) (whole 550) (whole 6000) second_late second_later (le_t 370 550 refl)
    (same_parts _ _ refl refl)

first_backlog : IsVerticalDeviation (value_at first_arrival) (value_at first_packets) (Fin (whole 15700))
unfolding computing
first_backlog =
    backlog_of (whole 12000) (whole 10) (frac (pos 200) 2) (whole 370) (whole 15700) burst_12000 first_later (le_q_in _ _ refl)
    (same_parts _ _ refl refl)

second_backlog : IsVerticalDeviation (value_at second_arrival) (value_at second_packets) (Fin (whole 8750))
unfolding computing
second_backlog =
    backlog_of (whole 6000) (whole 5) (frac (pos 100) 2) (whole 550) (whole 8750) burst_6000 second_later (le_q_in _ _ refl)
    (same_parts _ _ refl refl)

first_theta : IsHorizontalDeviation (value_at zero_curve) (value_at first_service) (Fin zero_q)
first_theta = no_delay (frac (pos 200) 2) (whole 190) first_late nothing

second_theta : IsHorizontalDeviation (value_at zero_curve) (value_at second_service) (Fin zero_q)
second_theta = no_delay (frac (pos 100) 2) (whole 370) second_late nothing

first_rest : IsMadeBy (FifoLeft (Fin zero_q)) first_service zero_curve first_service
first_rest = alone_left (frac (pos 200) 2) (whole 190) first_late nothing

second_rest : IsMadeBy (FifoLeft (Fin zero_q)) second_service zero_curve second_service
second_rest = alone_left (frac (pos 100) 2) (whole 370) second_late nothing

-- ---- the equations
at_hop : (P : ℕ → ℕ → Type 0) → P 0 0 → P 1 0 → (a b : ℕ) → IsTrue (nat_lt b (hops two_quanta a)) → P a b
at_hop P p q zero b h = below_one (P 0) p b h
at_hop P p q (suc zero) b h = below_one (P 1) q b h
at_hop P p q (suc (suc a)) b h = none_below (P (suc (suc a))) b h

before_hop : (P : ℕ → ℕ → Type 0) → (a b : ℕ) → IsTrue (nat_lt (b + 1) (hops two_quanta a)) → P a b
before_hop P zero b h = none_before_one (P 0) b h
before_hop P (suc zero) b h = none_before_one (P 1) b h
before_hop P (suc (suc a)) b h = none_before (P (suc (suc a))) b h

at_queue : (P : ℕ → ℕ → Type 0) → P 0 0 → P 0 1 → (a b : ℕ) → IsTrue (nat_lt b (queues two_quanta a)) → P a b
at_queue P p q zero b h = below_two (P 0) p q b h
at_queue P p q (suc a) b h = none_below (P (suc a)) b h

at_level : (P : ℕ → ℕ → Type 0) → (a b : ℕ) → IsTrue (nat_lt b (levels two_quanta a)) → P a b
at_level P zero b h = none_below (P 0) b h
at_level P (suc a) b h = none_below (P (suc a)) b h

at_path : (P : ℕ → ℕ → Type 0) → P 0 0 → P 1 0 → (a b : ℕ) → IsTrue (is_live two_quanta a && (b == 0)) → P a b
at_path P p q zero b h = only_zero (P 0) true p b h
at_path P p q (suc zero) b h = only_zero (P 1) true q b h
at_path P p q (suc (suc a)) b h = absurd (let parts = and_parts false (b == 0) h in cc)

abbrev Meets : Kind → ℕ → ℕ → Type 0
Meets kind a b = MeetsEquation two_quanta table (cell_of kind a b)

meets_at : (kind : Kind) (a b : ℕ) → IsTrue (has_cell two_quanta (cell_of kind a b)) → Meets kind a b
meets_at In a b h = at_hop (Meets In)
    record { value = curve first_arrival; is = refl; means = refl }
    record { value = curve second_arrival; is = refl; means = refl } a b h
meets_at Cross a b h = at_hop (Meets Cross)
    record { value = curve zero_curve; is = refl; means = refl }
    record { value = curve zero_curve; is = refl; means = refl } a b h
meets_at Total a b h = at_queue (Meets Total)
    record { value = curve first_arrival; is = refl; means = refl }
    record { value = curve second_arrival; is = refl; means = refl } a b h
meets_at Higher a b h = at_level (Meets Higher) a b h
meets_at QueueService a b h = at_queue (Meets QueueService)
    record { value = curve first_service; is = refl; means = first_share }
    record { value = curve second_service; is = refl; means = second_share } a b h
meets_at Theta a b h = at_hop (Meets Theta)
    record { value = number (Fin zero_q); is = refl; means = of_horizontal table (value Cross 0 0) (value QueueService 0 0) zero_curve first_service (Fin zero_q) refl refl first_theta }
    record { value = number (Fin zero_q); is = refl; means = of_horizontal table (value Cross 1 0) (value QueueService 0 1) zero_curve second_service (Fin zero_q) refl refl second_theta } a b h
meets_at Residual a b h = at_hop (Meets Residual)
    record { value = curve first_service; is = refl; means = of_left table (value QueueService 0 0) (value Cross 0 0) (value Theta 0 0) first_service zero_curve first_service (Fin zero_q) refl refl refl first_rest }
    record { value = curve second_service; is = refl; means = of_left table (value QueueService 0 1) (value Cross 1 0) (value Theta 1 0) second_service zero_curve second_service (Fin zero_q) refl refl refl second_rest } a b h
meets_at QueueDelay a b h = at_queue (Meets QueueDelay)
    record { value = number first_delay; is = refl; means = of_horizontal table (value Total 0 0) (value QueueService 0 0) first_arrival first_service first_delay refl refl first_delay_is }
    record { value = number second_delay; is = refl; means = of_horizontal table (value Total 0 1) (value QueueService 0 1) second_arrival second_service second_delay refl refl second_delay_is } a b h
meets_at QueueBacklog a b h = at_queue (Meets QueueBacklog)
    record { value = number (Fin (whole 15700)); is = refl; means = of_vertical table (value Total 0 0) (less (value QueueService 0 0) 12000) first_arrival first_packets (Fin (whole 15700)) refl (of_one table (PosMinus (whole 12000)) (value QueueService 0 0) first_service first_packets refl first_whole) first_backlog }
    record { value = number (Fin (whole 8750)); is = refl; means = of_vertical table (value Total 0 1) (less (value QueueService 0 1) 6000) second_arrival second_packets (Fin (whole 8750)) refl (of_one table (PosMinus (whole 6000)) (value QueueService 0 1) second_service second_packets refl second_whole) second_backlog } a b h
meets_at HopDelay a b h = at_hop (Meets HopDelay)
    record { value = number first_delay; is = refl; means = of_smaller table (value QueueDelay 0 0) (horizontal (value In 0 0) (value Residual 0 0)) first_delay first_delay first_delay refl (of_horizontal table (value In 0 0) (value Residual 0 0) first_arrival first_service first_delay refl refl first_delay_is) (lesser_same first_delay) }
    record { value = number second_delay; is = refl; means = of_smaller table (value QueueDelay 0 1) (horizontal (value In 1 0) (value Residual 1 0)) second_delay second_delay second_delay refl (of_horizontal table (value In 1 0) (value Residual 1 0) second_arrival second_service second_delay refl refl second_delay_is) (lesser_same second_delay) } a b h
meets_at ShiftOut a b h = before_hop (Meets ShiftOut) a b h
meets_at DeconvOut a b h = before_hop (Meets DeconvOut) a b h
meets_at Out a b h = before_hop (Meets Out) a b h
meets_at PathService a b h = at_path (Meets PathService)
    record { value = curve first_service; is = refl; means = refl }
    record { value = curve second_service; is = refl; means = refl } a b h
meets_at Tfa a b h = at_path (Meets Tfa)
    record { value = number first_delay; is = refl; means = of_along table (cell_of HopDelay 0 0 ∷ []) (whole 0 ∷ []) (first_delay ∷ []) first_delay (refl, tt) (no_link first_delay) }
    record { value = number second_delay; is = refl; means = of_along table (cell_of HopDelay 1 0 ∷ []) (whole 0 ∷ []) (second_delay ∷ []) second_delay (refl, tt) (no_link second_delay) } a b h
meets_at Sfa a b h = at_path (Meets Sfa)
    record { value = number first_delay; is = refl; means = of_delayed table (horizontal (value In 0 0) (value PathService 0 0)) (whole 0 ∷ []) first_delay first_delay (of_horizontal table (value In 0 0) (value PathService 0 0) first_arrival first_service first_delay refl refl first_delay_is) (no_link first_delay) }
    record { value = number second_delay; is = refl; means = of_delayed table (horizontal (value In 1 0) (value PathService 1 0)) (whole 0 ∷ []) second_delay second_delay (of_horizontal table (value In 1 0) (value PathService 1 0) second_arrival second_service second_delay refl refl second_delay_is) (no_link second_delay) } a b h
meets_at Bound a b h = at_path (Meets Bound)
    record { value = number first_delay; is = refl; means = of_smaller table (value Tfa 0 0) (value Sfa 0 0) first_delay first_delay first_delay refl refl (lesser_same first_delay) }
    record { value = number second_delay; is = refl; means = of_smaller table (value Tfa 1 0) (value Sfa 1 0) second_delay second_delay second_delay refl refl (lesser_same second_delay) } a b h

pub meets : MeetsEquations two_quanta table
meets c h = meets_at c.kind c.a c.b h
