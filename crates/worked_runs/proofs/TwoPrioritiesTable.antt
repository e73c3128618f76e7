-- The table of two flows at a priority server, each of which sends one packet.
use Rattle.std.specs.Prelude.{ℕ, zero, suc, ◌+◌, ◌==◌, ◌&&◌, nat_lt, IsTrue, true, false, Option, Some, None, [], ◌∷◌}
use Rattle.std.proofs.lemmas.Bool.{and_parts}
use Rattle.std.proofs.Common.{refl}
use Rattle.rational.specs.Extended.{Ext}
use Rattle.rational.specs.declared.Extended.TheVariants.{Fin}
use Rattle.rational.specs.Fractions.{same_parts}
use Rattle.min_plus.specs.Functions.{zero_q}
use Rattle.min_plus.specs.Deviations.{IsHorizontalDeviation, IsVerticalDeviation}
use Rattle.curve_call.specs.Answers.{IsMadeBy}
use Rattle.upp_limits.specs.declared.op_kind.OpKind.TheVariants.{PosMinus, FifoLeft}
use Rattle.upp_curve.specs.Curve.{SpecCurve, value_at}
use Rattle.upp_curve.specs.Kinds.{bucket, rate_latency}
use Rattle.upp_curve.proofs.Worked.{computing}
use Rattle.run_laws.specs.Cards.{whole}
use Rattle.run_laws.specs.Servers.{Priority}
use Rattle.run_laws.proofs.Small.{le_t, lt_t}
use Rattle.net_cells.specs.declared.cell.Kind.{Kind}
use Rattle.net_cells.specs.declared.cell.Kind.TheVariants.{In, Cross, Total, Higher, QueueService, Theta, Residual, QueueDelay, QueueBacklog, HopDelay, ShiftOut, DeconvOut, Out, PathService, Tfa, Sfa, Bound}
use Rattle.net_cells.specs.Numbered.{hops, queues, levels, is_live, zero_curve}
use Rattle.net_cells.specs.Cells.{cell_of, has_cell}
use Rattle.net_cells.specs.CellFormulas.{value, less, queue_service}
use Rattle.net_cells.specs.Formulas.{horizontal}
use Rattle.net_cells.specs.Means.{Means, IsPriorityCurve}
use Rattle.net_cells.specs.Equations.{MeetsEquation, MeetsEquations}
use Rattle.net_cells.specs.Meanings.{Meaning, curve, number, CellTable}
use Rattle.worked_runs.specs.TwoPriorities.{two_priorities}
use Rattle.worked_runs.proofs.Meanings.{by_number, of_one, of_left, of_horizontal, of_vertical, of_smaller, of_along, of_delayed, none_below, below_one, below_two, none_before, none_before_one, only_zero}
use Rattle.worked_runs.proofs.Operators.{less_packet, alone_left, priority_made, delay_of, no_delay, backlog_of}
use Rattle.worked_runs.proofs.Rows.{nothing, after_10, after_70, after_130, after_190, service, packets, no_link, lesser_same}
use Rattle.worked_runs.proofs.Curves.{IsBurst, burst_by}

-- ---- the values
abbrev lower_arrival : SpecCurve
lower_arrival = bucket (whole 12000) (whole 0)

abbrev higher_arrival : SpecCurve
higher_arrival = bucket (whole 6000) (whole 0)

-- the service of the lower queue, 1, in which the first flow is, and of the higher one; and in whole packets
abbrev lower_service : SpecCurve
lower_service = rate_latency (whole 100) (whole 70)

abbrev higher_service : SpecCurve
higher_service = packets

abbrev lower_packets : SpecCurve
lower_packets = rate_latency (whole 100) (whole 190)

abbrev higher_packets : SpecCurve
higher_packets = lower_packets

abbrev lower_delay : Ext
lower_delay = Fin (whole 190)

abbrev higher_delay : Ext
higher_delay = Fin (whole 190)

abbrev values : Kind → ℕ → ℕ → Option Meaning
values In i k = Some (curve (by_number lower_arrival higher_arrival i))
values Cross i k = Some (curve zero_curve)
values Total s q = Some (curve (by_number higher_arrival lower_arrival q))
values Higher s q = Some (curve (by_number zero_curve higher_arrival q))
values QueueService s q = Some (curve (by_number higher_service lower_service q))
values Theta i k = Some (number (Fin zero_q))
values Residual i k = Some (curve (by_number lower_service higher_service i))
values QueueDelay s q = Some (number (Fin (whole 190)))
values QueueBacklog s q = Some (number (by_number (Fin (whole 6000)) (Fin (whole 12000)) q))
values HopDelay i k = Some (number (Fin (whole 190)))
values ShiftOut i k = None
values DeconvOut i k = None
values Out i k = None
values PathService i b = Some (curve (by_number lower_service higher_service i))
values Tfa i b = Some (number (Fin (whole 190)))
values Sfa i b = Some (number (Fin (whole 190)))
values Bound i b = Some (number (Fin (whole 190)))

abbrev pub table : CellTable
table c = values c.kind c.a c.b

-- ---- what the operators make
lower_burst : IsBurst (whole 12000) (whole 0)
unfolding computing
lower_burst = burst_by (whole 12000) (whole 0) refl

higher_burst : IsBurst (whole 6000) (whole 0)
unfolding computing
higher_burst = burst_by (whole 6000) (whole 0) refl

-- behind the packet of the higher queue; behind one of the lower queue
lower_priority : IsPriorityCurve service higher_arrival 0 lower_service
unfolding computing
lower_priority =
    priority_made (whole 100) (whole 10) (whole 70) (whole 70) higher_arrival (whole 6000) 0 after_10 after_70 after_70
    higher_burst.is (le_t 10 70 refl) (same_parts _ _ refl refl) (le_t 70 70 refl) (same_parts _ _ refl refl)

higher_priority : IsPriorityCurve service zero_curve 12000 higher_service
unfolding computing
higher_priority =
    priority_made (whole 100) (whole 10) (whole 10) (whole 130) zero_curve zero_q 12000 after_10 after_10 after_130
    nothing (le_t 10 10 refl) (same_parts _ _ refl refl) (le_t 10 130 refl) (same_parts _ _ refl refl)

lower_served : Means table (queue_service two_priorities 0 1 (Priority 2)) (curve lower_service)
lower_served = record { operand = higher_arrival; is = refl; gives = lower_priority }

higher_served : Means table (queue_service two_priorities 0 0 (Priority 2)) (curve higher_service)
higher_served = record { operand = zero_curve; is = refl; gives = higher_priority }

lower_delay_is : IsHorizontalDeviation (value_at lower_arrival) (value_at lower_service) lower_delay
unfolding computing
lower_delay_is =
    delay_of (whole 12000) (whole 0) (whole 100) (whole 70) (whole 190) lower_burst after_70 (le_t 0 100 refl)
    (lt_t 0 12000 refl) (same_parts _ _ refl refl)

higher_delay_is : IsHorizontalDeviation (value_at higher_arrival) (value_at higher_service) higher_delay
unfolding computing
higher_delay_is =
    delay_of (whole 6000) (whole 0) (whole 100) (whole 130) (whole 190) higher_burst after_130 (le_t 0 100 refl)
    (lt_t 0 6000 refl) (same_parts _ _ refl refl)

lower_whole : IsMadeBy (PosMinus (whole 12000)) lower_service lower_service lower_packets
unfolding computing
lower_whole =
    less_packet (whole 100) (whole 70) (whole 190) (whole 12000) after_70 after_190 (le_t 70 190 refl) (same_parts _ _ refl refl)

higher_whole : IsMadeBy (PosMinus (whole 6000)) higher_service higher_service higher_packets
unfolding computing
higher_whole =
    less_packet (whole 100) (whole 130) (whole 190) (whole 6000) after_130 after_190 (le_t 130 190 refl) (same_parts _ _ refl refl)

lower_backlog : IsVerticalDeviation (value_at lower_arrival) (value_at lower_packets) (Fin (whole 12000))
unfolding computing
lower_backlog =
    backlog_of (whole 12000) (whole 0) (whole 100) (whole 190) (whole 12000) lower_burst after_190 (le_t 0 100 refl)
    (same_parts _ _ refl refl)

higher_backlog : IsVerticalDeviation (value_at higher_arrival) (value_at higher_packets) (Fin (whole 6000))
unfolding computing
higher_backlog =
    backlog_of (whole 6000) (whole 0) (whole 100) (whole 190) (whole 6000) higher_burst after_190 (le_t 0 100 refl)
    (same_parts _ _ refl refl)

lower_theta : IsHorizontalDeviation (value_at zero_curve) (value_at lower_service) (Fin zero_q)
lower_theta = no_delay (whole 100) (whole 70) after_70 nothing

higher_theta : IsHorizontalDeviation (value_at zero_curve) (value_at higher_service) (Fin zero_q)
higher_theta = no_delay (whole 100) (whole 130) after_130 nothing

lower_rest : IsMadeBy (FifoLeft (Fin zero_q)) lower_service zero_curve lower_service
lower_rest = alone_left (whole 100) (whole 70) after_70 nothing

higher_rest : IsMadeBy (FifoLeft (Fin zero_q)) higher_service zero_curve higher_service
higher_rest = alone_left (whole 100) (whole 130) after_130 nothing

-- ---- the equations
at_hop : (P : ℕ → ℕ → Type 0) → P 0 0 → P 1 0 → (a b : ℕ) → IsTrue (nat_lt b (hops two_priorities a)) → P a b
at_hop P p q zero b h = below_one (P 0) p b h
at_hop P p q (suc zero) b h = below_one (P 1) q b h
at_hop P p q (suc (suc a)) b h = none_below (P (suc (suc a))) b h

before_hop : (P : ℕ → ℕ → Type 0) → (a b : ℕ) → IsTrue (nat_lt (b + 1) (hops two_priorities a)) → P a b
before_hop P zero b h = none_before_one (P 0) b h
before_hop P (suc zero) b h = none_before_one (P 1) b h
before_hop P (suc (suc a)) b h = none_before (P (suc (suc a))) b h

at_queue : (P : ℕ → ℕ → Type 0) → P 0 0 → P 0 1 → (a b : ℕ) → IsTrue (nat_lt b (queues two_priorities a)) → P a b
at_queue P p q zero b h = below_two (P 0) p q b h
at_queue P p q (suc a) b h = none_below (P (suc a)) b h

at_level : (P : ℕ → ℕ → Type 0) → P 0 0 → P 0 1 → (a b : ℕ) → IsTrue (nat_lt b (levels two_priorities a)) → P a b
at_level P p q zero b h = below_two (P 0) p q b h
at_level P p q (suc a) b h = none_below (P (suc a)) b h

at_path : (P : ℕ → ℕ → Type 0) → P 0 0 → P 1 0 → (a b : ℕ) → IsTrue (is_live two_priorities a && (b == 0)) → P a b
at_path P p q zero b h = only_zero (P 0) true p b h
at_path P p q (suc zero) b h = only_zero (P 1) true q b h
at_path P p q (suc (suc a)) b h = absurd (let parts = and_parts false (b == 0) h in cc)

abbrev Meets : Kind → ℕ → ℕ → Type 0
Meets kind a b = MeetsEquation two_priorities table (cell_of kind a b)

meets_at : (kind : Kind) (a b : ℕ) → IsTrue (has_cell two_priorities (cell_of kind a b)) → Meets kind a b
meets_at In a b h = at_hop (Meets In)
    record { value = curve lower_arrival; is = refl; means = refl }
    record { value = curve higher_arrival; is = refl; means = refl } a b h
meets_at Cross a b h = at_hop (Meets Cross)
    record { value = curve zero_curve; is = refl; means = refl }
    record { value = curve zero_curve; is = refl; means = refl } a b h
meets_at Total a b h = at_queue (Meets Total)
    record { value = curve higher_arrival; is = refl; means = refl }
    record { value = curve lower_arrival; is = refl; means = refl } a b h
meets_at Higher a b h = at_level (Meets Higher)
    record { value = curve zero_curve; is = refl; means = refl }
    record { value = curve higher_arrival; is = refl; means = refl } a b h
meets_at QueueService a b h = at_queue (Meets QueueService)
    record { value = curve higher_service; is = refl; means = higher_served }
    record { value = curve lower_service; is = refl; means = lower_served } a b h
meets_at Theta a b h = at_hop (Meets Theta)
    record { value = number (Fin zero_q); is = refl; means = of_horizontal table (value Cross 0 0) (value QueueService 0 1) zero_curve lower_service (Fin zero_q) refl refl lower_theta }
    record { value = number (Fin zero_q); is = refl; means = of_horizontal table (value Cross 1 0) (value QueueService 0 0) zero_curve higher_service (Fin zero_q) refl refl higher_theta } a b h
meets_at Residual a b h = at_hop (Meets Residual)
    record { value = curve lower_service; is = refl; means = of_left table (value QueueService 0 1) (value Cross 0 0) (value Theta 0 0) lower_service zero_curve lower_service (Fin zero_q) refl refl refl lower_rest }
    record { value = curve higher_service; is = refl; means = of_left table (value QueueService 0 0) (value Cross 1 0) (value Theta 1 0) higher_service zero_curve higher_service (Fin zero_q) refl refl refl higher_rest } a b h
meets_at QueueDelay a b h = at_queue (Meets QueueDelay)
    record { value = number higher_delay; is = refl; means = of_horizontal table (value Total 0 0) (value QueueService 0 0) higher_arrival higher_service higher_delay refl refl higher_delay_is }
    record { value = number lower_delay; is = refl; means = of_horizontal table (value Total 0 1) (value QueueService 0 1) lower_arrival lower_service lower_delay refl refl lower_delay_is } a b h
meets_at QueueBacklog a b h = at_queue (Meets QueueBacklog)
    record { value = number (Fin (whole 6000)); is = refl; means = of_vertical table (value Total 0 0) (less (value QueueService 0 0) 6000) higher_arrival higher_packets (Fin (whole 6000)) refl (of_one table (PosMinus (whole 6000)) (value QueueService 0 0) higher_service higher_packets refl higher_whole) higher_backlog }
    record { value = number (Fin (whole 12000)); is = refl; means = of_vertical table (value Total 0 1) (less (value QueueService 0 1) 12000) lower_arrival lower_packets (Fin (whole 12000)) refl (of_one table (PosMinus (whole 12000)) (value QueueService 0 1) lower_service lower_packets refl lower_whole) lower_backlog } a b h
meets_at HopDelay a b h = at_hop (Meets HopDelay)
    record { value = number lower_delay; is = refl; means = of_smaller table (value QueueDelay 0 1) (horizontal (value In 0 0) (value Residual 0 0)) lower_delay lower_delay lower_delay refl (of_horizontal table (value In 0 0) (value Residual 0 0) lower_arrival lower_service lower_delay refl refl lower_delay_is) (lesser_same lower_delay) }
    record { value = number higher_delay; is = refl; means = of_smaller table (value QueueDelay 0 0) (horizontal (value In 1 0) (value Residual 1 0)) higher_delay higher_delay higher_delay refl (of_horizontal table (value In 1 0) (value Residual 1 0) higher_arrival higher_service higher_delay refl refl higher_delay_is) (lesser_same higher_delay) } a b h
meets_at ShiftOut a b h = before_hop (Meets ShiftOut) a b h
meets_at DeconvOut a b h = before_hop (Meets DeconvOut) a b h
meets_at Out a b h = before_hop (Meets Out) a b h
meets_at PathService a b h = at_path (Meets PathService)
    record { value = curve lower_service; is = refl; means = refl }
    record { value = curve higher_service; is = refl; means = refl } a b h
meets_at Tfa a b h = at_path (Meets Tfa)
    record { value = number lower_delay; is = refl; means = of_along table (cell_of HopDelay 0 0 ∷ []) (whole 0 ∷ []) (lower_delay ∷ []) lower_delay (refl, tt) (no_link lower_delay) }
    record { value = number higher_delay; is = refl; means = of_along table (cell_of HopDelay 1 0 ∷ []) (whole 0 ∷ []) (higher_delay ∷ []) higher_delay (refl, tt) (no_link lower_delay) } a b h
meets_at Sfa a b h = at_path (Meets Sfa)
    record { value = number lower_delay; is = refl; means = of_delayed table (horizontal (value In 0 0) (value PathService 0 0)) (whole 0 ∷ []) lower_delay lower_delay (of_horizontal table (value In 0 0) (value PathService 0 0) lower_arrival lower_service lower_delay refl refl lower_delay_is) (no_link lower_delay) }
    record { value = number higher_delay; is = refl; means = of_delayed table (horizontal (value In 1 0) (value PathService 1 0)) (whole 0 ∷ []) higher_delay higher_delay (of_horizontal table (value In 1 0) (value PathService 1 0) higher_arrival higher_service higher_delay refl refl higher_delay_is) (no_link lower_delay) } a b h
meets_at Bound a b h = at_path (Meets Bound)
    record { value = number lower_delay; is = refl; means = of_smaller table (value Tfa 0 0) (value Sfa 0 0) lower_delay lower_delay lower_delay refl refl (lesser_same lower_delay) }
    record { value = number higher_delay; is = refl; means = of_smaller table (value Tfa 1 0) (value Sfa 1 0) higher_delay higher_delay higher_delay refl refl (lesser_same higher_delay) } a b h

pub meets : MeetsEquations two_priorities table
meets c h = meets_at c.kind c.a c.b h
