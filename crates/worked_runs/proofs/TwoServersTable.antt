-- The table of one flow over two servers with links.
use Rattle.std.specs.Prelude.{◌≡◌, ℕ, zero, suc, ◌+◌, ◌==◌, ◌&&◌, nat_lt, IsTrue, true, false, Option, Some, None, [], ◌∷◌}
use Rattle.std.proofs.lemmas.Bool.{and_parts}
use Rattle.std.proofs.Common.{refl, ap}
use Rattle.rational.specs.Extended.{Ext, min_ext}
use Rattle.rational.specs.declared.Extended.TheVariants.{Fin}
use Rattle.rational.specs.Fractions.{same_parts}
use Rattle.min_plus.specs.Functions.{zero_q}
use Rattle.min_plus.specs.Deviations.{IsHorizontalDeviation, IsVerticalDeviation}
use Rattle.curve_call.specs.Answers.{IsMadeBy}
use Rattle.upp_limits.specs.declared.op_kind.OpKind.TheVariants.{Min, PosMinus, Shift, Convolve, Deconvolve}
use Rattle.upp_curve.specs.Curve.{SpecCurve, value_at}
use Rattle.upp_curve.specs.Kinds.{bucket, rate_latency}
use Rattle.upp_curve.proofs.Worked.{computing}
use Rattle.run_laws.specs.Cards.{whole}
use Rattle.run_laws.proofs.Small.{le_t, lt_t}
use Rattle.net_cells.specs.declared.cell.Kind.{Kind}
use Rattle.net_cells.specs.declared.cell.Kind.TheVariants.{In, Cross, Total, Higher, QueueService, Theta, Residual, QueueDelay, QueueBacklog, HopDelay, ShiftOut, DeconvOut, Out, PathService, Tfa, Sfa, Bound}
use Rattle.net_cells.specs.Numbered.{hops, queues, levels, is_live, zero_curve}
use Rattle.net_cells.specs.Cells.{cell_of, has_cell}
use Rattle.net_cells.specs.CellFormulas.{value, less}
use Rattle.net_cells.specs.Formulas.{Formula, leftover, horizontal}
use Rattle.net_cells.specs.Means.{Means}
use Rattle.net_cells.specs.NumberSums.{sum_of_numbers}
use Rattle.net_cells.specs.Equations.{MeetsEquation, MeetsEquations}
use Rattle.net_cells.specs.Meanings.{Meaning, curve, number, CellTable}
use Rattle.worked_runs.specs.TwoServers.{two_servers}
use Rattle.worked_runs.proofs.Meanings.{by_number, of_one, of_two, of_move, of_left, of_horizontal, of_vertical, of_smaller, of_along, of_delayed, none_below, below_one, below_two, none_before, before_two, only_zero}
use Rattle.worked_runs.proofs.Operators.{bucket_least, bucket_shift, bucket_output, services_convolve, delay_of, no_delay, backlog_of}
use Rattle.worked_runs.proofs.Rows.{nothing, after_10, after_130, burst_12000, service, packets, first_arrival, whole_packets, alone, first_delay_is, first_backlog_is, lesser_same}
use Rattle.worked_runs.proofs.Curves.{IsBurst, burst_by, IsLate, late_by}

-- ---- the values
-- what leaves the first server, and so comes to the second
abbrev output : SpecCurve
output = bucket (whole 13300) (whole 10)

-- of both
abbrev service_of_both : SpecCurve
service_of_both = rate_latency (whole 100) (whole 140)

abbrev first_delay : Ext
first_delay = Fin (whole 130)

abbrev second_delay : Ext
second_delay = Fin (whole 143)

abbrev values : Kind → ℕ → ℕ → Option Meaning
values In i k = Some (curve (by_number first_arrival output k))
values Cross i k = Some (curve zero_curve)
values Total s q = Some (curve (by_number first_arrival output s))
values Higher s q = None
values QueueService s q = Some (curve service)
values Theta i k = Some (number (Fin zero_q))
values Residual i k = Some (curve service)
values QueueDelay s q = Some (number (by_number first_delay second_delay s))
values QueueBacklog s q = Some (number (by_number (Fin (whole 13300)) (Fin (whole 14600)) s))
values HopDelay i k = Some (number (by_number first_delay second_delay k))
values ShiftOut i k = Some (curve output)
values DeconvOut i k = Some (curve output)
values Out i k = Some (curve output)
values PathService i b = Some (curve service_of_both)
values Tfa i b = Some (number (Fin (whole 283)))
values Sfa i b = Some (number (Fin (whole 270)))
values Bound i b = Some (number (Fin (whole 270)))

abbrev pub table : CellTable
table c = values c.kind c.a c.b

-- ---- what the operators make
burst_13300 : IsBurst (whole 13300) (whole 10)
unfolding computing
burst_13300 = burst_by (whole 13300) (whole 10) refl

after_140 : IsLate (whole 100) (whole 140)
unfolding computing
after_140 = late_by (whole 100) (whole 140) refl

delay_at_second : IsHorizontalDeviation (value_at output) (value_at service) second_delay
unfolding computing
delay_at_second =
    delay_of (whole 13300) (whole 10) (whole 100) (whole 10) (whole 143) burst_13300 after_10 (le_t 10 100 refl)
    (lt_t 0 13300 refl) (same_parts _ _ refl refl)

delay_over_both : IsHorizontalDeviation (value_at first_arrival) (value_at service_of_both) (Fin (whole 260))
unfolding computing
delay_over_both =
    delay_of (whole 12000) (whole 10) (whole 100) (whole 140) (whole 260) burst_12000 after_140 (le_t 10 100 refl)
    (lt_t 0 12000 refl) (same_parts _ _ refl refl)

second_backlog : IsVerticalDeviation (value_at output) (value_at packets) (Fin (whole 14600))
unfolding computing
second_backlog =
    backlog_of (whole 13300) (whole 10) (whole 100) (whole 130) (whole 14600) burst_13300 after_130 (le_t 10 100 refl)
    (same_parts _ _ refl refl)

shifted : IsMadeBy (Shift first_delay) first_arrival first_arrival output
unfolding computing
shifted =
    bucket_shift (whole 12000) (whole 10) (whole 130) (whole 13300) burst_12000 burst_13300 (le_t 0 130 refl)
    (same_parts _ _ refl refl)

leaves_as : IsMadeBy Deconvolve first_arrival packets output
unfolding computing
leaves_as =
    bucket_output (whole 12000) (whole 10) (whole 100) (whole 130) (whole 13300) burst_12000 after_130 burst_13300
    (le_t 10 100 refl) (same_parts _ _ refl refl)

in_a_row : IsMadeBy Convolve packets service service_of_both
unfolding computing
in_a_row =
    services_convolve (whole 100) (whole 130) (whole 10) (whole 140) after_130 after_10 after_140 (same_parts _ _ refl refl)

-- with two links of 5
by_hops : sum_of_numbers (first_delay ∷ second_delay ∷ Fin (whole 5) ∷ Fin (whole 5) ∷ []) ≡ Fin (whole 283)
unfolding computing
by_hops = ap Fin (same_parts _ _ refl refl)

by_service : sum_of_numbers (Fin (whole 260) ∷ Fin (whole 5) ∷ Fin (whole 5) ∷ []) ≡ Fin (whole 270)
unfolding computing
by_service = ap Fin (same_parts _ _ refl refl)

least : min_ext (Fin (whole 283)) (Fin (whole 270)) ≡ Fin (whole 270)
unfolding computing
least = ap Fin (same_parts _ _ refl refl)

-- ---- the equations
at_hop : (P : ℕ → ℕ → Type 0) → P 0 0 → P 0 1 → (a b : ℕ) → IsTrue (nat_lt b (hops two_servers a)) → P a b
at_hop P p q zero b h = below_two (P 0) p q b h
at_hop P p q (suc a) b h = none_below (P (suc a)) b h

before_hop : (P : ℕ → ℕ → Type 0) → P 0 0 → (a b : ℕ) → IsTrue (nat_lt (b + 1) (hops two_servers a)) → P a b
before_hop P p zero b h = before_two (P 0) p b h
before_hop P p (suc a) b h = none_before (P (suc a)) b h

at_queue : (P : ℕ → ℕ → Type 0) → P 0 0 → P 1 0 → (a b : ℕ) → IsTrue (nat_lt b (queues two_servers a)) → P a b
at_queue P p q zero b h = below_one (P 0) p b h
at_queue P p q (suc zero) b h = below_one (P 1) q b h
at_queue P p q (suc (suc a)) b h = none_below (P (suc (suc a))) b h

at_level : (P : ℕ → ℕ → Type 0) → (a b : ℕ) → IsTrue (nat_lt b (levels two_servers a)) → P a b
at_level P zero b h = none_below (P 0) b h
at_level P (suc zero) b h = none_below (P 1) b h
at_level P (suc (suc a)) b h = none_below (P (suc (suc a))) b h

at_path : (P : ℕ → ℕ → Type 0) → P 0 0 → (a b : ℕ) → IsTrue (is_live two_servers a && (b == 0)) → P a b
at_path P p zero b h = only_zero (P 0) true p b h
at_path P p (suc a) b h = absurd (let parts = and_parts false (b == 0) h in cc)

abbrev Meets : Kind → ℕ → ℕ → Type 0
Meets kind a b = MeetsEquation two_servers table (cell_of kind a b)

-- at either server
theta_is : (k : ℕ) → Means table (horizontal (value Cross 0 k) (value QueueService k 0)) (number (Fin zero_q))
theta_is k = of_horizontal table (value Cross 0 k) (value QueueService k 0) zero_curve service (Fin zero_q) refl refl
    (no_delay (whole 100) (whole 10) after_10 nothing)

residual_is : (k : ℕ) → Means table (leftover (value QueueService k 0) (value Cross 0 k) (value Theta 0 k)) (curve service)
residual_is k = of_left table (value QueueService k 0) (value Cross 0 k) (value Theta 0 k) service zero_curve service (Fin zero_q)
    refl refl refl alone

packets_are : (F : Formula) → Means table F (curve service) → Means table (less F 12000) (curve packets)
packets_are F m = of_one table (PosMinus (whole 12000)) F service packets m whole_packets

meets_at : (kind : Kind) (a b : ℕ) → IsTrue (has_cell two_servers (cell_of kind a b)) → Meets kind a b
meets_at In a b h = at_hop (Meets In) record { value = curve first_arrival; is = refl; means = refl }
    record { value = curve output; is = refl; means = refl } a b h
meets_at Cross a b h = at_hop (Meets Cross) record { value = curve zero_curve; is = refl; means = refl }
    record { value = curve zero_curve; is = refl; means = refl } a b h
meets_at Total a b h = at_queue (Meets Total) record { value = curve first_arrival; is = refl; means = refl }
    record { value = curve output; is = refl; means = refl } a b h
meets_at Higher a b h = at_level (Meets Higher) a b h
meets_at QueueService a b h = at_queue (Meets QueueService) record { value = curve service; is = refl; means = refl }
    record { value = curve service; is = refl; means = refl } a b h
meets_at Theta a b h = at_hop (Meets Theta) record { value = number (Fin zero_q); is = refl; means = theta_is 0 }
    record { value = number (Fin zero_q); is = refl; means = theta_is 1 } a b h
meets_at Residual a b h = at_hop (Meets Residual) record { value = curve service; is = refl; means = residual_is 0 }
    record { value = curve service; is = refl; means = residual_is 1 } a b h
meets_at QueueDelay a b h = at_queue (Meets QueueDelay) record {
  value = number first_delay;
  is = refl;
  means = of_horizontal table (value Total 0 0) (value QueueService 0 0) first_arrival service first_delay refl refl first_delay_is;
} record {
  value = number second_delay;
  is = refl;
  means = of_horizontal table (value Total 1 0) (value QueueService 1 0) output service second_delay refl refl delay_at_second;
} a b h
meets_at QueueBacklog a b h = at_queue (Meets QueueBacklog) record {
  value = number (Fin (whole 13300));
  is = refl;
  means = of_vertical table (value Total 0 0) (less (value QueueService 0 0) 12000) first_arrival packets (Fin (whole 13300)) refl
      (packets_are (value QueueService 0 0) refl) first_backlog_is;
} record {
  value = number (Fin (whole 14600));
  is = refl;
  means = of_vertical table (value Total 1 0) (less (value QueueService 1 0) 12000) output packets (Fin (whole 14600)) refl
      (packets_are (value QueueService 1 0) refl) second_backlog;
} a b h
meets_at HopDelay a b h = at_hop (Meets HopDelay) record {
  value = number first_delay;
  is = refl;
  means = of_smaller table (value QueueDelay 0 0) (horizontal (value In 0 0) (value Residual 0 0)) first_delay first_delay
      first_delay refl
      (of_horizontal table (value In 0 0) (value Residual 0 0) first_arrival service first_delay refl refl first_delay_is) (lesser_same first_delay);
} record {
  value = number second_delay;
  is = refl;
  means = of_smaller table (value QueueDelay 1 0) (horizontal (value In 0 1) (value Residual 0 1)) second_delay second_delay
      second_delay refl
      (of_horizontal table (value In 0 1) (value Residual 0 1) output service second_delay refl refl delay_at_second) (lesser_same second_delay);
} a b h
meets_at ShiftOut a b h = before_hop (Meets ShiftOut) record {
  value = curve output;
  is = refl;
  means = of_move table (value In 0 0) (value HopDelay 0 0) first_arrival output first_delay refl refl shifted;
} a b h
meets_at DeconvOut a b h = before_hop (Meets DeconvOut) record {
  value = curve output;
  is = refl;
  means = of_two table Deconvolve (value In 0 0) (less (value Residual 0 0) 12000) first_arrival packets output refl
      (packets_are (value Residual 0 0) refl) leaves_as;
} a b h
meets_at Out a b h = before_hop (Meets Out) record {
  value = curve output;
  is = refl;
  means = of_two table Min (value ShiftOut 0 0) (value DeconvOut 0 0) output output output refl refl
      (bucket_least (whole 13300) (whole 10) burst_13300);
} a b h
meets_at PathService a b h = at_path (Meets PathService) record {
  value = curve service_of_both;
  is = refl;
  means = of_two table Convolve (less (value Residual 0 0) 12000) (value Residual 0 1) packets service service_of_both
      (packets_are (value Residual 0 0) refl) refl in_a_row;
} a b h
meets_at Tfa a b h = at_path (Meets Tfa) record {
  value = number (Fin (whole 283));
  is = refl;
  means = of_along table (cell_of HopDelay 0 0 ∷ cell_of HopDelay 0 1 ∷ []) (whole 5 ∷ whole 5 ∷ [])
      (first_delay ∷ second_delay ∷ []) (Fin (whole 283)) (refl, (refl, tt)) by_hops;
} a b h
meets_at Sfa a b h = at_path (Meets Sfa) record {
  value = number (Fin (whole 270));
  is = refl;
  means = of_delayed table (horizontal (value In 0 0) (value PathService 0 0)) (whole 5 ∷ whole 5 ∷ []) (Fin (whole 260))
      (Fin (whole 270))
      (of_horizontal table (value In 0 0) (value PathService 0 0) first_arrival service_of_both (Fin (whole 260)) refl refl
      delay_over_both) by_service;
} a b h
meets_at Bound a b h = at_path (Meets Bound) record {
  value = number (Fin (whole 270));
  is = refl;
  means = of_smaller table (value Tfa 0 0) (value Sfa 0 0) (Fin (whole 283)) (Fin (whole 270)) (Fin (whole 270)) refl refl least;
} a b h

pub meets : MeetsEquations two_servers table
meets c h = meets_at c.kind c.a c.b h
