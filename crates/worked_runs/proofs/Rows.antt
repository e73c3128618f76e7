-- The curves that several worked networks have, and sums and products of their numbers, by computing.
use Rattle.std.specs.Prelude.{◌≡◌, [], ◌∷◌}
use Rattle.std.proofs.Common.{refl, ap, ◌∙◌}
use Rattle.rational.specs.Rational.{◌-ℚ◌, ◌*ℚ◌}
use Rattle.rational.specs.declared.Extended.TheVariants.{Fin}
use Rattle.rational.specs.Fractions.{same_parts}
use Rattle.rational.specs.Extended.{Ext, ◌+ₑ◌, min_ext}
use Rattle.rational.proofs.ExtendedOrder.{add_zero_ext, le_ext_refl, min_ext_of_le}
use Rattle.min_plus.specs.Functions.{zero_q}
use Rattle.min_plus.specs.Formulas.{IsBucket}
use Rattle.min_plus.specs.Deviations.{IsHorizontalDeviation, IsVerticalDeviation}
use Rattle.upp_limits.specs.declared.op_kind.OpKind.TheVariants.{PosMinus, FifoLeft}
use Rattle.upp_curve.specs.Curve.{SpecCurve, value_at}
use Rattle.upp_curve.specs.Kinds.{bucket, rate_latency}
use Rattle.curve_call.specs.Answers.{IsMadeBy}
use Rattle.run_laws.proofs.Small.{le_t, lt_t}
use Rattle.upp_curve.proofs.KindValues.{bucket_is}
use Rattle.upp_curve.proofs.Worked.{computing}
use Rattle.run_laws.specs.Cards.{whole}
use Rattle.net_cells.specs.NumberSums.{sum_of_numbers}
use Rattle.worked_runs.proofs.Curves.{IsBurst, burst_by, IsLate, late_by}
use Rattle.worked_runs.proofs.Operators.{less_packet, alone_left, delay_of, backlog_of}

pub nothing : IsBucket zero_q zero_q (value_at (bucket zero_q zero_q))
nothing = bucket_is zero_q zero_q

pub after_10 : IsLate (whole 100) (whole 10)
unfolding computing
after_10 = late_by (whole 100) (whole 10) refl

pub after_70 : IsLate (whole 100) (whole 70)
unfolding computing
after_70 = late_by (whole 100) (whole 70) refl

pub after_130 : IsLate (whole 100) (whole 130)
unfolding computing
after_130 = late_by (whole 100) (whole 130) refl

pub after_190 : IsLate (whole 100) (whole 190)
unfolding computing
after_190 = late_by (whole 100) (whole 190) refl

pub burst_12000 : IsBurst (whole 12000) (whole 10)
unfolding computing
burst_12000 = burst_by (whole 12000) (whole 10) refl

pub burst_6000 : IsBurst (whole 6000) (whole 5)
unfolding computing
burst_6000 = burst_by (whole 6000) (whole 5) refl

packet_12000 : whole 100 *ℚ (whole 130 -ℚ whole 10) ≡ whole 12000
unfolding computing
packet_12000 = same_parts _ _ refl refl

-- ---- a delay, with no link behind it
pub no_link : (d : Ext) → sum_of_numbers (d ∷ Fin (whole 0) ∷ []) ≡ d
no_link d = ap (λ y. d +ₑ y) (add_zero_ext (Fin (whole 0))) ∙ add_zero_ext d

-- the lesser of a number and itself
pub lesser_same : (d : Ext) → min_ext d d ≡ d
lesser_same d = min_ext_of_le d d (le_ext_refl d)

-- ---- the server, and two flows
abbrev pub service : SpecCurve
service = rate_latency (whole 100) (whole 10)

-- in packets of 12000 bits
abbrev pub packets : SpecCurve
packets = rate_latency (whole 100) (whole 130)

abbrev pub first_arrival : SpecCurve
first_arrival = bucket (whole 12000) (whole 10)

abbrev pub second_arrival : SpecCurve
second_arrival = bucket (whole 6000) (whole 5)

pub whole_packets : IsMadeBy (PosMinus (whole 12000)) service service packets
whole_packets =
    less_packet (whole 100) (whole 10) (whole 130) (whole 12000) after_10 after_130 (le_t 10 130 refl) packet_12000

-- where nothing comes beside a flow
pub alone : IsMadeBy (FifoLeft (Fin zero_q)) service (bucket zero_q zero_q) service
alone = alone_left (whole 100) (whole 10) after_10 nothing

pub first_delay_is : IsHorizontalDeviation (value_at first_arrival) (value_at service) (Fin (whole 130))
unfolding computing
first_delay_is =
    delay_of (whole 12000) (whole 10) (whole 100) (whole 10) (whole 130) burst_12000 after_10 (le_t 10 100 refl)
    (lt_t 0 12000 refl) (same_parts _ _ refl refl)

pub first_backlog_is : IsVerticalDeviation (value_at first_arrival) (value_at packets) (Fin (whole 13300))
unfolding computing
first_backlog_is =
    backlog_of (whole 12000) (whole 10) (whole 100) (whole 130) (whole 13300) burst_12000 after_130 (le_t 10 100 refl)
    (same_parts _ _ refl refl)
