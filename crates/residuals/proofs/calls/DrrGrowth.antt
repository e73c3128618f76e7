-- What a queue of a deficit round robin server is served grows from zero where the service does: its share and what
-- is owed are from 0 on.
use Rattle.std.specs.Prelude.{◌≡◌, ◌≤◌, ◌<◌, ℕ, get_or, sum}
use Rattle.std.proofs.Common.{arith, refl}
use Rattle.std.proofs.lemmas.List.Elements.{All-get_or}
use Rattle.rational.specs.Rational.{ℚ, ◌≤ℚ◌}
use Rattle.rational.specs.Extended.{Ext}
use Rattle.upp_limits.specs.declared.op_kind.OpKind.TheVariants.{Scale, PosMinus}
use Rattle.upp_curve.specs.Curve.{value_at}
use Rattle.min_plus.specs.Functions.{zero_q}
use Rattle.min_plus.specs.Pointwise.{scaled}
use Rattle.plain_operators.specs.CurveCalls.{GrowsFromZero}
use Rattle.plain_operators.proofs.CurveCalls.{growing_answers}
use Rattle.residuals.specs.calls.DrrCalls.{IsQuantum}
use Rattle.residuals.specs.calls.DrrGrowth.{DrrServiceGrows, DrrCurveGrows}
use Rattle.residual_laws.specs.DrrLaws.{share, owed, drr_left}
use Rattle.residuals.proofs.calls.DrrCalls.{service_is, made_curve}
use Rattle.residual_laws.proofs.Owed.{in_sum, share_nonneg, owed_nonneg}

-- the share first, and then what is owed
share_grows : (β R : ℚ → Ext) (Q l F L : ℕ) → 0 < F → Q ≤ F → l ≤ L → GrowsFromZero β → ((t : ℚ) → zero_q ≤ℚ t → R t ≡ drr_left β Q l F L t) → GrowsFromZero R
share_grows β R Q l F L some own packet grows is =
    growing_answers (PosMinus (owed Q l F L)) part part R
    (owed_nonneg Q l F L some own packet, growing_answers (Scale (share Q F)) β β part (share_nonneg Q F some, grows) (λ t p. refl)) is
  where
    part : ℚ → Ext
    part t = scaled (share Q F) (β t)

pub service_grows : DrrServiceGrows
service_grows β R quanta longest i paired among some grows is =
    let own = in_sum quanta i among in
    let packet : get_or longest i 0 ≤ sum longest = in_sum longest i (rw paired among) in
    share_grows β R (get_or quanta i 0) (get_or longest i 0) (sum quanta) (sum longest) (omega arith) own packet grows is

pub curve_grows : DrrCurveGrows
curve_grows β c quanta longest i queues among grows made = record {
  curve = made_curve β c quanta longest i made;
  grows = service_grows (value_at β) (value_at c) quanta longest i queues.paired among (All-get_or IsQuantum quanta i 0 among queues.each).0 grows
      (service_is β c quanta longest i made);
}
