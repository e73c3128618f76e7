-- The curve that the call makes serves whole packets, since its values are those of the service less one packet.
use Rattle.std.specs.Prelude.{◌≡◌, List}
use Rattle.std.proofs.Common.{sym, subst}
use Rattle.rational.specs.Rational.{ℚ, ◌-ℚ◌, ◌≤ℚ◌}
use Rattle.rational.specs.Extended.{Ext, ◌≤ₑ◌, ◌+ₑ◌}
use Rattle.rational.specs.declared.Extended.TheVariants.{Fin}
use Rattle.rational.proofs.Linear.{with2}
use Rattle.upp_curve.specs.Curve.{value_at}
use Rattle.min_plus.specs.Functions.{zero_q}
use Rattle.min_plus.specs.Pointwise.{packetised}
use Rattle.run_laws.specs.Cards.{Class, whole, ServerStep}
use Rattle.run_laws.specs.Counts.{arrived, departed}
use Rattle.run_laws.specs.Serves.{ServesPackets}
use Rattle.run_laws.proofs.Service.{packets_are_served}
use Rattle.residuals.specs.packetiser.Packets.{PacketCurveServes}
use Rattle.std.proofs.Common.{arith}

span_nonneg : (s t : ℚ) → s ≤ℚ t → zero_q ≤ℚ t -ℚ s
span_nonneg s t h = with2 s t (λ c. omega (arith, c.le, c.lt, c.same))

same_service : (C : Class) (f g : ℚ → Ext) (end : ℚ) (view : List ServerStep) → ((t : ℚ) → zero_q ≤ℚ t → g t ≡ f t)
    → ServesPackets C f end view → ServesPackets C g end view
same_service C f g end view same serves t l =
    let (s, is) = serves t l in (
      s,
      record {
        earlier = is.earlier;
        kept_up = subst (λ (v : Ext). (Fin (arrived C view s) +ₑ v) ≤ₑ Fin (departed C view t)) (sym (same (t -ℚ s)
            (span_nonneg s t is.earlier))) is.kept_up;
      },
    )

pub curve_serves : PacketCurveServes
curve_serves server end view C bits β c made lawful sizes serves =
    same_service C (packetised (value_at β) (whole bits)) (value_at c) end view made.made.answers
    (packets_are_served server end view C (value_at β) bits lawful sizes serves)
