-- What a service is worth to whole packets grows from zero where the service does.
use Rattle.upp_limits.specs.declared.op_kind.OpKind.TheVariants.{PosMinus}
use Rattle.upp_curve.specs.Curve.{value_at}
use Rattle.plain_operators.proofs.CurveCalls.{growing_answers}
use Rattle.residuals.specs.packetiser.Growth.{PacketServiceGrows, PacketCurveGrows}

pub service_grows : PacketServiceGrows
service_grows β R l low grows is = growing_answers (PosMinus l) β β R (low, grows) is

pub curve_grows : PacketCurveGrows
curve_grows β c l low grows made = record {
  curve = made.made.curve;
  grows = service_grows (value_at β) (value_at c) l low grows made.made.answers;
}
