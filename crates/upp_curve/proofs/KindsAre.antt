-- The curve of each kind has the kind's values and is in normal form.
use Rattle.upp_curve.specs.KindLaws.{KindsHaveTheirValues, KindsAreNormal}
use Rattle.upp_curve.proofs.ByTail.{bucket_normal}
use Rattle.upp_curve.proofs.KindValues.{bucket_is, service_is}
use Rattle.upp_curve.proofs.StairValues.{stair_is}
use Rattle.upp_curve.proofs.GateValues.{gate_is}
use Rattle.upp_curve.proofs.KindForms.{stair_normal, rate_latency_normal, gate_normal}

pub kinds_have_their_values : KindsHaveTheirValues
kinds_have_their_values = record {
  bucket = λ b r t h. (bucket_is b r).is t h;
  stair = stair_is;
  rate_latency = λ R T t rate latency h. (service_is R T rate latency).is t h;
  gate = gate_is;
}

pub kinds_are_normal : KindsAreNormal
kinds_are_normal = record { bucket = bucket_normal; stair = stair_normal; rate_latency = rate_latency_normal; gate = gate_normal }
