-- The curve that serves whole packets, as a call makes it. (Le Boudec and Thiran, packetisers.)
use Rattle.std.specs.Prelude.{ℕ, List, Ok}
use Rattle.rational.specs.Rational.{ℚ}
use Rattle.upp_limits.specs.declared.op_kind.OpKind.TheVariants.{PosMinus}
use Rattle.upp_curve.specs.Curve.{SpecCurve, value_at}
use Rattle.run_laws.specs.Cards.{Class, whole, ServerStep}
use Rattle.run_laws.specs.Servers.{Server}
use Rattle.run_laws.specs.Allows.{IsLawfulView}
use Rattle.run_laws.specs.Premises.{KeepsSizes}
use Rattle.run_laws.specs.Serves.{Serves, ServesPackets}
use Rattle.plain_operators.specs.CurveCalls.{AppliesTo}

-- where β serves a class whose packets have at most so many bits, the curve c that the call makes of β and that
-- number serves its whole packets: for each time t up to the run's end there is an s at t or before with at least
-- A(s) + c(t - s) bits of packets that left before t
abbrev pub PacketCurveServes : Type 0
PacketCurveServes = (server : Server) (end : ℚ) (view : List ServerStep) (C : Class) (bits : ℕ) (β c : SpecCurve) →
    AppliesTo (PosMinus (whole bits)) β (Ok c) →
    IsLawfulView server end view → KeepsSizes C bits view → Serves C (value_at β) end view →
    ServesPackets C (value_at c) end view
