use Rattle.residuals.proofs.packetiser.PacketLaw.{curve_serves}
use Rattle.residuals.proofs.packetiser.laws.packet_curve_serves.Goals as goal

pub returns : goal.returns
returns c = curve_serves
