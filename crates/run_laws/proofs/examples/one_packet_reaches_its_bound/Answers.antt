use Rattle.run_laws.proofs.examples.one_packet_reaches_its_bound.Goals as goal
use Rattle.run_laws.proofs.OnePacket

pub returns : goal.returns
returns c = OnePacket.one_packet_reaches_its_bound
