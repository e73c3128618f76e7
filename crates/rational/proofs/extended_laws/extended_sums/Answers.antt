-- Sums commute, associate and keep the order.
use Rattle.rational.proofs.ExtendedOrder.{add_ext_comm, add_ext_assoc, add_zero_ext, add_le_ext}
use Rattle.rational.proofs.extended_laws.extended_sums.Goals as goal

pub returns : goal.returns
returns c = record { add_comm = add_ext_comm; add_assoc = add_ext_assoc; add_zero = add_zero_ext; add_le = add_le_ext }
