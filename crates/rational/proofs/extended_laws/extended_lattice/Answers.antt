-- The lesser and the greater of two.
use Rattle.rational.proofs.ExtendedOrder.{min_left, min_right, min_greatest, min_one, min_ext_comm, min_ext_assoc}
use Rattle.rational.proofs.ExtendedOrder.{min_add_ext, max_left, max_right, max_least, max_one, max_ext_comm}
use Rattle.rational.proofs.ExtendedOrder.{max_ext_assoc, max_add_ext}
use Rattle.rational.proofs.extended_laws.extended_lattice.Goals as goal

pub returns-clause-lesser : goal.returns-clause-lesser
returns-clause-lesser c =
    λ x y. record { left = min_left x y; right = min_right x y; greatest = min_greatest x y; one = min_one x y }

pub returns-clause-greater : goal.returns-clause-greater
returns-clause-greater c =
    λ x y. record { left = max_left x y; right = max_right x y; least = max_least x y; one = max_one x y }

pub returns-clause-laws : goal.returns-clause-laws
returns-clause-laws c = record {
  min_comm = min_ext_comm;
  min_assoc = min_ext_assoc;
  min_add = min_add_ext;
  max_comm = max_ext_comm;
  max_assoc = max_ext_assoc;
  max_add = max_add_ext;
}
