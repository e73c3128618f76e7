-- A total order with a greatest number.
use Rattle.rational.proofs.ExtendedOrder.{le_ext_refl, le_ext_trans, antisym_ext, le_ext_total, lt_ext_not_le, le_inf}
use Rattle.rational.proofs.extended_laws.extended_order.Goals as goal

pub returns : goal.returns
returns c = record {
  le_refl = le_ext_refl;
  le_trans = le_ext_trans;
  antisym = antisym_ext;
  total = le_ext_total;
  strict = lt_ext_not_le;
  greatest = le_inf;
}
