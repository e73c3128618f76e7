-- A field, and an order that its operations keep.
use Rattle.rational.proofs.Laws.{add_comm, add_assoc, add_zero, add_neg, sub_add, mul_comm, mul_assoc, mul_one}
use Rattle.rational.proofs.Laws.{mul_inv, mul_add, div_mul, zero_not_one, le_refl, le_trans, antisym, le_total}
use Rattle.rational.proofs.Laws.{not_le_of_lt, lt_of_not_le, add_le_add, mul_nonneg}
use Rattle.rational.proofs.field_laws.ordered_field.Goals as goal

pub returns-clause-field : goal.returns-clause-field
returns-clause-field c = record {
  add_comm = add_comm;
  add_assoc = add_assoc;
  add_zero = add_zero;
  add_neg = add_neg;
  mul_comm = mul_comm;
  mul_assoc = mul_assoc;
  mul_one = mul_one;
  mul_inv = mul_inv;
  mul_add = mul_add;
  distinct = zero_not_one;
  difference = sub_add;
  quotient = div_mul;
}

pub returns-clause-order : goal.returns-clause-order
returns-clause-order c = record {
  le_refl = le_refl;
  le_trans = λ x y z h k. le_trans h k;
  antisym = λ x y h k. antisym (h, k);
  total = le_total;
  strict = λ x y. (λ h. not_le_of_lt h, λ h. lt_of_not_le h);
  add = λ x y z h. add_le_add h (le_refl z);
  mul = λ x y h k. mul_nonneg h k;
}
