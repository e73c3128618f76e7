-- The lesser and the greater of two.
use Rattle.rational.proofs.MinMax.{min_q_le_left, min_q_le_right, min_q_one, max_q_ge_left, max_q_ge_right, max_q_one}
use Rattle.rational.proofs.field_laws.lesser_and_greater.Goals as goal

pub returns-clause-lesser : goal.returns-clause-lesser
returns-clause-lesser c = λ x y. record { left = min_q_le_left x y; right = min_q_le_right x y; one = min_q_one x y }

pub returns-clause-greater : goal.returns-clause-greater
returns-clause-greater c = λ x y. record { left = max_q_ge_left x y; right = max_q_ge_right x y; one = max_q_one x y }
