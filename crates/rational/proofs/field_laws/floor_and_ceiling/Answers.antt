-- The nearest whole numbers on either side.
use Rattle.rational.proofs.Floor.{floor_le, floor_near, floor_most, floor_unique_near}
use Rattle.rational.proofs.Ceiling.{ceil_ge, ceil_lt, ceil_least, ceil_unique}
use Rattle.rational.proofs.field_laws.floor_and_ceiling.Goals as goal

pub returns-clause-floor : goal.returns-clause-floor
returns-clause-floor c = λ x. record {
  below = floor_le x;
  near = floor_near x;
  largest = λ z. floor_most z x;
  only = floor_unique_near x;
}

pub returns-clause-ceiling : goal.returns-clause-ceiling
returns-clause-ceiling c = λ x. record {
  above = ceil_ge x;
  near = ceil_lt x;
  least = λ z. ceil_least z x;
  only = ceil_unique x;
}
