-- The bounds of a line are its limits.
use Rattle.rational.proofs.Stretch.{line_infimum, line_supremum, rising_after_infimum, rising_after_supremum}
use Rattle.rational.proofs.Stretch.{falling_after_supremum}
use Rattle.rational.proofs.bound_laws.line_on_stretch.Goals as goal

pub returns-clause-bounded : goal.returns-clause-bounded
returns-clause-bounded c =
    λ lo hi a r h. record { infimum = line_infimum lo hi a r h; supremum = line_supremum lo hi a r h }

pub returns-clause-endless : goal.returns-clause-endless
returns-clause-endless c = λ lo a r. record {
  infimum = rising_after_infimum lo a r;
  supremum = falling_after_supremum lo a r;
  passed = rising_after_supremum lo a r;
}
