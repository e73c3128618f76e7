use Rattle.std.proofs.Common.{◌≡◌, Bool, true, false, not, refl, sym, subst, true≢false}
use Rattle.std.specs.Prelude.{IsTrue, ◌↔◌}
use Rattle.rational.specs.Rational.{ℚ, ◌≤ℚ◌, ◌<ℚ◌}
use Rattle.rational.proofs.Compared.{not_less_out}
use Rattle.rational.proofs.Laws.{not_le_of_lt}
use Rattle.min_plus.specs.Functions.{zero_q}
use Rattle.curve_lang.proofs.operators.is_from_zero.Goals as goal

from_zero : (b : Bool) (x z : ℚ) → z ≡ zero_q → (IsTrue b ↔ (x <ℚ z)) → IsTrue (not b) ↔ (zero_q ≤ℚ x)
from_zero true x z same less =
    ((λ h. absurd (true≢false (sym h))), (λ h. absurd (not_le_of_lt (subst (λ y. x <ℚ y) same (less.0 refl)) h)))
from_zero false x z same less =
    ((λ h. subst (λ y. y ≤ℚ x) same (not_less_out false x z less refl)), (λ h. refl))

pub returns : goal.returns
returns c = from_zero c.is_less.result c.args.x c.zero.result c.zero.ensures c.is_less.ensures.less
