-- When a packet on a link is late.
use Rattle.std.proofs.Common.{refl}
use Rattle.std.specs.Prelude.{Bool, IsTrue, not, ◌≡◌, ◌↔◌, true, false}
use Rattle.rational.specs.Rational.{ℚ, ◌≤ℚ◌, ◌<ℚ◌}
use Rattle.rational.proofs.Laws.{le_of_not_lt, lt_irrefl, lt_le_trans}

pub late_test : (b : Bool) (x y : ℚ) → (IsTrue b ↔ (x <ℚ y)) → (IsTrue (not b) → y ≤ℚ x) × (y ≤ℚ x → IsTrue (not b))
late_test true x y h = (λ t. absurd (let f : false ≡ true = t in cc), λ l. absurd (lt_irrefl x (lt_le_trans (h.0 refl) l)))
late_test false x y h = (λ t. le_of_not_lt (λ l. let f : false ≡ true = h.1 l in cc), λ l. refl)
