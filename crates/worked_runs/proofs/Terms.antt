-- Sums over what a server sees, of which two terms are not 0: arrivals, and work.
use Rattle.std.specs.Prelude.{◌≡◌}
use Rattle.std.proofs.Common.{ap, ◌∙◌}
use Rattle.rational.specs.Rational.{ℚ, ◌+ℚ◌}
use Rattle.rational.proofs.Laws.{add_zero}
use Rattle.min_plus.specs.Functions.{zero_q}
use Rattle.run_laws.proofs.Sums.{add_nothing}

-- two packets arrive, and each is worked on and leaves
pub both_arrive : (u v : ℚ) → u +ℚ (v +ℚ (zero_q +ℚ (zero_q +ℚ (zero_q +ℚ (zero_q +ℚ zero_q))))) ≡ u +ℚ v
both_arrive u v = ap (λ y. u +ℚ y) (ap (λ y. v +ℚ y) (add_nothing _ ∙ add_nothing _ ∙ add_nothing _ ∙ add_nothing _) ∙ add_zero v)

pub both_worked : (u v : ℚ) → zero_q +ℚ (zero_q +ℚ (u +ℚ (zero_q +ℚ (v +ℚ (zero_q +ℚ zero_q))))) ≡ u +ℚ v
both_worked u v = add_nothing _ ∙ add_nothing _ ∙ ap (λ y. u +ℚ y) (add_nothing _ ∙ ap (λ y. v +ℚ y) (add_nothing _) ∙ add_zero v)

-- with a visit before each work
pub both_arrive_by_visits : (u v : ℚ) → u +ℚ (v +ℚ (zero_q +ℚ (zero_q +ℚ (zero_q +ℚ (zero_q +ℚ (zero_q +ℚ (zero_q +ℚ zero_q))))))) ≡ u +ℚ v
both_arrive_by_visits u v = ap (λ y. u +ℚ y) (ap (λ y. v +ℚ y) (add_nothing _ ∙ add_nothing _ ∙ add_nothing _ ∙ add_nothing _ ∙ add_nothing _ ∙ add_nothing _) ∙ add_zero v)

pub both_worked_by_visits : (u v : ℚ) → zero_q +ℚ (zero_q +ℚ (zero_q +ℚ (u +ℚ (zero_q +ℚ (zero_q +ℚ (v +ℚ (zero_q +ℚ zero_q))))))) ≡ u +ℚ v
both_worked_by_visits u v = add_nothing _ ∙ add_nothing _ ∙ add_nothing _ ∙ ap (λ y. u +ℚ y) (add_nothing _ ∙ add_nothing _ ∙ ap (λ y. v +ℚ y) (add_nothing _) ∙ add_zero v)

-- one packet is worked on before the other arrives
pub one_after_work : (u v : ℚ) → u +ℚ (zero_q +ℚ (v +ℚ (zero_q +ℚ (zero_q +ℚ (zero_q +ℚ zero_q))))) ≡ u +ℚ v
one_after_work u v = ap (λ y. u +ℚ y) (add_nothing _ ∙ ap (λ y. v +ℚ y) (add_nothing _ ∙ add_nothing _ ∙ add_nothing _) ∙ add_zero v)

pub worked_before_one : (u v : ℚ) → zero_q +ℚ (u +ℚ (zero_q +ℚ (zero_q +ℚ (v +ℚ (zero_q +ℚ zero_q))))) ≡ u +ℚ v
worked_before_one u v = add_nothing _ ∙ ap (λ y. u +ℚ y) (add_nothing _ ∙ add_nothing _ ∙ ap (λ y. v +ℚ y) (add_nothing _) ∙ add_zero v)
