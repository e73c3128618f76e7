use Rattle.std.proofs.Common.{◌⊎◌, inl, inr}
use Rattle.upp_limits.proofs.known.is_past.Goals as goal

-- where the first is not so, it is the second
second : (A B : Type 0) → A → (¬ A) ⊎ B → B
second A B a (inl n) = absurd (n a)
second A B a (inr b) = b

pub returns-then-is_finite : goal.returns-then-is_finite
returns-then-is_finite c = (λ h. inr (c.is_faster.ensures.0 h), λ s. c.is_faster.ensures.1 (second _ _ (c.is_finite.ensures.0 c.if-is_finite.true) s))
