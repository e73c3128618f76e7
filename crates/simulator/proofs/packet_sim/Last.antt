-- The time of the last step.
use Rattle.std.specs.Prelude.{Some, ◌≡◌, suc, ◌-◌, List, [], ◌∷◌, length, slice_get}
use Rattle.std.proofs.Common.{ap, ◌∙◌, arith}
use Rattle.rational.specs.Rational.{ℚ}
use Rattle.run_laws.specs.declared.steps.Step.{Step}
use Rattle.net_model.specs.stated_runs.DueSteps.{step_time}
use Rattle.net_model.specs.stated_runs.Simulated.{last_time}

pub last_is : (from : ℚ) (xs : List Step) (x : Step) → Some x ≡ slice_get xs (length xs - 1) → step_time x ≡ last_time from xs
last_is from [] x e = absurd (cc)
last_is from (y ∷ []) x e = let g : x ≡ y = cc in ap step_time g
last_is from (y ∷ z ∷ zs) x e =
    let k : length (y ∷ z ∷ zs) - 1 ≡ suc (length (z ∷ zs) - 1) = omega arith in
    let f : Some x ≡ slice_get (z ∷ zs) (length (z ∷ zs) - 1) = e ∙ ap (slice_get (y ∷ z ∷ zs)) k in
    last_is (step_time y) (z ∷ zs) x f
