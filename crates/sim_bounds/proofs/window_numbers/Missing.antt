-- A number that is missing only where a gauge is too large.
use Rattle.std.specs.Prelude.{Option, None, IsSome, IsTrue, true, ◌≡◌, ◌↔◌, ℕ, ◌<◌, ◌≤◌, ◌^◌}
use Rattle.std.proofs.Common.{inl, inr, refl, sym, subst, true≢false}
use Rattle.std.proofs.lemmas.Bool.{cases_lt}

-- so that the gauge is too large is the right answer
pub told_wide : {A : Type 0} (o : Option A) (gauge : ℕ) → o ≡ None → (gauge < 2 ^ 120 → IsSome o) → IsTrue true ↔ (2 ^ 120 ≤ gauge)
told_wide {A} o gauge none there =
    let wide : 2 ^ 120 ≤ gauge = elim (cases_lt gauge (2 ^ 120)) [
      | inl small ↦ absurd (true≢false (sym (subst (λ (x : Option A). IsSome x) none (there small))))
      | inr big ↦ big
    ] in
    (λ t. wide, λ t. refl)
