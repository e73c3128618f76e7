-- What can be decided of the state of a server.
use Rattle.std.proofs.Common.{◌≡◌, ℕ, List, [], ◌∷◌, refl, inl, inr, ◌⊎◌, Some, None}
use Rattle.std.specs.Prelude.{Option}
use Rattle.std.proofs.lemmas.Bool.{cases_eq}
use Rattle.run_laws.specs.Servers.{Discipline, Fifo, Priority, Drr, Under, ServerState}
use Rattle.run_laws.specs.Allows.{MayVisit, IsFirst}

-- it holds or not
abbrev pub Decided : Type 0 → Type 0
Decided A = A ⊎ (¬ A)

idle_or : (o : Option Under) → Decided (o ≡ None)
idle_or None = inl refl
idle_or (Some u) = inr (λ e. cc)

no_visit_or : (o : Option ℕ) → Decided (o ≡ None)
no_visit_or None = inl refl
no_visit_or (Some q) = inr (λ e. cc)

first_or : (q : ℕ) (ps : List ℕ) → Decided (IsFirst q ps)
first_or q [] = inr (λ h. h)
first_or q (p ∷ ps) = elim (cases_eq p q) [ inl e ↦ inl e | inr n ↦ inr n ]

pub may_visit : (d : Discipline) (σ : ServerState) (q : ℕ) → Decided (MayVisit d σ q)
may_visit Fifo σ q = inr (λ h. h)
may_visit (Priority n) σ q = inr (λ h. h)
may_visit (Drr quanta) σ q = elim (idle_or σ.under) [
  | inr n ↦ inr (λ h. n h.idle)
  | inl i ↦ elim (no_visit_or σ.round.visited) [
    | inr n ↦ inr (λ h. n h.no_visit)
    | inl v ↦ elim (first_or q σ.round.active) [
      | inr n ↦ inr (λ h. n h.is_first)
      | inl f ↦ inl record { idle = i; no_visit = v; is_first = f }
    ]
  ]
]
