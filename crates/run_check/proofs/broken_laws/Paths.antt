-- Which servers stand before another on a path.
use Rattle.std.proofs.Common.{◌≡◌, ℕ, List, [], ◌∷◌, refl, sym, ap, ◌∙◌, subst, inl, inr, Some, None, true, false}
use Rattle.std.specs.Prelude.{◌≢◌, Bool, ◌==◌, if◌then◌else◌}
use Rattle.std.proofs.lemmas.Bool.{cases_eq, eq-eqb, ne_eqb}
use Rattle.run_laws.specs.Routes.{Hop, PassesServer, first_of, first_server, server_after}
use Rattle.run_laws.proofs.Entries.{passes_first, passes_next}
use Rattle.run_check.specs.broken_laws.Recorded.{PassOnce}
use Rattle.run_check.specs.broken_laws.Tracked.{is_on, is_before}

-- none before itself, and none before the first
pub before_self : (s : ℕ) (hops : List Hop) → is_before s s hops ≡ false
before_self s [] = refl
before_self s (g ∷ gs) = elim (cases_eq g.server s) [
  | inl i ↦ rw (eq-eqb g.server s i) refl
  | inr n ↦ rw (ne_eqb g.server s n) (before_self s gs)
]

pub before_first : (h s : ℕ) (hops : List Hop) → first_server hops ≡ s → is_before h s hops ≡ false
before_first h s [] e = refl
before_first h s (g ∷ gs) e = rw (eq-eqb g.server s e) refl

before_next : (h t : ℕ) (hops : List Hop) → first_of hops ≡ Some t → is_before h t hops ≡ false
before_next h t [] e = refl
before_next h t (g ∷ gs) e = let k : g.server ≡ t = cc in rw (eq-eqb g.server t k) refl

-- a server stands before the one after it
apart : (g t : ℕ) (gs : List Hop) → (¬ PassesServer g gs) → PassesServer t gs → g ≢ t
apart g t gs none p e = none (subst (λ k. PassesServer k gs) (sym e) p)

pub before_after : (s t : ℕ) (hops : List Hop) → PassOnce hops → server_after s hops ≡ Some t → is_before s t hops ≡ true
before_after s t [] once e = absurd (cc)
before_after s t (g ∷ gs) once e = elim (cases_eq g.server s) [
  | inl i ↦
      let next : first_of gs ≡ Some t = rw (eq-eqb g.server s i) at e in
      let other = apart g.server t gs once.0 (passes_first t gs next) in
      rw (ne_eqb g.server t other, eq-eqb g.server s i) refl
  | inr n ↦
      let next : server_after s gs ≡ Some t = rw (ne_eqb g.server s n) at e in
      let other = apart g.server t gs once.0 (passes_next s t gs next) in
      rw (ne_eqb g.server t other, ne_eqb g.server s n) (before_after s t gs once.1 next)
]

-- and no other comes to stand before that one
pub others_before : (h s t : ℕ) (hops : List Hop) → PassOnce hops → server_after s hops ≡ Some t → h ≢ s
    → is_before h s hops ≡ is_before h t hops
others_before h s t [] once e d = refl
others_before h s t (g ∷ gs) once e d = elim (cases_eq g.server s) [
  | inl i ↦
      let next : first_of gs ≡ Some t = rw (eq-eqb g.server s i) at e in
      let other = apart g.server t gs once.0 (passes_first t gs next) in
      let not_here : g.server ≢ h = λ k. d (sym k ∙ i) in
      rw (eq-eqb g.server s i, ne_eqb g.server t other, ne_eqb g.server h not_here) (sym (before_next h t gs next))
  | inr n ↦
      let next : server_after s gs ≡ Some t = rw (ne_eqb g.server s n) at e in
      let other = apart g.server t gs once.0 (passes_next s t gs next) in
      rw (ne_eqb g.server s n, ne_eqb g.server t other) (ap (λ (b : Bool). if g.server == h then true else b) (others_before h s t gs once.1 next d))
]

-- all others stand before the last
pub before_last : (h s : ℕ) (hops : List Hop) → server_after s hops ≡ None → PassesServer s hops → h ≢ s
    → is_before h s hops ≡ is_on h hops
before_last h s [] e p d = refl
before_last h s (g ∷ gs) e p d = elim (cases_eq g.server s) [
  | inl i ↦
      let none : first_of gs ≡ None = rw (eq-eqb g.server s i) at e in
      let not_here : g.server ≢ h = λ k. d (sym k ∙ i) in
      rw (eq-eqb g.server s i, ne_eqb g.server h not_here) (sym (ends gs none))
  | inr n ↦
      let next : server_after s gs ≡ None = rw (ne_eqb g.server s n) at e in
      let behind : PassesServer s gs = elim p [ inl k ↦ absurd (n k) | inr k ↦ k ] in
      rw (ne_eqb g.server s n) (ap (λ (b : Bool). if g.server == h then true else b) (before_last h s gs next behind d))
]
  where
    ends : (gs : List Hop) → first_of gs ≡ None → is_on h gs ≡ false
    ends [] e = refl
    ends (g ∷ gs) e = absurd (cc)

pub passes_on : (s : ℕ) (hops : List Hop) → PassesServer s hops → is_on s hops ≡ true
passes_on s [] p = absurd p
passes_on s (g ∷ gs) p = elim (cases_eq g.server s) [
  | inl i ↦ rw (eq-eqb g.server s i) refl
  | inr n ↦ rw (ne_eqb g.server s n) (passes_on s gs (elim p [ inl k ↦ absurd (n k) | inr k ↦ k ]))
]
