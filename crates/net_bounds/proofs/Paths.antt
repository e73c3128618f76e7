-- The hops of a path: which servers it passes, in which queues, and which server comes after which.
use Rattle.std.specs.Prelude.{◌≡◌, ℕ, suc, pos, ◌<◌, List, [], ◌∷◌, length, Some}
use Rattle.std.proofs.Common.{arith, refl, inl, inr, get_or}
use Rattle.std.proofs.lemmas.Bool.{cases_eq, eq-eqb, ne_eqb}
use Rattle.rational.specs.Rational.{int, ◌≤ℚ◌}
use Rattle.run_laws.specs.Routes.{Routes, PassesServer, queue_at, first_of, first_server, server_after, link_at}
use Rattle.net_laws.specs.Paths.{IsPath}
use Rattle.net_cells.proofs.Lists.{Apart}
use Rattle.net_bounds.specs.NetRuns.{hops_along}
use Rattle.net_bounds.proofs.Placed.{place_in}
use Rattle.run_laws.proofs.Members.{Has}

-- ---- the servers
pub passes_has : (s : ℕ) (path queues : List ℕ) → PassesServer s (hops_along path queues) → Has path s
passes_has s [] queues p = p
passes_has s (x ∷ path) [] p = absurd p
passes_has s (x ∷ path) (q ∷ queues) (inl e) = inl e
passes_has s (x ∷ path) (q ∷ queues) (inr p) = inr (passes_has s path queues p)

pub has_passes : (s : ℕ) (path queues : List ℕ) → length queues ≡ length path → Has path s
    → PassesServer s (hops_along path queues)
has_passes s [] queues e h = h
has_passes s (x ∷ path) [] e h = absurd (omega (arith, e))
has_passes s (x ∷ path) (q ∷ queues) e (inl h) = inl h
has_passes s (x ∷ path) (q ∷ queues) e (inr h) = inr (has_passes s path queues (omega (arith, e)) h)

-- ---- the queue at a server
pub queue_is : (s : ℕ) (path queues : List ℕ) → length queues ≡ length path → Has path s
    → queue_at s (hops_along path queues) ≡ get_or queues (place_in s path) 0
queue_is s [] queues e h = absurd h
queue_is s (x ∷ path) [] e h = absurd (omega (arith, e))
queue_is s (x ∷ path) (q ∷ queues) e h = elim (cases_eq x s) [
  | inl here ↦ rw (eq-eqb x s here) refl
  | inr n ↦ rw (ne_eqb x s n)
      (queue_is s path queues (omega (arith, e)) (elim h [ inl here ↦ absurd (n here) | inr m ↦ m ]))
]

-- ---- the server after another
pub record IsNextPlace (s t : ℕ) (path : List ℕ) : Type 0 where
  pub within : suc (place_in s path) < length path
  pub from : get_or path (place_in s path) 0 ≡ s
  pub to : get_or path (suc (place_in s path)) 0 ≡ t

first_to : (x t : ℕ) (path queues : List ℕ) → first_of (hops_along path queues) ≡ Some t
    → (0 < length path) × (get_or path 0 0 ≡ t)
first_to x t [] queues e = absurd (cc)
first_to x t (y ∷ path) [] e = absurd (cc)
first_to x t (y ∷ path) (q ∷ queues) e = (omega arith, same y e)
  where
    same : (a : ℕ) → Some a ≡ Some t → a ≡ t
    same a k = cc

pub after_is : (s t : ℕ) (path queues : List ℕ) → server_after s (hops_along path queues) ≡ Some t
    → IsNextPlace s t path
after_is s t [] queues e = absurd (cc)
after_is s t (x ∷ path) [] e = absurd (cc)
after_is s t (x ∷ path) (q ∷ queues) e = elim (cases_eq x s) [
  | inl here ↦
      let first = first_to x t path queues (rw (eq-eqb x s here) at e) in
      let zero_is : place_in s (x ∷ path) ≡ 0 = rw (eq-eqb x s here) refl in
      record { within = rw zero_is (omega (arith, first.0)); from = rw zero_is here; to = rw zero_is first.1 }
  | inr n ↦
      let rest = after_is s t path queues (rw (ne_eqb x s n) at e) in
      let later : place_in s (x ∷ path) ≡ suc (place_in s path) = rw (ne_eqb x s n) refl in
      record { within = rw later (omega (arith, rest.within)); from = rw later rest.from; to = rw later rest.to }
]

pub first_is : (path queues : List ℕ) → length queues ≡ length path
    → first_server (hops_along path queues) ≡ get_or path 0 0
first_is [] queues e = refl
first_is (x ∷ path) [] e = absurd (omega (arith, e))
first_is (x ∷ path) (q ∷ queues) e = refl

-- ---- a path that passes no server twice
pub is_path : (net : Routes) (path queues : List ℕ) → ((s : ℕ) → Has path s → s < length net.servers)
    → ((s : ℕ) → int (pos 0) ≤ℚ link_at net s) → Apart path → IsPath net (hops_along path queues)
is_path net [] queues known links a = tt
is_path net (x ∷ path) [] known links a = tt
is_path net (x ∷ path) (q ∷ queues) known links a = (
  known x (inl refl),
  links x,
  λ p. a.0 (passes_has x path queues p),
  is_path net path queues (λ s h. known s (inr h)) links a.1,
)
