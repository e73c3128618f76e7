-- The bits of a packet at a server of its path.
use Rattle.std.proofs.Common.{◌≡◌, ℕ, zero, suc, ◌<◌, List, [], ◌∷◌, length, get_or, refl, arith, inl, inr}
use Rattle.std.specs.Prelude.{◌≢◌}
use Rattle.std.proofs.lemmas.Bool.{cases_eq, eq-eqb, ne_eqb}
use Rattle.net_model.specs.NetRoutes.{hops_along}
use Rattle.sim_bounds.specs.Horizons.{path_bits}

-- the path has the server
pub bits_at : (path queues : List ℕ) (s b k : ℕ) → length queues ≡ length path → k < length path → get_or path k 0 ≡ s → path_bits s (hops_along path queues) b ≡ b
bits_at [] queues s b k e h f = absurd (omega (arith, h))
bits_at (x ∷ xs) [] s b k e h f = absurd (omega (arith, e))
bits_at (x ∷ xs) (q ∷ qs) s b zero e h f = rw (eq-eqb x s f) refl
bits_at (x ∷ xs) (q ∷ qs) s b (suc k) e h f = elim (cases_eq x s) [
  | inl i ↦ rw (eq-eqb x s i) refl
  | inr n ↦ rw (ne_eqb x s n) (bits_at xs qs s b k (omega (arith, e)) (omega (arith, h)) f)
]

pub bits_nowhere : (path queues : List ℕ) (s b : ℕ) → ((k : ℕ) → k < length path → get_or path k 0 ≢ s) → path_bits s (hops_along path queues) b ≡ 0
bits_nowhere [] queues s b h = refl
bits_nowhere (x ∷ xs) [] s b h = refl
bits_nowhere (x ∷ xs) (q ∷ qs) s b h =
    rw (ne_eqb x s (h 0 (omega arith))) (bits_nowhere xs qs s b (λ k l. h (suc k) (omega (arith, l))))
