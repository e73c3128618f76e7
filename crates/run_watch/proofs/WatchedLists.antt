-- The loops over what a server sees, step by step.
use Rattle.std.specs.Prelude.{◌≡◌, ℕ, zero, suc, ◌<◌, ◌≤◌, true, List, [], ◌∷◌, length, get_or}
use Rattle.std.specs.List.{slice_index_or}
use Rattle.std.proofs.Common.{arith, refl, subst}
use Rattle.rational.specs.Rational.{ℚ, ◌≤ℚ◌, ◌<ℚ◌}
use Rattle.rational.proofs.Laws.{le_refl, le_trans}
use Rattle.rational.proofs.Over.{le_q_out, le_q_in, lt_q_out}
use Rattle.rational.proofs.MinMax.{lt_q_not}
use Rattle.run_watch.specs.Watching.{RiseFrom, next_after}
use Rattle.run_laws.specs.Counts.{upto}

-- ---- stops
-- ---- the first time after u
later_than : (from : ℚ) (ts : List ℚ) (j : ℕ) (d : ℚ) → RiseFrom from ts → j < length ts → from ≤ℚ get_or ts j d
later_than from [] j d h l = absurd (omega arith)
later_than from (t ∷ ts) zero d h l = h.0
later_than from (t ∷ ts) (suc j) d h l = le_trans h.0 (later_than t ts j d h.1 (omega arith))

pub times_rise : (from : ℚ) (ts : List ℚ) (i j : ℕ) (d : ℚ) → RiseFrom from ts → i ≤ j → j < length ts → get_or ts i d ≤ℚ get_or ts j d
times_rise from [] i j d h k l = absurd (omega arith)
times_rise from (t ∷ ts) zero zero d h k l = le_refl t
times_rise from (t ∷ ts) zero (suc j) d h k l = later_than t ts j d h.1 (omega arith)
times_rise from (t ∷ ts) (suc i) zero d h k l = absurd (omega arith)
times_rise from (t ∷ ts) (suc i) (suc j) d h k l = times_rise t ts i j d h.1 (omega arith) (omega arith)

pub parted_at : (from : ℚ) (ts : List ℚ) (u : ℚ) → RiseFrom from ts → (i j : ℕ) (d : ℚ) → i ≤ j → j < length ts → upto u (get_or ts j d) ≡ true → upto u (get_or ts i d) ≡ true
parted_at from ts u h i j d k l e = le_q_out (get_or ts i d) u (le_trans (times_rise from ts i j d h k l) (le_q_in (get_or ts j d) u e))

abbrev pub AreBy : ℚ → List ℚ → ℕ → Type 0
AreBy u ts k = (i : ℕ) (d : ℚ) → 0 ≤ i → i < k → upto u (get_or ts i d) ≡ true

pub next_found : (u end : ℚ) (ts : List ℚ) (k : ℕ) (t : ℚ) → k < length ts → t ≡ slice_index_or ts k t → AreBy u ts k → u <ℚ t → t ≡ next_after u end ts
next_found u end [] k t l e by later = absurd (omega arith)
next_found u end (x ∷ ts) zero t l e by later = rw (lt_q_out u x (subst (λ z. u <ℚ z) e later)) e
next_found u end (x ∷ ts) (suc k) t l e by later =
    rw (lt_q_not u x (le_q_in x u (by 0 t (omega arith) (omega arith)))) (next_found u end ts k t (omega arith) e (λ i d a b. by (suc i) d (omega arith) (omega arith)) later)

pub next_none : (u end : ℚ) (ts : List ℚ) → AreBy u ts (length ts) → end ≡ next_after u end ts
next_none u end [] by = refl
next_none u end (x ∷ ts) by =
    rw (lt_q_not u x (le_q_in x u (by 0 u (omega arith) (omega arith)))) (next_none u end ts (λ i d a b. by (suc i) d (omega arith) (omega arith)))

-- ---- stretches
-- ---- turns
