-- The largest of 0 and some numbers, with one more.
use Rattle.std.specs.Prelude.{suc, pos, List, [], ◌∷◌, Contains}
use Rattle.std.proofs.Common.{arith, refl, inl, inr}
use Rattle.rational.specs.Rational.{ℚ, int, ◌≤ℚ◌, ◌<ℚ◌}
use Rattle.rational.specs.declared.Extended.TheVariants.{Fin}
use Rattle.rational.proofs.Laws.{le_refl, le_trans, le_of_lt}
use Rattle.run_laws.specs.Delays.{AreAtMost}
use Rattle.simulator.specs.run_measures.Worst.{IsLargest}

pub largest_none : IsLargest [] (int (pos 0))
largest_none = record { from_zero = le_refl (int (pos 0)); above = tt; reached = inl refl }

later : (x w : ℚ) (xs : List ℚ) → Contains xs w → Contains (x ∷ xs) w
later x w xs c = let l = c.1 in (suc c.0, omega (arith, l), c.2)

pub largest_same : (x w : ℚ) (xs : List ℚ) → IsLargest xs w → x ≤ℚ w → IsLargest (x ∷ xs) w
largest_same x w xs h l = record {
  from_zero = h.from_zero;
  above = (l, h.above);
  reached = elim h.reached [ inl e ↦ inl e | inr c ↦ inr (later x w xs c) ];
}

more : (w v : ℚ) (xs : List ℚ) → w ≤ℚ v → AreAtMost (Fin w) xs → AreAtMost (Fin v) xs
more w v [] l h = tt
more w v (x ∷ xs) l h = (le_trans h.0 l, more w v xs l h.1)

pub largest_new : (x w : ℚ) (xs : List ℚ) → IsLargest xs w → w <ℚ x → IsLargest (x ∷ xs) x
largest_new x w xs h l = record {
  from_zero = le_trans h.from_zero (le_of_lt l);
  above = (le_refl x, more w x xs (le_of_lt l) h.above);
  reached = inr (0, omega arith, refl);
}
