-- Numbers of which the same holds have the same sizes; so the sizes can be made of the first and the last copies.
use Rattle.std.specs.Prelude.{◌≡◌, ℕ, ◌≤◌, pos, List, [], ◌∷◌, max}
use Rattle.std.specs.List.{AllByRecursion}
use Rattle.std.proofs.Common.{arith, ap, ap₂, ◌∙◌}
use Rattle.rational.specs.Rational.{ℚ, ◌*ℚ◌, int}
use Rattle.rational.specs.Grid.{Whole, Within}
use Rattle.rational.specs.Gauge.{common_den, bound_of}
use Rattle.upp_curve.specs.Curve.{SpecCurve}
use Rattle.min_plus.specs.WholeUp.{whole_up}
use Rattle.upp_limits.specs.Limits.{Numbers, Sizes, joined, twice, curve_numbers, sizes_of, gauge_of}
use Rattle.upp_limits.specs.ClosedForm.{closed_numbers}
use Rattle.upp_limits.proofs.Every.{every_map, every_map_out}
use Rattle.upp_limits.proofs.CommonDen.{common_den_each, bound_each, same_common_den, same_bound}
use Rattle.upp_limits.proofs.ClosedForms.{IsGrid, IsFilled, Holds, whole_grid, whole_filled, within_filled, holds_joined, holds_left, holds_right, closed_to_all, all_to_closed}

pub record Equals (a b : Numbers) : Type 1 where
  pub there : (T V S : ℚ → Type 0) → IsGrid T → IsFilled V → Holds T V S a → Holds T V S b
  pub back : (T V S : ℚ → Type 0) → IsGrid T → IsFilled V → Holds T V S b → Holds T V S a

pub equals_self : (a : Numbers) → Equals a a
equals_self a = record { there = λ T V S g f h. h; back = λ T V S g f h. h }

pub equals_joined : (a b c d : Numbers) → Equals a b → Equals c d → Equals (joined a c) (joined b d)
equals_joined a b c d p q = record {
  there = λ T V S g f h. holds_joined T V S b d (p.there T V S g f (holds_left T V S a c h)) (q.there T V S g f (holds_right T V S a c h));
  back = λ T V S g f h. holds_joined T V S a c (p.back T V S g f (holds_left T V S b d h)) (q.back T V S g f (holds_right T V S b d h));
}

pub equals_curve : (end : ℚ) (c : SpecCurve) → Equals (closed_numbers end c) (curve_numbers end c)
equals_curve end c = record {
  there = λ T V S g f h. closed_to_all T V S end c g f h;
  back = λ T V S g f h. all_to_closed T V S end c h;
}

-- ---- one of the three at a time
unfoldable pub any : ℚ → Type 0
any x = Unit {0}

pub every_any : (xs : List ℚ) → AllByRecursion any xs
unfolding any
every_any [] = tt
every_any (x ∷ xs) = (tt, every_any xs)

pub any_grid : IsGrid any
unfolding any
any_grid = record { later = λ x d n k l. tt }

pub any_filled : IsFilled any
unfolding any
any_filled = record { between = λ x c n m h k l w. tt }

pub times_pass : (a b : Numbers) (m : ℕ) → Equals a b → AllByRecursion (Whole m) a.times → AllByRecursion (Whole m) b.times
times_pass a b m p h =
    (p.there (Whole m) any any (whole_grid m) any_filled record { times = h; values = every_any a.values; slopes = every_any a.slopes }).times

pub values_pass : (a b : Numbers) (V : ℚ → Type 0) → Equals a b → IsFilled V → AllByRecursion V a.values → AllByRecursion V b.values
values_pass a b V p f h = (p.there any V any any_grid f record { times = every_any a.times; values = h; slopes = every_any a.slopes }).values

pub slopes_pass : (a b : Numbers) (S : ℚ → Type 0) → Equals a b → AllByRecursion S a.slopes → AllByRecursion S b.slopes
slopes_pass a b S p h = (p.there any any S any_grid any_filled record { times = every_any a.times; values = every_any a.values; slopes = h }).slopes

pub turned : (a b : Numbers) → Equals a b → Equals b a
turned a b p = record { there = p.back; back = p.there }

-- ---- the sizes
pub den_values : (a b : Numbers) → Equals a b → common_den a.values ≡ common_den b.values
den_values a b p =
    same_common_den a.values b.values
    (values_pass b a (Whole (common_den b.values)) (turned a b p) (whole_filled (common_den b.values)) (common_den_each b.values))
    (values_pass a b (Whole (common_den a.values)) p (whole_filled (common_den a.values)) (common_den_each a.values))

pub den_times : (end : ℚ) (a b : Numbers) → Equals a b → common_den (end ∷ a.times) ≡ common_den (end ∷ b.times)
den_times end a b p =
    let x = common_den_each (end ∷ a.times) in
    let y = common_den_each (end ∷ b.times) in
    same_common_den (end ∷ a.times) (end ∷ b.times)
    (y.0, times_pass b a (common_den (end ∷ b.times)) (turned a b p) y.1)
    (x.0, times_pass a b (common_den (end ∷ a.times)) p x.1)

pub den_slopes : (a b : Numbers) → Equals a b → common_den a.slopes ≡ common_den b.slopes
den_slopes a b p =
    same_common_den a.slopes b.slopes
    (slopes_pass b a (Whole (common_den b.slopes)) (turned a b p) (common_den_each b.slopes))
    (slopes_pass a b (Whole (common_den a.slopes)) p (common_den_each a.slopes))

pub bound_values : (a b : Numbers) → Equals a b → bound_of a.values ≡ bound_of b.values
bound_values a b p =
    let v = int (pos (bound_of b.values)) in
    let u = int (pos (bound_of a.values)) in
    same_bound a.values b.values
    (values_pass b a (Within v) (turned a b p) (within_filled v) (bound_each b.values (bound_of b.values) (at_most (bound_of b.values))))
    (values_pass a b (Within u) p (within_filled u) (bound_each a.values (bound_of a.values) (at_most (bound_of a.values))))
  where
    at_most : (n : ℕ) → n ≤ n
    at_most n = omega arith

pub bound_slopes : (a b : Numbers) → Equals a b → bound_of (twice a.slopes) ≡ bound_of (twice b.slopes)
bound_slopes a b p =
    same_bound (twice a.slopes) (twice b.slopes) (steep b a (turned a b p)) (steep a b p)
  where
    steep : (a b : Numbers) → Equals a b → AllByRecursion (Within (int (pos (bound_of (twice a.slopes))))) (twice b.slopes)
    steep a b p =
        let n = bound_of (twice a.slopes) in
        every_map (Within (int (pos n))) (λ s. int (pos 2) *ℚ s) b.slopes
        (slopes_pass a b (λ s. Within (int (pos n)) (int (pos 2) *ℚ s)) p (every_map_out (Within (int (pos n))) (λ s. int (pos 2) *ℚ s) a.slopes (bound_each (twice a.slopes) n (at_most n))))
      where
        at_most : (n : ℕ) → n ≤ n
        at_most n = omega arith

-- five numbers as sizes; it opens only where a proof asks
unfoldable pub make_sizes : ℕ → ℕ → ℕ → ℕ → ℕ → Sizes
make_sizes dv dt ds s v = record { dv = dv; dt = dt; ds = ds; steepness = s; largest = v }

pub same_sizes : (end : ℚ) (a b : Numbers) → Equals a b → sizes_of end a ≡ sizes_of end b
unfolding make_sizes
same_sizes end a b p =
    let dt = common_den (end ∷ a.times) in
    let ds = common_den a.slopes in
    let s = bound_of (twice a.slopes) in
    let v = max (bound_of a.values) (whole_up (int (pos s) *ℚ end)) in
    ap (λ x. make_sizes x dt ds s v) (den_values a b p)
    ∙ ap (λ x. make_sizes (common_den b.values) x ds s v) (den_times end a b p)
    ∙ ap (λ x. make_sizes (common_den b.values) (common_den (end ∷ b.times)) x s v) (den_slopes a b p)
    ∙ ap₂ (λ (x y : ℕ). make_sizes (common_den b.values) (common_den (end ∷ b.times)) (common_den b.slopes) x (max y (whole_up (int (pos x) *ℚ end)))) (bound_slopes a b p) (bound_values a b p)

pub same_gauge : (end : ℚ) (a b : Numbers) → Equals a b → gauge_of (sizes_of end a) ≡ gauge_of (sizes_of end b)
same_gauge end a b p = ap gauge_of (same_sizes end a b p)
