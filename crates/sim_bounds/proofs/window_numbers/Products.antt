-- A gauge, from the sizes of the numbers that were gathered.
use Rattle.std.proofs.Common.{◌≡◌, ℕ, ◌<◌, ◌≤◌, ◌*◌, ◌^◌, List, [], ◌∷◌, ◌++◌, ap, ◌∙◌, arith, append-nil}
use Rattle.std.specs.Prelude.{pos, max}
use native.Mathlib.Nat.{le-mul_of_pos_right}
use Rattle.rational.specs.Rational.{ℚ, int, ◌*ℚ◌}
use Rattle.rational.specs.Gauge.{common_den, bound_of, size_up}
use Rattle.min_plus.specs.WholeUp.{whole_up}
use Rattle.upp_limits.specs.Limits.{Numbers, Sizes, joined, value_alone, twice, sizes_of, gauge_of}
use Rattle.upp_limits.specs.Sized.{HeldBy}
use Rattle.upp_limits.proofs.Gathering.{bound_more}
use Rattle.upp_limits.proofs.CurveStands.{are_sizes}
use Rattle.upp_limits.proofs.CommonDen.{common_den_each, same_common_den, size_up_within, size_up_least}
use Rattle.upp_limits.proofs.Every.{every_append, every_left}
use Rattle.rational.specs.Grid.{Whole}
use Rattle.rational.proofs.Grid.{whole_int, within_nonneg}
use Rattle.rational.proofs.Laws.{le_refl}
use Rattle.rational.proofs.Integers.{nat_nonneg, nat_le_out}
use Rattle.upp_limits.proofs.SameSizes.{make_sizes}
use Rattle.upp_limits.proofs.Stands.{sizes_stand}
use Rattle.sim_bounds.specs.window_numbers.Rated.{gauge_with}

-- ---- a finer grid makes no gauge smaller
pub finer : (r : ℕ) (z : Sizes) → 0 < r → gauge_of z ≤ gauge_with r z
unfolding gauge_of gauge_with
finer r z some =
    let all = z.largest * z.steepness * z.dv * z.dt * z.ds * z.ds in
    let more : all ≤ all * r = le-mul_of_pos_right all some in
    let same : all * r ≡ z.largest * z.steepness * z.dv * (z.dt * r) * z.ds * z.ds = omega arith in
    omega (arith, more, same)

pub wide_sizes : (r : ℕ) (z : Sizes) → 0 < r → 2 ^ 128 ≤ gauge_of z → 2 ^ 120 ≤ gauge_with r z
wide_sizes r z some h = let k = finer r z some in omega (arith, h, k)

-- ---- a whole number as a value
own_size : (n : ℕ) → size_up (int (pos n)) ≡ n
own_size n =
    let x = int (pos n) in
    let most = size_up_least n x (within_nonneg x x (nat_nonneg n) (le_refl x)) in
    let least = nat_le_out n (size_up x) (size_up_within x).high in
    omega (arith, most, least)

den_with : (xs : List ℚ) (n : ℕ) → common_den (xs ++ int (pos n) ∷ []) ≡ common_den xs
den_with xs n =
    let x = int (pos n) in
    same_common_den (xs ++ x ∷ []) xs
    (every_append (Whole (common_den xs)) xs (x ∷ []) (common_den_each xs) (whole_int (common_den xs) (pos n), tt))
    (every_left (Whole (common_den (xs ++ x ∷ []))) xs (x ∷ []) (common_den_each (xs ++ x ∷ [])))

-- the sizes of numbers and of a whole number that counts as a value
pub sizes_with : (end : ℚ) (n : Numbers) (bits : ℕ)
    → sizes_of end (joined n (value_alone (int (pos bits))))
    ≡ record {
      dv = common_den n.values;
      dt = common_den (end ∷ n.times);
      ds = common_den n.slopes;
      steepness = bound_of (twice n.slopes);
      largest = max (max (bound_of n.values) bits) (whole_up (int (pos (bound_of (twice n.slopes))) *ℚ end));
    }
unfolding make_sizes
sizes_with end n bits =
    let x = int (pos bits) in
    let s = bound_of (twice n.slopes) in
    let far = whole_up (int (pos s) *ℚ end) in
    let dt = common_den (end ∷ n.times) in
    let ds = common_den n.slopes in
    ap (λ ts. make_sizes (common_den (n.values ++ x ∷ [])) (common_den (end ∷ ts)) (common_den (n.slopes ++ [])) (bound_of (twice (n.slopes ++ [])))
    (max (bound_of (n.values ++ x ∷ [])) (whole_up (int (pos (bound_of (twice (n.slopes ++ [])))) *ℚ end)))) (append-nil n.times)
    ∙ ap (λ ss. make_sizes (common_den (n.values ++ x ∷ [])) dt (common_den ss) (bound_of (twice ss))
    (max (bound_of (n.values ++ x ∷ [])) (whole_up (int (pos (bound_of (twice ss))) *ℚ end)))) (append-nil n.slopes)
    ∙ ap (λ d. make_sizes d dt ds s (max (bound_of (n.values ++ x ∷ [])) far)) (den_with n.values bits)
    ∙ ap (λ b. make_sizes (common_den n.values) dt ds s (max b far)) (bound_more n.values x)
    ∙ ap (λ b. make_sizes (common_den n.values) dt ds s (max (max (bound_of n.values) b) far)) (own_size bits)

-- ---- what holds the numbers
pub held_all : (end : ℚ) (n : Numbers) → gauge_of (sizes_of end n) < 2 ^ 128 → HeldBy (sizes_of end n) end n
held_all end n h = record { sizes = are_sizes end n; gauge = h; stands = sizes_stand end n }
