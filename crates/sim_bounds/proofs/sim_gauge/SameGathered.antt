-- The order in which the numbers of a simulation are gathered does not count.
use Rattle.std.proofs.Common.{List, [], ◌∷◌, ◌++◌}
use Rattle.std.specs.List.{AllByRecursion}
use Rattle.rational.specs.Rational.{ℚ}
use Rattle.upp_limits.specs.Limits.{Numbers, joined, time_alone}
use Rattle.upp_limits.proofs.Every.{every_append, every_left, every_right}
use Rattle.upp_limits.proofs.SameSizes.{Equals}
use Rattle.sim_bounds.specs.sim_gauge.Named.{times_alone}

-- ---- the horizon first, then the numbers in the order of the code or of the definition
there : (P : ℚ → Type 0) (end : ℚ) (p q r c d : List ℚ) → AllByRecursion P ((end ∷ []) ++ p ++ q ++ r ++ c ++ d)
    → AllByRecursion P (end ∷ (p ++ q ++ r ++ (c ++ d)))
there P end p q r c d h =
    let h5 = every_left P ((end ∷ []) ++ p ++ q ++ r ++ c) d h in
    let h4 = every_left P ((end ∷ []) ++ p ++ q ++ r) c h5 in
    let ec = every_right P ((end ∷ []) ++ p ++ q ++ r) c h5 in
    let ed = every_right P ((end ∷ []) ++ p ++ q ++ r ++ c) d h in
    (h4.0, every_append P (p ++ q ++ r) (c ++ d) h4.1 (every_append P c d ec ed))

back : (P : ℚ → Type 0) (end : ℚ) (p q r c d : List ℚ) → AllByRecursion P (end ∷ (p ++ q ++ r ++ (c ++ d)))
    → AllByRecursion P ((end ∷ []) ++ p ++ q ++ r ++ c ++ d)
back P end p q r c d h =
    let own = every_left P (p ++ q ++ r) (c ++ d) h.1 in
    let both = every_right P (p ++ q ++ r) (c ++ d) h.1 in
    every_append P ((end ∷ []) ++ p ++ q ++ r ++ c) d
    (every_append P ((end ∷ []) ++ p ++ q ++ r) c (h.0, own) (every_left P c d both)) (every_right P c d both)

slopes_there : (P : ℚ → Type 0) (r c d : List ℚ) → AllByRecursion P (r ++ c ++ d) → AllByRecursion P (r ++ (c ++ d))
slopes_there P r c d h =
    let h1 = every_left P (r ++ c) d h in
    every_append P r (c ++ d) (every_left P r c h1) (every_append P c d (every_right P r c h1) (every_right P (r ++ c) d h))

slopes_back : (P : ℚ → Type 0) (r c d : List ℚ) → AllByRecursion P (r ++ (c ++ d)) → AllByRecursion P (r ++ c ++ d)
slopes_back P r c d h =
    let k = every_right P r (c ++ d) h in
    every_append P (r ++ c) d (every_append P r c (every_left P r (c ++ d) h) (every_left P c d k)) (every_right P c d k)

pub in_order : (end : ℚ) (p q r s : List ℚ) (c d : Numbers)
    → Equals (joined (joined (joined (joined (joined (time_alone end) (times_alone p)) (times_alone q)) record { times = r; values = []; slopes = s }) c) d)
    (joined (time_alone end) (joined record { times = p ++ q ++ r; values = []; slopes = s } (joined c d)))
in_order end p q r s c d = record {
  there = λ T V S g f h. record {
    times = there T end p q r c.times d.times h.times;
    values = h.values;
    slopes = slopes_there S s c.slopes d.slopes h.slopes;
  };
  back = λ T V S g f h. record {
    times = back T end p q r c.times d.times h.times;
    values = h.values;
    slopes = slopes_back S s c.slopes d.slopes h.slopes;
  };
}
