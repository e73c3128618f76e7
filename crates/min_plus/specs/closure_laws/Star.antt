-- The closure that counts the sum of no value too, which is 0 at 0, and what of functions it is made from. (Bouillard,
-- Boyer and Le Corronc: the subadditive closure, written with a star; Le Boudec and Thiran, section 3.1.)
use Rattle.std.specs.Prelude.{◌≡◌, cond, List, [], ◌∷◌, ℕ, pos}
use Rattle.rational.specs.Rational.{ℚ, ◌≤ℚ◌, le_q, ◌*ℚ◌, int}
use Rattle.rational.specs.Extended.{Ext, min_ext}
use Rattle.rational.specs.Bounds.{IsInfimum}
use Rattle.rational.specs.declared.Extended.TheVariants.{Fin, Inf}
use Rattle.min_plus.specs.Functions.{zero_q}
use Rattle.min_plus.specs.Convolution.{AllNonneg, sum_of, sum_at}

-- times from 0 on, none too, whose sum is t
pub record Times (t : ℚ) : Type 0 where
  pub times : List ℚ
  pub nonneg : AllNonneg times
  pub whole : sum_of times ≡ t

-- v is the infimum of the sums of f over times from 0 on, none too, whose sum is t
abbrev pub IsStar : (ℚ → Ext) → ℚ → Ext → Type 0
IsStar f t v = IsInfimum {I = Times t} (λ p. sum_at f p.times) v

-- F is the star of f at each time from 0 on
abbrev pub AreStars : (ℚ → Ext) → (ℚ → Ext) → Type 0
AreStars f F = (t : ℚ) → zero_q ≤ℚ t → IsStar f t (F t)

-- of times from 0 on: the value 0 at 0, and infinity elsewhere
abbrev pub origin : ℚ → Ext
origin t = cond (le_q t zero_q) (Fin zero_q) Inf

-- the lesser of two functions
abbrev pub lesser : (ℚ → Ext) → (ℚ → Ext) → ℚ → Ext
lesser f g t = min_ext (f t) (g t)

-- the least of some functions, and infinity of none
abbrev pub least_of : List (ℚ → Ext) → ℚ → Ext
least_of [] t = Inf
least_of (f ∷ fs) t = min_ext (f t) (least_of fs t)

-- the sum of n times d
abbrev pub nat_times : ℕ → ℚ → ℚ
nat_times n d = int (pos n) *ℚ d
