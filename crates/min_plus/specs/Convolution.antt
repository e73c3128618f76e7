-- Convolution, deconvolution and subadditive closure. (Le Boudec and Thiran, chapter 3. The closure leaves out their
-- term for no part at all, since the value at 0 of an arrival curve is a burst here: our own choice.)
use Rattle.std.specs.Prelude.{◌≡◌, List, [], ◌∷◌}
use Rattle.rational.specs.Rational.{ℚ, ◌+ℚ◌, ◌≤ℚ◌}
use Rattle.rational.specs.Extended.{Ext, ◌≤ₑ◌, ◌+ₑ◌, ◌-ₑ◌}
use Rattle.rational.specs.Bounds.{IsInfimum, IsSupremum}
use Rattle.rational.specs.declared.Extended.TheVariants.{Fin}
use Rattle.min_plus.specs.Functions.{zero_q, FiniteTime}

-- ---- convolution
-- two times from 0 on whose sum is t
pub record Split (t : ℚ) : Type 0 where
  pub first : ℚ
  pub second : ℚ
  pub first_nonneg : zero_q ≤ℚ first
  pub second_nonneg : zero_q ≤ℚ second
  pub whole : first +ℚ second ≡ t

-- v is the infimum of f (s) + g (u) over all s and u from 0 on whose sum is t
abbrev pub IsConvolution : (ℚ → Ext) → (ℚ → Ext) → ℚ → Ext → Type 0
IsConvolution f g t v = IsInfimum {I = Split t} (λ s. f s.first +ₑ g s.second) v

-- ---- deconvolution
-- v is the supremum of f (t + u) - g (u) over all u from 0 on at which g is finite
abbrev pub IsDeconvolution : (ℚ → Ext) → (ℚ → Ext) → ℚ → Ext → Type 0
IsDeconvolution f g t v = IsSupremum {I = FiniteTime g} (λ u. f (t +ℚ u.at) -ₑ u.level) v

-- ---- subadditive closure
abbrev pub sum_of : List ℚ → ℚ
sum_of [] = zero_q
sum_of (x ∷ xs) = x +ℚ sum_of xs

-- the sum of f's values at some times
abbrev pub sum_at : (ℚ → Ext) → List ℚ → Ext
sum_at f [] = Fin zero_q
sum_at f (x ∷ xs) = f x +ₑ sum_at f xs

abbrev pub AllNonneg : List ℚ → Type 0
AllNonneg [] = Unit {0}
AllNonneg (x ∷ xs) = (zero_q ≤ℚ x) × AllNonneg xs

-- one or more times from 0 on whose sum is t
pub record Parts (t : ℚ) : Type 0 where
  pub first : ℚ
  pub others : List ℚ
  pub nonneg : AllNonneg (first ∷ others)
  pub whole : sum_of (first ∷ others) ≡ t

-- v is the infimum of the sums of f over one or more times from 0 on whose sum is t
abbrev pub IsSubadditiveClosure : (ℚ → Ext) → ℚ → Ext → Type 0
IsSubadditiveClosure f t v = IsInfimum {I = Parts t} (λ p. sum_at f (p.first ∷ p.others)) v

-- f of a sum is at most the sum of f's values
abbrev pub IsSubadditive : (ℚ → Ext) → Type 0
IsSubadditive f = (s u : ℚ) → zero_q ≤ℚ s → zero_q ≤ℚ u → f (s +ℚ u) ≤ₑ f s +ₑ f u
