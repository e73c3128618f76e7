-- The fold of stars: the star of the least of some functions is the convolution of their stars.
use Rattle.std.specs.Prelude.{◌≡◌, List, [], ◌∷◌}
use Rattle.rational.specs.Rational.{ℚ, ◌≤ℚ◌, ◌<ℚ◌}
use Rattle.rational.specs.Extended.{Ext}
use Rattle.min_plus.specs.Functions.{zero_q, IsNonnegative}
use Rattle.min_plus.specs.Convolution.{IsConvolution, IsSubadditiveClosure}
use Rattle.min_plus.specs.closure_laws.Star.{AreStars, least_of}

-- G is F, convolved with each of some functions in turn
abbrev pub AreFolded : (ℚ → Ext) → List (ℚ → Ext) → (ℚ → Ext) → Type 0
AreFolded F [] G = (t : ℚ) → zero_q ≤ℚ t → G t ≡ F t
AreFolded F (S ∷ Ss) G = (H : ℚ → Ext) × ((t : ℚ) → zero_q ≤ℚ t → IsConvolution F S t (H t)) × AreFolded H Ss G

-- each is the star of the one in its place
abbrev pub EachStar : List (ℚ → Ext) → List (ℚ → Ext) → Type 0
EachStar [] [] = Unit {0}
EachStar [] (S ∷ Ss) = ⊥
EachStar (f ∷ fs) [] = ⊥
EachStar (f ∷ fs) (S ∷ Ss) = AreStars f S × EachStar fs Ss

abbrev pub StarOfLeast : Type 0
StarOfLeast = (f F : ℚ → Ext) (fs Fs : List (ℚ → Ext)) (G : ℚ → Ext) → AreStars f F → EachStar fs Fs → AreFolded F Fs G
    → AreStars (least_of (f ∷ fs)) G

-- the star past 0, and f itself at 0, is the closure of a function that is nowhere below 0
pub record IsSetBack (f S h : ℚ → Ext) : Type 0 where
  pub zero : h zero_q ≡ f zero_q
  pub past : (t : ℚ) → zero_q <ℚ t → h t ≡ S t

abbrev pub ClosureOfSetBack : Type 0
ClosureOfSetBack = (f S h : ℚ → Ext) (t : ℚ) → IsNonnegative f → AreStars f S → IsSetBack f S h → zero_q ≤ℚ t
    → IsSubadditiveClosure f t (h t)
