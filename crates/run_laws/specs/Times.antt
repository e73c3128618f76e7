-- Lists of times. Own choice.
use Rattle.std.specs.Prelude.{◌≡◌, ◌⊎◌, List, [], ◌∷◌}
use Rattle.rational.specs.Rational.{ℚ}

-- each of these times is of a kind
abbrev pub EachTime : (ℚ → Type 0) → List ℚ → Type 0
EachTime P [] = Unit {0}
EachTime P (t ∷ ts) = P t × EachTime P ts

-- t is one of these times
abbrev pub Among : ℚ → List ℚ → Type 0
Among t [] = ⊥
Among t (u ∷ us) = (t ≡ u) ⊎ Among t us
