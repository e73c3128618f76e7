-- The laws of infima and suprema of families, and the bounds of a line on an open stretch. Textbook.
use Rattle.std.specs.Prelude.{◌≡◌, pos}
use Rattle.rational.specs.Rational.{ℚ, int, ◌-ℚ◌, ◌≤ℚ◌, ◌<ℚ◌}
use Rattle.rational.specs.MinMax.{min_q, max_q}
use Rattle.rational.specs.Line.{line_at}
use Rattle.rational.specs.Stretch.{Between, After}
use Rattle.rational.specs.Extended.{Ext, ◌≤ₑ◌, ◌+ₑ◌, min_ext, max_ext}
use Rattle.rational.specs.Bounds.{IsInfimum, IsSupremum}
use Rattle.rational.specs.Families.{either, raised, sums, Coinitial, Cofinal}
use Rattle.rational.specs.declared.Extended.TheVariants.{Fin, Inf}

-- an infimum is at least each number that is at most every member, and a family has at most one
pub record InfimumIsGreatest (I : Type 0) : Type 0 where
  pub greatest : (F : I → Ext) (x y : Ext) → IsInfimum F x → ((i : I) → y ≤ₑ F i) → y ≤ₑ x
  pub only : (F : I → Ext) (x y : Ext) → IsInfimum F x → IsInfimum F y → x ≡ y

-- a supremum is at most each number that is at least every member, and a family has at most one
pub record SupremumIsLeast (I : Type 0) : Type 0 where
  pub least : (F : I → Ext) (x y : Ext) → IsSupremum F x → ((i : I) → F i ≤ₑ y) → x ≤ₑ y
  pub only : (F : I → Ext) (x y : Ext) → IsSupremum F x → IsSupremum F y → x ≡ y

-- families that come down to each other have one infimum
abbrev pub InfimumOfDominated : Type 0 → Type 0 → Type 0
InfimumOfDominated I J =
    (F : I → Ext) (G : J → Ext) (x : Ext) → Coinitial F G → Coinitial G F → IsInfimum F x → IsInfimum G x

-- families that come up to each other have one supremum
abbrev pub SupremumOfDominated : Type 0 → Type 0 → Type 0
SupremumOfDominated I J =
    (F : I → Ext) (G : J → Ext) (x : Ext) → Cofinal F G → Cofinal G F → IsSupremum F x → IsSupremum G x

-- where one family with c more and another come down to each other, the infimum has c more
abbrev pub InfimumOfShifted : Type 0 → Type 0 → Type 0
InfimumOfShifted I J =
    (F : I → Ext) (G : J → Ext) (c : ℚ) (x : Ext) → Coinitial (raised F c) G → Coinitial G (raised F c)
    → IsInfimum F x → IsInfimum G (x +ₑ Fin c)

abbrev pub SupremumOfShifted : Type 0 → Type 0 → Type 0
SupremumOfShifted I J =
    (F : I → Ext) (G : J → Ext) (c : ℚ) (x : Ext) → Cofinal (raised F c) G → Cofinal G (raised F c)
    → IsSupremum F x → IsSupremum G (x +ₑ Fin c)

-- the infimum of two families together is the lesser of theirs
abbrev pub InfimumOfUnion : Type 0 → Type 0 → Type 0
InfimumOfUnion I J =
    (F : I → Ext) (G : J → Ext) (x y : Ext) → IsInfimum F x → IsInfimum G y → IsInfimum (either F G) (min_ext x y)

-- the supremum of two families together is the greater of theirs
abbrev pub SupremumOfUnion : Type 0 → Type 0 → Type 0
SupremumOfUnion I J =
    (F : I → Ext) (G : J → Ext) (x y : Ext) → IsSupremum F x → IsSupremum G y → IsSupremum (either F G) (max_ext x y)

-- the infimum of the sums of a member of each is the sum of theirs
abbrev pub InfimumOfSums : Type 0 → Type 0 → Type 0
InfimumOfSums I J =
    (F : I → Ext) (G : J → Ext) (x y : Ext) → IsInfimum F x → IsInfimum G y → IsInfimum (sums F G) (x +ₑ y)

abbrev pub SupremumOfSums : Type 0 → Type 0 → Type 0
SupremumOfSums I J =
    (F : I → Ext) (G : J → Ext) (x y : Ext) → IsSupremum F x → IsSupremum G y → IsSupremum (sums F G) (x +ₑ y)

-- the infimum of the members c - f is c less the supremum of the members f, and the other way round
pub record BoundsReflect (I : Type 0) : Type 0 where
  pub infimum : (f : I → ℚ) (c x : ℚ) → IsSupremum (λ i. Fin (f i)) (Fin x)
      → IsInfimum (λ i. Fin (c -ℚ f i)) (Fin (c -ℚ x))
  pub supremum : (f : I → ℚ) (c x : ℚ) → IsInfimum (λ i. Fin (f i)) (Fin x)
      → IsSupremum (λ i. Fin (c -ℚ f i)) (Fin (c -ℚ x))

-- the infimum of a line on an open stretch is the lesser of its limits at the ends, and its supremum is the greater
pub record LineOnStretch (lo hi a r : ℚ) : Type 0 where
  pub infimum : IsInfimum {I = Between lo hi} (λ s. Fin (line_at a r s.at))
      (Fin (min_q (line_at a r lo) (line_at a r hi)))
  pub supremum : IsSupremum {I = Between lo hi} (λ s. Fin (line_at a r s.at))
      (Fin (max_q (line_at a r lo) (line_at a r hi)))

-- on a stretch without an end, the limit at its start bounds a line on the one side, and a line that rises passes
-- every number
pub record LineWithoutEnd (lo a r : ℚ) : Type 0 where
  pub infimum : int (pos 0) ≤ℚ r → IsInfimum {I = After lo} (λ s. Fin (line_at a r s.at)) (Fin (line_at a r lo))
  pub supremum : r ≤ℚ int (pos 0) → IsSupremum {I = After lo} (λ s. Fin (line_at a r s.at)) (Fin (line_at a r lo))
  pub passed : int (pos 0) <ℚ r → IsSupremum {I = After lo} (λ s. Fin (line_at a r s.at)) Inf
