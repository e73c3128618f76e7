-- The closures of a point and of a line on an open stretch. (Bouillard, Boyer and Le Corronc: closures of elementary
-- functions.)
use Rattle.std.specs.Prelude.{◌≡◌, ℕ, suc, pos}
use Rattle.rational.specs.Rational.{ℚ, ◌+ℚ◌, ◌*ℚ◌, ◌≤ℚ◌, ◌<ℚ◌, int}
use Rattle.rational.specs.Extended.{Ext, ◌<ₑ◌}
use Rattle.rational.specs.Bounds.{IsInfimum}
use Rattle.rational.specs.declared.Extended.TheVariants.{Fin}
use Rattle.upp_curve.specs.declared.affine_segment.line.Line.{Line}
use Rattle.upp_curve.specs.declared.affine_segment.element.Element.TheVariants.{Point, Open}
use Rattle.upp_curve.specs.affine_segment.Elements.{element_value}
use Rattle.min_plus.specs.Functions.{zero_q}
use Rattle.min_plus.specs.Convolution.{IsSubadditiveClosure}

-- a whole number n from 1 on such that t is n times the time a
pub record Multiple (a t : ℚ) : Type 0 where
  pub less_one : ℕ
  pub is : t ≡ int (pos (suc less_one)) *ℚ a

-- the closure of the value v at a is n v at n a, for n from 1 on; at 0 the least of these
abbrev pub IsPointClosure : ℚ → ℚ → ℚ → Ext → Type 0
IsPointClosure a v t w = IsInfimum {I = Multiple a t} (λ n. Fin (int (pos (suc n.less_one)) *ℚ v)) w

-- a whole number n from 1 on such that t lies between n a and n b
pub record Turn (a : ℚ) (b : Ext) (t : ℚ) : Type 0 where
  pub less_one : ℕ
  pub share : ℚ
  pub is : t ≡ int (pos (suc less_one)) *ℚ share
  pub above : a <ℚ share
  pub below : Fin share <ₑ b

-- the closure of the line k + r t between a and b is, at t, the least n k + r t over those n
abbrev pub IsSegmentClosure : ℚ → Ext → Line → ℚ → Ext → Type 0
IsSegmentClosure a b l t w =
    IsInfimum {I = Turn a b t} (λ n. Fin (int (pos (suc n.less_one)) *ℚ l.icept +ℚ l.slope *ℚ t)) w

abbrev pub ClosureOfPoint : Type 0
ClosureOfPoint = (a v t : ℚ) (w : Ext) → zero_q ≤ℚ a → IsPointClosure a v t w
    → IsSubadditiveClosure (element_value (Point a v)) t w

abbrev pub ClosureOfSegment : Type 0
ClosureOfSegment = (a : ℚ) (b : Ext) (l : Line) (t : ℚ) (w : Ext) → zero_q ≤ℚ a → IsSegmentClosure a b l t w
    → IsSubadditiveClosure (element_value (Open a b l)) t w
