-- How elements and the parts of an answer are read. (Bouillard, Boyer and Le Corronc: an elementary function is
-- infinite outside its times.)
use Rattle.std.specs.Prelude.{◌≡◌, Option, Some, None}
use Rattle.rational.specs.Rational.{ℚ}
use Rattle.rational.specs.declared.Extended.TheVariants.{Fin, Inf}
use Rattle.upp_curve.specs.declared.affine_segment.element.Element.{Element}
use Rattle.upp_curve.specs.declared.affine_segment.element.Joined.{Joined}
use Rattle.upp_curve.specs.affine_segment.Elements.{Covers, level, element_value, joined_value, AreAdjoined}

-- an element has its value at its times, and infinity elsewhere
pub record ElementIsRead (e : Element) (t : ℚ) : Type 0 where
  pub here : Covers e t → element_value e t ≡ Fin (level e t)
  pub elsewhere : ¬ (Covers e t) → element_value e t ≡ Inf

-- t is one of the times of a part that may be missing, and what follows then
abbrev pub OnPart : Option Element → ℚ → (Element → Type 0) → Type 0
OnPart None t P = Unit {0}
OnPart (Some e) t P = Covers e t → P e

abbrev pub NotOnPart : Option Element → ℚ → Type 0
NotOnPart None t = Unit {0}
NotOnPart (Some e) t = ¬ (Covers e t)

-- parts that lie one after another have each its own value at its times, and infinity elsewhere
pub record JoinedIsRead (j : Joined) (t : ℚ) : Type 0 where
  pub first : Covers j.first t → joined_value j t ≡ Fin (level j.first t)
  pub join : OnPart j.join t (λ e. joined_value j t ≡ Fin (level e t))
  pub second : OnPart j.second t (λ e. joined_value j t ≡ Fin (level e t))
  pub elsewhere : ¬ (Covers j.first t) → NotOnPart j.join t → NotOnPart j.second t → joined_value j t ≡ Inf

abbrev pub ElementsAreRead : Type 0
ElementsAreRead = (e : Element) (t : ℚ) → ElementIsRead e t

abbrev pub JoinedAreRead : Type 0
JoinedAreRead = (j : Joined) (t : ℚ) → AreAdjoined j.first j.join j.second → JoinedIsRead j t
