-- What the parts of a curve say of it.
use Rattle.std.specs.Prelude.{◌≡◌, List, [], ◌∷◌, map, Option, Some, None}
use Rattle.rational.specs.Rational.{ℚ, ◌≤ℚ◌, ◌<ℚ◌}
use Rattle.upp_curve.specs.affine_segment.Elements.{IsProper, start_of, element_value}
use Rattle.upp_curve.specs.Curve.{SpecCurve, value_at}
use Rattle.min_plus.specs.Functions.{zero_q, IsFinite}
use Rattle.upp_curve.specs.Normal.{IsNormal}
use Rattle.min_plus.specs.closure_laws.Star.{least_of}
use Rattle.min_plus.specs.closure_laws.ClosureLaws.{HasCopies}
use Rattle.subadd_closure.specs.CurveParts.{parts_of, part_value}
use Rattle.subadd_closure.specs.declared.part.Copies.{Copies}
use Rattle.subadd_closure.specs.declared.part.Part.{Part}

-- P holds of each part
abbrev pub EachPart : (Part → Type 0) → List Part → Type 0
EachPart P [] = Unit {0}
EachPart P (p ∷ ps) = P p × EachPart P ps

-- a finite curve is at each time the least of its parts
abbrev pub PartsMakeCurve : Type 0
PartsMakeCurve = (c : SpecCurve) (t : ℚ) → IsNormal c → IsFinite (value_at c) → zero_q ≤ℚ t
    → value_at c t ≡ least_of (map part_value (parts_of c)) t

-- what a part with copies is
abbrev pub IsCopied : Part → Option Copies → Type 0
IsCopied p None = Unit {0}
IsCopied p (Some k) = (zero_q <ℚ k.period) × HasCopies (element_value p.element) k.period k.rise (part_value p)

-- its element is a proper one from 0 on, and where it has copies it is read with each of them
pub record IsPart (p : Part) : Type 0 where
  pub proper : IsProper p.element
  pub nonneg : zero_q ≤ℚ start_of p.element
  pub copied : IsCopied p p.copies

abbrev pub PartsAreParts : Type 0
PartsAreParts = (c : SpecCurve) → IsNormal c → EachPart IsPart (parts_of c)
