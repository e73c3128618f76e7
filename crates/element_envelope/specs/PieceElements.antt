-- Pieces cut into elements: of each piece the point at its start, where its value is a number, and its line up to the
-- next start. (Bouillard, Boyer and Le Corronc: decomposition into elementary functions.)
use Rattle.std.specs.Prelude.{◌≡◌, ◌⊎◌, List, [], ◌∷◌, ◌++◌, Option, Some, None}
use Rattle.rational.specs.Rational.{ℚ}
use Rattle.rational.specs.Extended.{Ext, ◌<ₑ◌}
use Rattle.rational.specs.declared.Extended.TheVariants.{Fin, Inf}
use Rattle.upp_curve.specs.declared.affine_segment.line.Line.{Line}
use Rattle.upp_curve.specs.declared.affine_segment.line.Piece.{Piece}
use Rattle.upp_curve.specs.declared.affine_segment.element.Element.{Element}
use Rattle.upp_curve.specs.declared.affine_segment.element.Element.TheVariants.{Point, Open}
use Rattle.upp_curve.specs.affine_segment.Elements.{Covers}
use Rattle.upp_curve.specs.affine_segment.Pieces.{Each}

-- ---- one piece
-- the point at x, where the value there is a number
abbrev pub point_of : ℚ → Ext → List Element
point_of x Inf = []
point_of x (Fin v) = Point x v ∷ []

-- the segment from x up to `next`, where there is a line
abbrev pub segment_of : ℚ → Ext → Option Line → List Element
segment_of x next None = []
segment_of x next (Some line) = Open x next line ∷ []

-- ---- pieces, the last of them up to `end`
-- where the piece before these ends
abbrev pub next_start : List Piece → Ext → Ext
next_start [] end = end
next_start (p ∷ ps) end = Fin p.x

abbrev pub elements_of : List Piece → Ext → List Element
elements_of [] end = []
elements_of (p ∷ ps) end = (point_of p.x p.at ++ segment_of p.x (next_start ps end) p.line) ++ elements_of ps end

-- all pieces start before `end`
abbrev pub StartBefore : Ext → List Piece → Type 0
StartBefore end ps = Each (λ p. Fin p.x <ₑ end) ps

-- ---- where an element is
-- e is one of these
abbrev pub Among : Element → List Element → Type 0
Among e [] = ⊥
Among e (d ∷ ds) = (e ≡ d) ⊎ Among e ds

-- one of these of which t is a time
pub record ElementAt (es : List Element) (t : ℚ) : Type 0 where
  pub element : Element
  pub among : Among element es
  pub covers : Covers element t
