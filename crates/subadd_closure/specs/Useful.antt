-- The elements of the first operand of a convolution without those that make nothing below it with some elements of the
-- second. (Where the second operand is at most 0 at 0, the convolution is nowhere above the first operand: own choice.)
use Rattle.std.specs.Prelude.{◌⊎◌, List}
use Rattle.std.specs.List.{All}
use Rattle.rational.specs.Rational.{ℚ, ◌+ℚ◌, ◌-ℚ◌, ◌*ℚ◌, ◌≤ℚ◌, ◌<ℚ◌}
use Rattle.rational.specs.Extended.{Ext, ◌≤ₑ◌, ◌<ₑ◌}
use Rattle.rational.specs.declared.Extended.TheVariants.{Fin}
use Rattle.upp_curve.specs.declared.affine_segment.line.Line.{Line}
use Rattle.upp_curve.specs.affine_segment.Values.{line_at}
use Rattle.upp_curve.specs.declared.affine_segment.element.Element.{Element}
use Rattle.upp_curve.specs.declared.affine_segment.element.Element.TheVariants.{Point, Open}
use Rattle.upp_curve.specs.affine_segment.Elements.{Covers, level, start_of, PairSplit, pair_sum}
use Rattle.min_plus.specs.Functions.{zero_q}
use Rattle.subadd_closure.specs.Thinned.{AreKept}

-- ---- two elements
-- a value from 0 on at 0
abbrev pub IsOrigin : Element → Type 0
IsOrigin (Point x v) = (x ≤ℚ zero_q) × (zero_q ≤ℚ v)
IsOrigin (Open from to line) = ⊥

-- what two of them make is nowhere below f before `end`
abbrev pub MakesOver : (ℚ → Ext) → ℚ → Element → Element → Type 0
MakesOver f end x y = (t : ℚ) (s : PairSplit x y t) → t <ℚ end → f t ≤ₑ pair_sum x y t s

-- x makes nothing below f with any of ys but one at 0
abbrev pub IsIdle : (ℚ → Ext) → ℚ → List Element → Element → Type 0
IsIdle f end ys x = All (λ y. IsOrigin y ⊎ MakesOver f end x y) ys

-- zs are some of the elements xs, and the others are idle
abbrev pub AreUseful : (ℚ → Ext) → ℚ → (xs ys zs : List Element) → Type 0
AreUseful f end xs ys zs = AreKept (IsIdle f end ys) xs zs

-- ---- how low they are
-- one of two is a segment
abbrev pub HasSegment : Element → Element → Type 0
HasSegment (Open from to line) y = Unit {0}
HasSegment (Point x v) (Open from to line) = Unit {0}
HasSegment (Point x v) (Point y w) = ⊥

-- from v at its start on the values of an element rise with a slope of at least m
abbrev pub IsFloor : ℚ → Element → ℚ → Type 0
IsFloor m e v = (t : ℚ) → Covers e t → v +ℚ m *ℚ (t -ℚ start_of e) ≤ℚ level e t

-- where one is a segment, the sums of their times that are before `end` are before `limit`
abbrev pub IsLimit : Element → Element → (end limit : ℚ) → Type 0
IsLimit x y end limit = (s u : ℚ) → Covers x s → Covers y u → HasSegment x y → s +ℚ u <ℚ end → s +ℚ u <ℚ limit

-- t, a time of an element, is at most its end; of a segment it is before that
abbrev pub EndsBy : Element → ℚ → Ext → Type 0
EndsBy (Point x v) t to = Fin t ≤ₑ to
EndsBy (Open from until line) t to = Fin t <ₑ to

-- a line is nowhere above the sums of two elements' values
abbrev pub IsFloorLine : Element → Element → Line → Type 0
IsFloorLine x y l = (s u : ℚ) → Covers x s → Covers y u → line_at l (s +ℚ u) ≤ℚ level x s +ℚ level y u
