-- Elements of a curve: a point, or a line strictly between two times. What they are at a time, and what two of them
-- make.
-- (Bouillard, Boyer and Le Corronc: elementary functions and their convolution.)
use Rattle.std.specs.Prelude.{◌≡◌, ◌↔◌, ◌⊎◌, Bool, true, cond, ◌&&◌, Option, Some, None, IsSome}
use Rattle.rational.specs.Rational.{ℚ, ◌+ℚ◌, ◌<ℚ◌, le_q, lt_q}
use Rattle.rational.specs.Extended.{Ext, ◌<ₑ◌, min_ext}
use Rattle.rational.specs.declared.Extended.TheVariants.{Fin, Inf}
use Rattle.rational.specs.Bounds.{IsInfimum}
use Rattle.upp_curve.specs.declared.affine_segment.element.Element.{Element}
use Rattle.upp_curve.specs.declared.affine_segment.element.Element.TheVariants.{Point, Open}
use Rattle.upp_curve.specs.declared.affine_segment.element.Joined.{Joined}
use Rattle.upp_curve.specs.affine_segment.Values.{line_at}
use Rattle.upp_curve.specs.affine_segment.Cuts.{IsWithin}

-- ---- one element
-- a segment starts before its end
abbrev pub IsProper : Element → Type 0
IsProper (Point x v) = Unit {0}
IsProper (Open from to line) = Fin from <ₑ to

-- t is one of its times
abbrev pub Covers : Element → ℚ → Type 0
Covers (Point x v) t = t ≡ x
Covers (Open from to line) t = IsWithin from to t

-- its value at one of its times
abbrev pub level : Element → ℚ → ℚ
level (Point x v) t = v
level (Open from to line) t = line_at line t

-- where it starts
abbrev pub start_of : Element → ℚ
start_of (Point x v) = x
start_of (Open from to line) = from

-- ---- read at any time
-- tests: t is before the end, and t is one of the element's times
abbrev pub is_early : Ext → ℚ → Bool
is_early Inf t = true
is_early (Fin e) t = lt_q t e

abbrev pub is_time : Element → ℚ → Bool
is_time (Point x v) t = le_q t x && le_q x t
is_time (Open from to line) t = lt_q from t && is_early to t

-- its value at its times, and infinity elsewhere
abbrev pub element_value : Element → ℚ → Ext
element_value e t = cond (is_time e t) (Fin (level e t)) Inf

-- the same, infinite where there is no element
abbrev pub part_value : Option Element → ℚ → Ext
part_value None t = Inf
part_value (Some e) t = element_value e t

-- the value of the part whose time t is, and infinity where there is none
abbrev pub joined_value : Joined → ℚ → Ext
joined_value j t = min_ext (element_value j.first t) (min_ext (part_value j.join t) (part_value j.second t))

-- ---- convolution
-- a time of the one and a time of the other whose sum is t
pub record PairSplit (a b : Element) (t : ℚ) : Type 0 where
  pub first : ℚ
  pub second : ℚ
  pub first_in : Covers a first
  pub second_in : Covers b second
  pub whole : first +ℚ second ≡ t

-- the sum of their values there
abbrev pub pair_sum : (a b : Element) (t : ℚ) → PairSplit a b t → Ext
pair_sum a b t s = Fin (level a s.first +ℚ level b s.second)

-- one part; or a segment, the point at its end, and a segment from there on
abbrev pub AreAdjoined : Element → Option Element → Option Element → Type 0
AreAdjoined first None None = IsProper first
AreAdjoined first None (Some second) = ⊥
AreAdjoined first (Some join) None = ⊥
AreAdjoined (Point x v) (Some join) (Some second) = ⊥
AreAdjoined (Open from to line) (Some (Open f t l)) (Some second) = ⊥
AreAdjoined (Open from to line) (Some (Point x v)) (Some (Point y u)) = ⊥
AreAdjoined (Open from to line) (Some (Point x v)) (Some (Open y end next)) =
    (to ≡ Fin x) × (y ≡ x) × (from <ℚ x) × (Fin y <ₑ end)

-- two segments of different slopes, of which the one of smaller slope has an end
abbrev pub Bends : Element → Element → Type 0
Bends (Point x v) b = ⊥
Bends (Open from to line) (Point x v) = ⊥
Bends (Open from to line) (Open f t l) =
    (line.slope <ℚ l.slope) × (to <ₑ Inf) ⊎ (l.slope <ℚ line.slope) × (t <ₑ Inf)

-- at each time the parts have the infimum of the sums over its splits; they lie one after another from the sum of the
-- starts on; and there are two, with the point between, exactly for two segments of different slopes of which the one
-- of smaller slope has an end
pub record IsConvolved (a b : Element) (j : Joined) : Type 0 where
  pub value : (t : ℚ) → IsInfimum (pair_sum a b t) (joined_value j t)
  pub start : start_of j.first ≡ start_of a +ℚ start_of b
  pub adjoined : AreAdjoined j.first j.join j.second
  pub bend : IsSome j.join ↔ Bends a b
