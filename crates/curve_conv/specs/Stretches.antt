-- How a function that is least of sums goes on from a time: its value, a line, and until when. Own choice.
use Rattle.std.specs.Prelude.{◌≡◌, ◌≢◌, ◌⊎◌, Option, Some, None}
use Rattle.rational.specs.Rational.{ℚ, ◌+ℚ◌, ◌≤ℚ◌, ◌<ℚ◌}
use Rattle.rational.specs.Grid.{Whole}
use Rattle.rational.specs.Extended.{Ext, ◌+ₑ◌, min_ext}
use Rattle.rational.specs.declared.Extended.TheVariants.{Fin, Inf}
use Rattle.rational.specs.Bounds.{IsInfimum}
use Rattle.upp_curve.specs.declared.affine_segment.line.Line.{Line}
use Rattle.upp_curve.specs.declared.affine_segment.element.Element.{Element}
use Rattle.upp_curve.specs.declared.affine_segment.element.Element.TheVariants.{Point, Open}
use Rattle.upp_curve.specs.affine_segment.Elements.{IsProper, Covers, level, PairSplit, pair_sum}
use Rattle.upp_curve.specs.affine_segment.Values.{line_at, line_value}
use Rattle.upp_normal.specs.declared.ahead.Stretch.{Stretch}
use Rattle.upp_limits.specs.Limits.{Sizes}
use Rattle.upp_normal.specs.Operand.{AreLimited}
use Rattle.upp_normal.specs.Ahead.{GoesOn, IsBeforeNext, AtNext}
use Rattle.upp_normal.specs.Crossings.{IsCrossing}
use Rattle.element_envelope.specs.ElementRoom.{OperandElement}
use Rattle.element_envelope.specs.SumWindows.{SumStart, SumValueAt, SumLineAt}
use Rattle.curve_conv.specs.declared.lower.Under.{Under}

-- on the grid of times, or where two lines cross
abbrev pub SumPlace : Sizes → ℚ → Type 0
SumPlace z x = Whole z.dt x ⊎ IsCrossing z x

-- its numbers stand where those of sums do
pub record SumStretch (z : Sizes) (t : ℚ) (s : Stretch) : Type 0 where
  pub at : SumValueAt z t s.at
  pub line : SumLineAt z s.line
  pub next : AtNext (SumPlace z) s.next

-- a time of a window
pub record SumTimeIn (z : Sizes) (end t : ℚ) : Type 0 where
  pub limited : AreLimited z end
  pub start : SumStart z end t

-- two lines meet at x, and are not one
pub record Meets (l m : Line) (x : ℚ) : Type 0 where
  pub there : line_at l x ≡ line_at m x
  pub apart : l.slope ≢ m.slope

abbrev pub MeetsAt : Option Line → Option Line → Option ℚ → Type 0
MeetsAt l m None = Unit {0}
MeetsAt None m (Some x) = ⊥
MeetsAt (Some l) None (Some x) = ⊥
MeetsAt (Some l) (Some m) (Some x) = Meets l m x

-- which of two lines is the lower just after t, and until when
pub record IsUnder (l m : Option Line) (t : ℚ) (w : Under) : Type 0 where
  pub lower : (u : ℚ) → t <ℚ u → IsBeforeNext u w.turn → line_value w.line u ≡ min_ext (line_value l u) (line_value m u)
  pub turn : IsBeforeNext t w.turn
  pub one : (w.line ≡ l) ⊎ (w.line ≡ m)
  pub meets : MeetsAt l m w.turn

-- the earlier of two times that may be missing
pub record IsEarliest (a b e : Option ℚ) : Type 0 where
  pub both : (u : ℚ) → IsBeforeNext u e → IsBeforeNext u a × IsBeforeNext u b
  pub one : (e ≡ a) ⊎ (e ≡ b)

-- ---- families of sums
-- from t on, up to its next time and before `end`, it is the infimum of the sums of each time
pub record IsAhead (I : ℚ → Type 0) (sum : (u : ℚ) → I u → Ext) (end t : ℚ) (s : Stretch) : Type 0 where
  pub value : ℚ → Ext
  pub is : (u : ℚ) → t ≤ℚ u → u <ℚ end → IsBeforeNext u s.next → IsInfimum (sum u) (value u)
  pub goes : GoesOn value t s

-- ---- elements
-- where a segment ends; none is for ever
abbrev pub end_time : Ext → Option ℚ
end_time Inf = None
end_time (Fin e) = Some e

abbrev pub until_time : Option ℚ → Ext
until_time None = Inf
until_time (Some e) = Fin e

-- of what goes on from x: the point there, and the line after it
abbrev pub point_at : ℚ → Ext → Option Element
point_at x Inf = None
point_at x (Fin v) = Some (Point x v)

abbrev pub open_at : ℚ → Option ℚ → Option Line → Option Element
open_at x next None = None
open_at x next (Some l) = Some (Open x (until_time next) l)

-- splits into times of two elements, of which the second may be missing
abbrev pub PartPair : Element → Option Element → ℚ → Type 0
PartPair a None t = ⊥
PartPair a (Some b) t = PairSplit a b t

abbrev pub part_pair_sum : (a : Element) (o : Option Element) (t : ℚ) → PartPair a o t → Ext
part_pair_sum a None t s = Inf
part_pair_sum a (Some b) t s = pair_sum a b t s

-- splits into a time of an element and one of Q
pub record RowSplit (a : Element) (Q : ℚ → Type 0) (t : ℚ) : Type 0 where
  pub first : ℚ
  pub second : ℚ
  pub first_in : Covers a first
  pub second_in : Q second
  pub whole : first +ℚ second ≡ t

abbrev pub row_sum : (a : Element) (g : ℚ → Ext) (Q : ℚ → Type 0) (t : ℚ) → RowSplit a Q t → Ext
row_sum a g Q t s = Fin (level a s.first) +ₑ g s.second

-- the same, where the element may be missing
abbrev pub PartRow : Option Element → (ℚ → Type 0) → ℚ → Type 0
PartRow None Q t = ⊥
PartRow (Some a) Q t = RowSplit a Q t

abbrev pub part_row_sum : (o : Option Element) (g : ℚ → Ext) (Q : ℚ → Type 0) (t : ℚ) → PartRow o Q t → Ext
part_row_sum None g Q t s = Inf
part_row_sum (Some a) g Q t s = row_sum a g Q t s

-- from `low` on, before a time that may be missing
pub record IsSpan (low : ℚ) (next : Option ℚ) (u : ℚ) : Type 0 where
  pub late : low ≤ℚ u
  pub before : IsBeforeNext u next

-- ---- elements that may be missing
abbrev pub IsProperPart : Option Element → Type 0
IsProperPart None = Unit {0}
IsProperPart (Some e) = IsProper e

abbrev pub OperandPart : Sizes → ℚ → Option Element → Type 0
OperandPart z end None = Unit {0}
OperandPart z end (Some e) = OperandElement z end e
