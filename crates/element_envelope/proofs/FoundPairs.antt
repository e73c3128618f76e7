-- What two elements make: points, a segment moved by a point, two segments of one slope, and of different slopes.
use Rattle.std.specs.Prelude.{◌≡◌, Some}
use Rattle.std.proofs.Common.{refl, inl, inr}
use Rattle.rational.specs.Rational.{ℚ, ◌+ℚ◌, ◌-ℚ◌, ◌*ℚ◌, ◌<ℚ◌}
use Rattle.rational.specs.Extended.{Ext, ◌<ₑ◌, ◌+ₑ◌}
use Rattle.rational.specs.declared.Extended.TheVariants.{Fin, Inf}
use Rattle.rational.proofs.Laws.{lt_cases}
use Rattle.upp_curve.specs.declared.affine_segment.line.Line.{Line}
use Rattle.upp_curve.specs.declared.affine_segment.element.Element.{Element}
use Rattle.upp_curve.specs.declared.affine_segment.element.Element.TheVariants.{Point, Open}
use Rattle.upp_curve.specs.declared.affine_segment.element.Joined.{Joined}
use Rattle.upp_curve.specs.affine_segment.Values.{line_at}
use Rattle.upp_curve.specs.affine_segment.Segments.{Segment, open_of, IsProperSegment, IsThrough}
use Rattle.upp_curve.specs.affine_segment.MadeParts.{alone_part, OnePart, BentParts, AreParts}
use Rattle.upp_curve.specs.affine_segment.Elements.{IsProper, IsConvolved}
use Rattle.upp_curve.proofs.affine_segment.Through.{through}
use Rattle.upp_curve.proofs.affine_segment.Convolved.{points_convolved, moved_convolved, straight_convolved, endless_convolved, bent_convolved, turned_convolved}

-- the line of a slope that has a value at a time
through_line : (r x v : ℚ) → Line
through_line r x v = record { icept = v -ℚ r *ℚ x; slope = r }

through_is : (r x v : ℚ) → IsThrough r x v (through_line r x v)
unfolding through_line
through_is r x v = through r x v (r *ℚ x) (v -ℚ r *ℚ x) refl refl

abbrev HasPair : Element → Element → Type 0
HasPair a b = (j : Joined) × IsConvolved a b j × AreParts a b j

moved_of : (x v : ℚ) (from : ℚ) (to : Ext) (line : Line) → Fin from <ₑ to → HasPair (Point x v) (Open from to line)
moved_of x v from to line proper =
    let n = through_line line.slope (x +ℚ from) (v +ℚ line_at line from) in
    let T = through_is line.slope (x +ℚ from) (v +ℚ line_at line from) in (
      alone_part (Open (x +ℚ from) (Fin x +ₑ to) n),
      moved_convolved x v from to line (x +ℚ from) (line_at line from) (v +ℚ line_at line from) (Fin x +ₑ to) n proper refl refl refl refl T,
      record { moved = n; through = T; parts = refl },
    )

-- ---- two segments
straight_of : (a b : Segment) → IsProperSegment a → IsProperSegment b → a.line.slope ≡ b.line.slope
    → (j : Joined) × IsConvolved (open_of a) (open_of b) j × OnePart a b (a.to +ₑ b.to) j
straight_of a b A B same =
    let at = a.from +ℚ b.from in
    let v = line_at a.line a.from +ℚ line_at b.line b.from in
    let n = through_line a.line.slope at v in
    let T = through_is a.line.slope at v in (
      alone_part (Open at (a.to +ₑ b.to) n),
      straight_convolved a.from a.to a.line b.from b.to b.line n at (a.to +ₑ b.to) A B same refl refl T,
      record { line = n; through = T; parts = refl },
    )

bent_of : (from : ℚ) (to : Ext) (line : Line) (b : Segment) → Fin from <ₑ to → IsProperSegment b → line.slope <ℚ b.line.slope
    → (j : Joined) × IsConvolved (Open from to line) (open_of b) j × BentParts record { from = from; to = to; line = line } to b j
bent_of from Inf line b A B less =
    let at = from +ℚ b.from in
    let v = line_at line from +ℚ line_at b.line b.from in
    let n = through_line line.slope at v in
    let T = through_is line.slope at v in (
      alone_part (Open at Inf n),
      endless_convolved from line b.from b.to b.line n at B less refl T,
      record { line = n; through = T; parts = refl },
    )
bent_of from (Fin e) line b A B less =
    let at = from +ℚ b.from in
    let v = line_at line from +ℚ line_at b.line b.from in
    let n = through_line line.slope at v in
    let T = through_is line.slope at v in
    let turn = e +ℚ b.from in
    let u = line_at line e +ℚ line_at b.line b.from in
    let k = through_line b.line.slope turn u in
    let S = through_is b.line.slope turn u in (
      record { first = Open at (Fin turn) n; join = Some (Point turn u); second = Some (Open turn (Fin e +ₑ b.to) k) },
      bent_convolved from e line b.from b.to b.line n k at turn u (Fin e +ₑ b.to) A B less refl refl refl refl T S,
      record { line = n; next = k; through = T; turned = S; parts = refl },
    )

segments_of : (from : ℚ) (to : Ext) (line : Line) (f : ℚ) (t : Ext) (l : Line) → Fin from <ₑ to → Fin f <ₑ t → HasPair (Open from to line) (Open f t l)
segments_of from to line f t l A B =
    let a : Segment = record { from = from; to = to; line = line } in
    let b : Segment = record { from = f; to = t; line = l } in
    elim (lt_cases line.slope l.slope) [
      | inl h ↦ let (j, C, P) = bent_of from to line b A B h in (j, C, inl (h, P))
      | inr (inl e) ↦ let (j, C, P) = straight_of a b A B e in (j, C, inr (inr (e, P)))
      | inr (inr h) ↦ let (j, C, P) = bent_of f t l a B A h in (j, turned_convolved (Open f t l) (Open from to line) j C, inr (inl (h, P)))
    ]

-- ---- two elements
pub pair_of : (a b : Element) → IsProper a → IsProper b → (j : Joined) × IsConvolved a b j × AreParts a b j
pair_of (Point x v) (Point y u) A B = (alone_part (Point (x +ℚ y) (v +ℚ u)), points_convolved x v y u (x +ℚ y) (v +ℚ u) refl refl, refl)
pair_of (Point x v) (Open from to line) A B = moved_of x v from to line B
pair_of (Open from to line) (Point x v) A B =
    let (j, C, P) = moved_of x v from to line A in (j, turned_convolved (Point x v) (Open from to line) j C, P)
pair_of (Open from to line) (Open f t l) A B = segments_of from to line f t l A B
