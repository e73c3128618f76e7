-- What two elements make, part by part, from what is computed.
use Rattle.std.specs.Prelude.{◌≡◌, Some}
use Rattle.std.proofs.Common.{sym, ap, ◌∙◌, refl}
use Rattle.rational.specs.Rational.{ℚ, ◌+ℚ◌}
use Rattle.rational.specs.Extended.{Ext, ◌+ₑ◌}
use Rattle.rational.specs.declared.Extended.TheVariants.{Fin}
use Rattle.upp_curve.specs.declared.affine_segment.line.Line.{Line}
use Rattle.upp_curve.specs.declared.affine_segment.element.Element.TheVariants.{Point, Open}
use Rattle.upp_curve.specs.declared.affine_segment.element.Joined.{Joined}
use Rattle.upp_curve.specs.declared.affine_segment.convolution.Corner.{Corner}
use Rattle.upp_curve.specs.affine_segment.Values.{line_at}
use Rattle.upp_curve.specs.affine_segment.Segments.{Segment, IsThrough}
use Rattle.upp_curve.specs.affine_segment.Corners.{IsCorner}
use Rattle.upp_curve.specs.affine_segment.MadeParts.{alone_part, IsFrom, MovedPart, OnePart, TwoParts}

through_at : (r x y v w : ℚ) (n : Line) → x ≡ y → v ≡ w → IsThrough r x v n → IsThrough r y w n
through_at r x y v w n e f h = record { slope = h.slope; value = ap (line_at n) (sym e) ∙ h.value ∙ f }

pub moved_part : (x v from : ℚ) (to : Ext) (line : Line) (at start after : ℚ) (end : Ext) (n : Line) (j : Joined)
    → at ≡ x +ℚ from → end ≡ Fin x +ₑ to → start ≡ line_at line from → after ≡ v +ℚ start → IsThrough line.slope at after n
    → j ≡ alone_part (Open at end n) → MovedPart x v from to line j
moved_part x v from to line at start after end n j e f g h through is = record {
  moved = n;
  through = through_at line.slope at (x +ℚ from) after (v +ℚ line_at line from) n e (h ∙ ap (λ q. v +ℚ q) g) through;
  parts = is ∙ ap (λ z. alone_part (Open z end n)) e ∙ ap (λ z. alone_part (Open (x +ℚ from) z n)) f;
}

pub corner_from : (a : Line) (x : ℚ) (b : Line) (y r : ℚ) (c : Corner) → IsCorner a x b y r c → IsFrom a x b y r c.line
corner_from a x b y r c h = through_at r c.at (x +ℚ y) c.v (line_at a x +ℚ line_at b y) c.line h.at h.v h.line

pub one_part_made : (a b : Segment) (c : Corner) (until to : Ext) (j : Joined) → IsCorner a.line a.from b.line b.from a.line.slope c → to ≡ until
    → j ≡ alone_part (Open c.at to c.line) → OnePart a b until j
one_part_made a b c until to j h e is = record {
  line = c.line;
  through = corner_from a.line a.from b.line b.from a.line.slope c h;
  parts = is ∙ ap (λ z. alone_part (Open z to c.line)) h.at ∙ ap (λ z. alone_part (Open (a.from +ℚ b.from) z c.line)) e;
}

pub two_parts_made : (a : Segment) (e : ℚ) (b : Segment) (c d : Corner) (to : Ext) → IsCorner a.line a.from b.line b.from a.line.slope c
    → IsCorner a.line e b.line b.from b.line.slope d → to ≡ Fin e +ₑ b.to
    → TwoParts a e b record { first = Open c.at (Fin d.at) c.line; join = Some (Point d.at d.v); second = Some (Open d.at to d.line) }
two_parts_made a e b c d to h k u = record {
  line = c.line;
  next = d.line;
  through = corner_from a.line a.from b.line b.from a.line.slope c h;
  turned = corner_from a.line e b.line b.from b.line.slope d k;
  parts = rw (h.at, k.at, k.v, u) refl;
}
