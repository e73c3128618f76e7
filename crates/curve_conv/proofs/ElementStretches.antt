-- How an element, infinite at other times, goes on from a time.
use Rattle.std.specs.Prelude.{◌≡◌, Some, None}
use Rattle.std.proofs.Common.{sym, ap, ◌∙◌, subst, inl}
use Rattle.rational.specs.Rational.{ℚ, ◌<ℚ◌}
use Rattle.rational.specs.Extended.{Ext, ◌<ₑ◌}
use Rattle.rational.specs.declared.Extended.TheVariants.{Fin, Inf}
use Rattle.rational.proofs.Laws.{lt_trans, lt_irrefl}
use Rattle.rational.proofs.ExtendedOrder.{lt_ext_trans}
use Rattle.upp_curve.specs.declared.affine_segment.line.Line.{Line}
use Rattle.upp_curve.specs.declared.affine_segment.element.Element.TheVariants.{Point, Open}
use Rattle.upp_curve.specs.affine_segment.Values.{line_at}
use Rattle.upp_curve.specs.affine_segment.Elements.{element_value}
use Rattle.upp_curve.proofs.affine_segment.ElementValues.{value_in}
use Rattle.upp_limits.specs.Limits.{Sizes}
use Rattle.upp_normal.specs.Ahead.{GoesOn, IsBeforeNext, AtNext}
use Rattle.upp_curve.specs.affine_segment.Fits.{LineFits}
use Rattle.element_envelope.specs.ElementRoom.{SumEnd, SumPoint, SumSegment}
use Rattle.element_envelope.specs.SumWindows.{SumValueAt}
use Rattle.element_envelope.proofs.PairWindows.{sum_value_on}
use Rattle.element_envelope.proofs.SumSteps.{line_fits_at, line_value_on}
use Rattle.curve_conv.specs.Stretches.{SumPlace, SumStretch, SumTimeIn, end_time}
use Rattle.upp_curve.proofs.affine_segment.ElementReading.{value_out}

-- ---- values

not_same : (x y : ℚ) → x <ℚ y → ¬ (x ≡ y)
not_same x y h e = lt_irrefl y (subst (λ z. z <ℚ y) e h)

-- ---- a point
pub point_before : (x v t : ℚ) → t <ℚ x → GoesOn (element_value (Point x v)) t record { at = Inf; line = None; next = Some x }
point_before x v t h = record {
  at = sym (value_out (Point x v) t (not_same t x h));
  line = λ u past before. value_out (Point x v) u (not_same u x before);
  next = h;
}

pub point_here : (x v t : ℚ) → t ≡ x → GoesOn (element_value (Point x v)) t record { at = Fin v; line = None; next = None }
point_here x v t e = record {
  at = sym (value_in (Point x v) t e);
  line = λ u past before. value_out (Point x v) u (λ k. lt_irrefl x (subst (λ z. x <ℚ z) k (subst (λ z. z <ℚ u) e past)));
  next = tt;
}

pub point_after : (x v t : ℚ) → x <ℚ t → GoesOn (element_value (Point x v)) t record { at = Inf; line = None; next = None }
point_after x v t h = record {
  at = sym (value_out (Point x v) t (λ k. not_same x t h (sym k)));
  line = λ u past before. value_out (Point x v) u (λ k. not_same x u (lt_trans h past) (sym k));
  next = tt;
}

pub point_stands : (z : Sizes) (end x v t : ℚ) → t ≡ x → SumPoint z end x v → SumStretch z t record { at = Fin v; line = None; next = None }
point_stands z end x v t e P = record { at = subst (λ y. SumValueAt z y (Fin v)) (sym e) (sum_value_on z x v P.value); line = tt; next = tt }

-- ---- a segment
before_to : (to : Ext) (u : ℚ) → IsBeforeNext u (end_time to) → Fin u <ₑ to
before_to Inf u h = tt
before_to (Fin e) u h = h

to_before : (to : Ext) (u : ℚ) → Fin u <ₑ to → IsBeforeNext u (end_time to)
to_before Inf u h = tt
to_before (Fin e) u h = h

pub open_before : (from : ℚ) (to : Ext) (l : Line) (t : ℚ) → t <ℚ from → GoesOn (element_value (Open from to l)) t record { at = Inf; line = None; next = Some from }
open_before from to l t h = record {
  at = sym (value_out (Open from to l) t (λ k. lt_irrefl t (lt_trans h k.past)));
  line = λ u past before. value_out (Open from to l) u (λ k. lt_irrefl u (lt_trans before k.past));
  next = h;
}

pub open_here : (from : ℚ) (to : Ext) (l : Line) (t : ℚ) → Fin from <ₑ to → t ≡ from → GoesOn (element_value (Open from to l)) t record { at = Inf; line = Some l; next = end_time to }
open_here from to l t p e = record {
  at = sym (value_out (Open from to l) t (λ k. not_same from t k.past (sym e)));
  line = λ u past before. value_in (Open from to l) u record { past = subst (λ y. y <ℚ u) e past; before = before_to to u before };
  next = to_before to t (subst (λ y. Fin y <ₑ to) (sym e) p);
}

pub open_within : (from : ℚ) (to : Ext) (l : Line) (t v : ℚ) → from <ℚ t → Fin t <ₑ to → v ≡ line_at l t → GoesOn (element_value (Open from to l)) t record { at = Fin v; line = Some l; next = end_time to }
open_within from to l t v h k e = record {
  at = ap Fin e ∙ sym (value_in (Open from to l) t record { past = h; before = k });
  line = λ u past before. value_in (Open from to l) u record { past = lt_trans h past; before = before_to to u before };
  next = to_before to t k;
}

pub open_after : (from : ℚ) (to : Ext) (l : Line) (t : ℚ) → ¬ (Fin t <ₑ to) → GoesOn (element_value (Open from to l)) t record { at = Inf; line = None; next = None }
open_after from to l t n = record {
  at = sym (value_out (Open from to l) t (λ k. n k.before));
  line = λ u past before. value_out (Open from to l) u (λ k. n (lt_ext_trans (Fin t) (Fin u) to past k.before));
  next = tt;
}

end_place : (z : Sizes) (end : ℚ) (to : Ext) → SumEnd z end to → AtNext (SumPlace z) (end_time to)
end_place z end Inf h = tt
end_place z end (Fin e) h = inl h.whole

pub here_stands : (z : Sizes) (end from t : ℚ) (to : Ext) (l : Line) → SumSegment z end from to l → SumStretch z t record { at = Inf; line = Some l; next = end_time to }
here_stands z end from t to l S = record { at = tt; line = S.line; next = end_place z end to S.until }

pub within_stands : (z : Sizes) (end from t v : ℚ) (to : Ext) (l : Line) → SumTimeIn z end t → v ≡ line_at l t → SumSegment z end from to l → SumStretch z t record { at = Fin v; line = Some l; next = end_time to }
within_stands z end from t v to l T e S = record {
  at = subst (λ y. SumValueAt z t (Fin y)) (sym e) (line_value_on z end t (Some l) T.limited S.line T.start);
  line = S.line;
  next = end_place z end to S.until;
}

pub segment_fits : (z : Sizes) (end from t : ℚ) (to : Ext) (l : Line) → SumTimeIn z end t → SumSegment z end from to l → LineFits t l
segment_fits z end from t to l T S = line_fits_at z end t (Some l) T.limited S.line T.start
