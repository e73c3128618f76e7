-- The numbers of an open segment of a curve within the limit of its own gauge: its length, and how often that goes into
-- its start, fit.
use Rattle.std.specs.Prelude.{◌≡◌, ◌<◌, ◌^◌, pos, List, [], ◌∷◌, Some}
use Rattle.std.specs.List.{AllByRecursion}
use Rattle.std.proofs.Common.{arith, ◌∙◌, refl, sym, subst, inl, inr}
use Rattle.rational.specs.Rational.{ℚ, ◌+ℚ◌, ◌-ℚ◌, ◌≤ℚ◌, ◌<ℚ◌, int}
use Rattle.rational.specs.Grid.{Whole, Within}
use Rattle.rational.specs.Extended.{Ext}
use Rattle.rational.specs.declared.Extended.TheVariants.{Fin, Inf}
use Rattle.rational.proofs.Linear.{with2}
use Rattle.rational.proofs.Laws.{le_refl, le_of_lt, le_trans, not_zero}
use Rattle.rational.proofs.Grid.{whole_add, whole_sub, within_sub}
use Rattle.upp_curve.specs.declared.affine_segment.line.Line.{Line}
use Rattle.upp_curve.specs.declared.affine_segment.line.Piece.{Piece}
use Rattle.upp_curve.specs.declared.affine_segment.element.Element.TheVariants.{Open}
use Rattle.upp_curve.specs.declared.curve.Tail.{Tail}
use Rattle.upp_curve.specs.declared.curve.Tail.TheVariants.{Periodic, Affine, Infinite}
use Rattle.upp_curve.specs.Curve.{SpecCurve}
use Rattle.min_plus.specs.Functions.{zero_q}
use Rattle.upp_curve.specs.affine_segment.Pieces.{Each, StartsAtZero}
use Rattle.upp_curve.specs.Normal.{IsRaw, IsNormal}
use Rattle.upp_curve.specs.Steady.{rank_of}
use Rattle.upp_limits.specs.Spans.{line_read, spans}
use Rattle.upp_limits.specs.Limits.{Sizes, own_end, own_sizes, own_gauge}
use Rattle.upp_limits.specs.Sized.{IsSlope, IsValue, LineStands, TailStands, SpanStands, ValueStands, grid_of, times_largest}
use Rattle.upp_normal.specs.Operand.{AreLimited}
use Rattle.upp_limits.proofs.CurveStands.{own_are_sizes, own_stands, starts_below_own_end}
use Rattle.upp_normal.proofs.StretchSizes.{time_whole, time_within, times_fit, small_quotient}
use Rattle.element_envelope.specs.PieceElements.{next_start, elements_of, Among}
use Rattle.element_envelope.proofs.Members.{among_cases}
use Rattle.element_envelope.proofs.Cover.{head, head_cases, cover}
use Rattle.subadd_closure.specs.CurveParts.{pieces_end}
use Rattle.subadd_closure.proofs.ElementTimes.{starts_nonneg}
use Rattle.subadd_closure.proofs.EachParts.{starts_before}
use Rattle.subadd_closure.specs.SegmentLimits.{IsElementOf, LengthsFit}
use Rattle.upp_limits.proofs.KnownNumbers.{two_ones}
use Rattle.upp_limits.proofs.NarrowSizes.{line_parts}
use Rattle.upp_curve.proofs.RisingCurves.{GoesOn}
use Rattle.upp_curve.specs.affine_segment.Values.{line_at, line_value}
use Rattle.subadd_closure.proofs.SumPieces.{LineStandsIn}
use Rattle.upp_limits.proofs.FewCopies.{end_is}

-- ---- times
-- on the grid of times, up to the end of a window
pub record IsTimeTo (z : Sizes) (end t : ℚ) : Type 0 where
  pub whole : Whole z.dt t
  pub by : t ≤ℚ end

abbrev IsEndTo : Sizes → ℚ → Ext → Type 0
IsEndTo z w Inf = Unit {0}
IsEndTo z w (Fin e) = IsTimeTo z w e

next_to : (z : Sizes) (w : ℚ) (ps : List Piece) (end : Ext) → Each (λ p. IsTimeTo z w p.x) ps → IsEndTo z w end
    → IsEndTo z w (next_start ps end)
next_to z w [] end h e = e
next_to z w (q ∷ qs) end h e = h.0

-- a segment starts and ends where pieces do
segment_to : (z : Sizes) (w : ℚ) (ps : List Piece) (end : Ext) (a b : ℚ) (l : Line) → Each (λ p. IsTimeTo z w p.x) ps
    → IsEndTo z w end → Among (Open a (Fin b) l) (elements_of ps end) → IsTimeTo z w a × IsTimeTo z w b
segment_to z w [] end a b l h e k = absurd k
segment_to z w (p ∷ ps) end a b l h e k =
    elim (among_cases (Open a (Fin b) l) (head p.x p.at p.line (next_start ps end)) (elements_of ps end) k) [
      | inl m ↦ elim (head_cases p.x p.at p.line (next_start ps end) (Open a (Fin b) l) m) [
        | inl point ↦ let (v, at, is) = point in absurd cc
        | inr segment ↦
            let (m, line, is) = segment in
            let from : p.x ≡ a = cc in
            let to : next_start ps end ≡ Fin b = cc in
            (subst (IsTimeTo z w) from h.0, subst (IsEndTo z w) to (next_to z w ps end h.1 e))
      ]
      | inr m ↦ segment_to z w ps end a b l h.1 e m
    ]

-- ---- those of a curve
-- the sizes of a curve by itself
first_before : (ps : List Piece) (w : ℚ) → StartsAtZero ps → Each (λ p. p.x <ℚ w) ps → zero_q ≤ℚ w
first_before [] w z h = absurd z
first_before (p ∷ ps) w z h = subst (λ x. x ≤ℚ w) z.0 (le_of_lt h.0)

own_limited : (c : SpecCurve) → IsRaw c → own_gauge c < 2 ^ 120 → AreLimited (own_sizes c) (own_end c)
own_limited c raw small = record {
  sizes = own_are_sizes c;
  gauge = small;
  some = first_before c.pieces (own_end c) raw.starts (starts_below_own_end c raw);
}

starts_to : (z : Sizes) (w : ℚ) (tail : Tail) (ps : List Piece) → AllByRecursion (SpanStands z) (spans tail ps)
    → Each (λ p. p.x <ℚ w) ps → Each (λ p. IsTimeTo z w p.x) ps
unfolding spans
starts_to z w tail [] h k = tt
starts_to z w tail (p ∷ ps) h k =
    (record { whole = h.0.start; by = le_of_lt k.0 }, starts_to z w tail ps h.1 k.1)

end_to : (z : Sizes) (ps : List Piece) (tail : Tail) → Whole z.dt (rank_of tail) → TailStands z tail
    → IsEndTo z (own_end record { pieces = ps; tail = tail }) (pieces_end tail)
end_to z ps (Periodic rank period rise) w h = record {
  whole = whole_add z.dt rank period w h.whole;
  by = subst (λ x. rank +ℚ period ≤ℚ x) (sym (end_is ps rank period rise)) (le_refl (rank +ℚ period));
}
end_to z ps (Affine rank) w h = tt
end_to z ps (Infinite rank) w h = tt

pub segment_start : (c : SpecCurve) (a : ℚ) (b : Ext) (l : Line) → IsNormal c → IsElementOf c (Open a b l) → zero_q ≤ℚ a
segment_start c a b l n k = starts_nonneg c.pieces (pieces_end c.tail) (Open a b l) n.raw.starts k

pub segment_room : (c : SpecCurve) (a b : ℚ) (l : Line) → IsNormal c → IsElementOf c (Open a (Fin b) l) → a <ℚ b
segment_room c a b l n k =
    (cover c.pieces (pieces_end c.tail) n.raw.starts (starts_before c.pieces c.tail n.raw.tail)).proper (Open a (Fin
    b) l) k

-- where a segment with an end starts and ends
pub segment_times : (c : SpecCurve) (a b : ℚ) (l : Line) → IsNormal c → IsElementOf c (Open a (Fin b) l)
    → IsTimeTo (own_sizes c) (own_end c) a × IsTimeTo (own_sizes c) (own_end c) b
segment_times c a b l n k =
    let z = own_sizes c in
    let w = own_end c in
    let S = own_stands c n.raw in
    segment_to z w c.pieces (pieces_end c.tail) a b l
    (starts_to z w c.tail c.pieces S.spans (starts_below_own_end c n.raw)) (end_to z c.pieces c.tail S.rank S.tail) k

-- the value of a segment's line where it starts, and its slope
pub record SegmentStands (z : Sizes) (a : ℚ) (l : Line) : Type 0 where
  pub value : IsValue z (line_at l a)
  pub slope : IsSlope z l.slope

segment_stands : (z : Sizes) (tail : Tail) (ps : List Piece) (end : Ext) (a : ℚ) (b : Ext) (l : Line)
    → ((p : Piece) → line_read tail p ≡ p.line) → AllByRecursion (SpanStands z) (spans tail ps)
    → Among (Open a b l) (elements_of ps end) → SegmentStands z a l
unfolding spans
segment_stands z tail [] end a b l reads h k = absurd k
segment_stands z tail (p ∷ ps) end a b l reads h k =
    elim (among_cases (Open a b l) (head p.x p.at p.line (next_start ps end)) (elements_of ps end) k) [
      | inl m ↦ elim (head_cases p.x p.at p.line (next_start ps end) (Open a b l) m) [
        | inl point ↦ let (v, at, is) = point in absurd cc
        | inr segment ↦
            let (m, line, is) = segment in
            let from : p.x ≡ a = cc in
            let own : p.line ≡ Some l = cc in
            let same : line_read tail p ≡ Some l = reads p ∙ own in
            record {
              value = subst (λ x. ValueStands z (line_value (Some l) x)) from
                  (subst (λ o. ValueStands z (line_value o p.x)) same h.0.after);
              slope = subst (LineStands z) same h.0.slope;
            }
      ]
      | inr m ↦ segment_stands z tail ps end a b l reads h.1 m
    ]

lines_kept : (tail : Tail) (p : Piece) → GoesOn tail → line_read tail p ≡ p.line
lines_kept (Periodic rank period rise) p g = refl
lines_kept (Affine rank) p g = refl
lines_kept (Infinite rank) p g = absurd g

-- its line within the sizes of the curve by itself
pub segment_line : (c : SpecCurve) (a b : ℚ) (l : Line) → IsNormal c → GoesOn c.tail → IsElementOf c (Open a (Fin b) l)
    → LineStandsIn (own_sizes c) (own_end c) l
segment_line c a b l n g k =
    let z = own_sizes c in
    let w = own_end c in
    let T = segment_times c a b l n k in
    let S = segment_stands z c.tail c.pieces (pieces_end c.tail) a (Fin b) l (λ p. lines_kept c.tail p g) (own_stands c n.raw).spans k in
    let sizes = own_are_sizes c in
    let P = line_parts z w l.icept l.slope a sizes S.slope T.0.whole (segment_start c a (Fin b) l n k) T.0.by S.value in
    record { sizes = sizes; icept = P.icept_whole; within = P.icept_within; slope = S.slope }

pub lengths_fit : (c : SpecCurve) (a b : ℚ) (l : Line) → IsNormal c → own_gauge c < 2 ^ 120
    → IsElementOf c (Open a (Fin b) l) → LengthsFit a b
lengths_fit c a b l n small k =
    let z = own_sizes c in
    let w = own_end c in
    let A = own_limited c n.raw small in
    let T = segment_times c a b l n k in
    let low = segment_start c a (Fin b) l n k in
    let room = segment_room c a b l n k in
    let late : zero_q ≤ℚ b = le_trans low (le_of_lt room) in
    let some : zero_q <ℚ b -ℚ a = with2 a b (λ o. omega (arith, o.le, o.lt, o.same)) in
    record {
      gap = (times_fit z w b a A T.1.whole T.0.whole late T.1.by low T.0.by).1;
      quotient = small_quotient z w 1 2 a (b -ℚ a) A (omega arith) (omega arith) (not_zero (b -ℚ a) some)
          (time_whole z a T.0.whole)
          (whole_sub (grid_of z) b a (time_whole z b T.1.whole) (time_whole z a T.0.whole))
          (time_within z w a A low T.0.by)
          (subst (λ m. Within m (b -ℚ a)) (two_ones (int (pos z.largest)))
          (within_sub (times_largest 1 z) (times_largest 1 z) b a (time_within z w b A late T.1.by) (time_within z w
          a A low T.0.by)));
    }
