-- A curve times a factor: its spans, and that below a gauge of 2 ^ 128 every step to them fits.
use Rattle.std.specs.Prelude.{◌≡◌, ℕ, ◌<◌, ◌≤◌, ◌^◌, pos, Bool, true, false, cond, List, [], ◌∷◌, map, length, drop, Option, Some, None}
use Rattle.std.specs.List.{AllByRecursion}
use Rattle.std.proofs.Common.{arith, sym, ap, ap₂, ◌∙◌, refl, subst, drop_of_length-le}
use Rattle.rational.specs.Rational.{ℚ, ◌*ℚ◌, ◌≤ℚ◌, ◌<ℚ◌, int, lt_q}
use Rattle.rational.specs.Extended.{Ext}
use Rattle.rational.specs.declared.Extended.TheVariants.{Fin, Inf}
use Rattle.rational.specs.Grid.{Whole}
use Rattle.rational.proofs.Laws.{le_of_lt}
use Rattle.rational.proofs.MinMax.{lt_q_not}
use Rattle.upp_curve.specs.declared.affine_segment.line.Line.{Line}
use Rattle.upp_curve.specs.declared.affine_segment.line.Piece.{Piece}
use Rattle.upp_curve.specs.affine_segment.Values.{line_value}
use Rattle.upp_curve.specs.declared.curve.Tail.{Tail}
use Rattle.upp_curve.specs.declared.curve.Tail.TheVariants.{Periodic, Affine, Infinite}
use Rattle.upp_curve.specs.Curve.{SpecCurve}
use Rattle.upp_curve.specs.affine_segment.Pieces.{StartsAtZero, RisesFrom, start_after}
use Rattle.min_plus.specs.Pointwise.{scaled}
use Rattle.upp_limits.specs.Periods.{HasPeriod}
use Rattle.upp_limits.specs.Spans.{Span, end_of, line_read, spans}
use Rattle.upp_limits.specs.Limits.{Numbers, Sizes, no_numbers, joined, curve_numbers, gauge_of}
use Rattle.upp_limits.specs.Sized.{AreSizes, Stands, ValueStands, LineStands, SpanStands, TailStands}
use Rattle.upp_limits.specs.Seen.{Knows}
use Rattle.upp_limits.specs.ClosedForm.{span_numbers, copies_numbers, closed_span, closed_spans, closed_numbers, tail_numbers}
use Rattle.upp_limits.specs.Gauges.{scaled_line, scaled_piece, scaled_tail, scaled_curve}
use Rattle.upp_limits.specs.ClosedOperands.{ValueScales, LineScales, PieceScales, TailScales, scaled_span, KnowsTimes, KnowsScaled}
use Rattle.upp_limits.proofs.Every.{every_weaken, every_map_out, every_both}
use Rattle.upp_limits.proofs.PieceCounts.{no_copies}
use Rattle.upp_limits.proofs.PieceLists.{spans_some, spans_none, starts_nonneg, closed_none, one_more}
use Rattle.upp_limits.proofs.JoinedNumbers.{joined_nothing}
use Rattle.upp_limits.proofs.CurveStands.{unrolled_stand, each_stands, tail_stands}
use Rattle.upp_limits.proofs.NarrowSizes.{IsNarrow, narrow_gauge, small_number, small_slope, value_whole, value_within, line_parts}
use Rattle.upp_limits.proofs.KnownNumbers.{curve_known, nonneg_spans}

-- ---- its spans
line_scaled : (b : Bool) (q : ℚ) (l : Option Line) → cond b (scaled_line q l) None ≡ scaled_line q (cond b l None)
line_scaled true q l = refl
line_scaled false q l = refl

read_scaled : (q : ℚ) (tail : Tail) (p : Piece) → line_read (scaled_tail q tail) (scaled_piece q p) ≡ scaled_line q (line_read tail p)
read_scaled q (Periodic rank period rise) p = refl
read_scaled q (Affine rank) p = refl
read_scaled q (Infinite rank) p = line_scaled (lt_q p.x rank) q p.line

end_scaled : (q : ℚ) (tail : Tail) → end_of (scaled_tail q tail) ≡ end_of tail
end_scaled q (Periodic rank period rise) = refl
end_scaled q (Affine rank) = refl
end_scaled q (Infinite rank) = refl

after_scaled : (q : ℚ) (ps : List Piece) (e : Option ℚ) → start_after (map (scaled_piece q) ps) e ≡ start_after ps e
after_scaled q [] e = refl
after_scaled q (p ∷ ps) e = refl

make : ℚ → Ext → Option Line → Option ℚ → Span
make x at line next = record { piece = record { x = x; at = at; line = line }; next = next }

pub scaled_spans : (q : ℚ) (tail : Tail) (ps : List Piece) → spans (scaled_tail q tail) (map (scaled_piece q) ps) ≡ map (scaled_span q) (spans tail ps)
unfolding make
scaled_spans q tail [] = spans_none (scaled_tail q tail) ∙ sym (ap (map (scaled_span q)) (spans_none tail))
scaled_spans q tail (p ∷ ps) =
    spans_some (scaled_tail q tail) (scaled_piece q p) (map (scaled_piece q) ps)
    ∙ ap₂ (λ (s : Span) (r : List Span). s ∷ r)
    (ap₂ (λ (l : Option Line) (e : Option ℚ). make p.x (scaled q p.at) l e) (read_scaled q tail p)
    (ap (start_after (map (scaled_piece q) ps)) (end_scaled q tail) ∙ after_scaled q ps (end_of tail)))
    (scaled_spans q tail ps)
    ∙ sym (ap (map (scaled_span q)) (spans_some tail p ps))

line_same : (q : ℚ) (tail : Tail) (p : Piece) → line_read (scaled_tail q tail) p ≡ line_read tail p
line_same q (Periodic rank period rise) p = refl
line_same q (Affine rank) p = refl
line_same q (Infinite rank) p = refl

-- by the scaled tail the pieces have the same spans
pub same_spans : (q : ℚ) (tail : Tail) (ps : List Piece) → spans (scaled_tail q tail) ps ≡ spans tail ps
unfolding make
same_spans q tail [] = spans_none (scaled_tail q tail) ∙ sym (spans_none tail)
same_spans q tail (p ∷ ps) =
    spans_some (scaled_tail q tail) p ps
    ∙ ap₂ (λ (s : Span) (r : List Span). s ∷ r)
    (ap₂ (λ (l : Option Line) (e : Option ℚ). make p.x p.at l e) (line_same q tail p) (ap (start_after ps) (end_scaled q tail)))
    (same_spans q tail ps)
    ∙ sym (spans_some tail p ps)

-- ---- its numbers
pub scaled_closed : (q end : ℚ) (ps : List Piece) (tail times : Tail) → times ≡ scaled_tail q tail
    → joined (tail_numbers times) (closed_spans times end (map (scaled_span q) (spans times ps))) ≡ closed_numbers end (scaled_curve q record { pieces = ps; tail = tail })
scaled_closed q end ps tail times e =
    ap (λ t. joined (tail_numbers t) (closed_spans t end (map (scaled_span q) (spans t ps)))) e
    ∙ ap (λ ss. joined (tail_numbers (scaled_tail q tail)) (closed_spans (scaled_tail q tail) end ss))
    (ap (map (scaled_span q)) (same_spans q tail ps) ∙ sym (scaled_spans q tail ps))

-- a piece that starts at `end` or later has none below it
pub late_span : (tail : Tail) (end : ℚ) (s : Span) → HasPeriod tail → end ≤ℚ s.piece.x → closed_span tail end s ≡ no_numbers
late_span (Affine rank) end s some h = ap (λ b. cond b (span_numbers s) no_numbers) (lt_q_not s.piece.x end h)
late_span (Infinite rank) end s some h = ap (λ b. cond b (span_numbers s) no_numbers) (lt_q_not s.piece.x end h)
late_span (Periodic rank period rise) end s some h =
    ap₂ (λ (a b : Numbers). cond (lt_q s.piece.x rank) a b)
    (ap (λ b. cond b (span_numbers s) no_numbers) (lt_q_not s.piece.x end h))
    (ap (copies_numbers rise s) (no_copies period end s.piece some h))
    ∙ both (lt_q s.piece.x rank)
  where
    both : (b : Bool) → cond b no_numbers no_numbers ≡ no_numbers
    both true = refl
    both false = refl

pub late_joined : (tail : Tail) (end : ℚ) (s : Span) (n : Numbers) → HasPeriod tail → end ≤ℚ s.piece.x → joined n (closed_span tail end s) ≡ n
late_joined tail end s n some h = ap (joined n) (late_span tail end s some h) ∙ joined_nothing n

-- what is gathered, and the rest
pub scaled_more : (q : ℚ) (tail : Tail) (end : ℚ) (m whole : Numbers) (ss rest : List Span) (s : Span) → ss ≡ s ∷ rest
    → joined m (closed_spans tail end (map (scaled_span q) ss)) ≡ whole
    → joined (joined m (closed_span tail end (scaled_span q s))) (closed_spans tail end (map (scaled_span q) rest)) ≡ whole
scaled_more q tail end m whole ss rest s e h =
    one_more tail end m whole (map (scaled_span q) ss) (map (scaled_span q) rest) (scaled_span q s) (ap (map (scaled_span q)) e) h

pub scaled_done : (q : ℚ) (tail : Tail) (end : ℚ) (m whole : Numbers) (ps : List Piece) (i : ℕ) → length ps ≤ i
    → joined m (closed_spans tail end (map (scaled_span q) (spans tail (drop i ps)))) ≡ whole → m ≡ whole
scaled_done q tail end m whole ps i l h =
    sym (ap (λ xs. joined m (closed_spans tail end (map (scaled_span q) xs))) (ap (spans tail) (drop_of_length-le ps l) ∙ spans_none tail)
    ∙ ap (joined m) (closed_none tail end) ∙ joined_nothing m) ∙ h

-- ---- the steps to it
value_scales : (z : Sizes) (end q : ℚ) (v : Ext) → AreSizes z end → IsNarrow z (2 ^ 122) → ValueStands z (scaled q v) → ValueScales q v
value_scales z end q Inf a n h = tt
value_scales z end q (Fin x) a n h = small_number z end 1 (q *ℚ x) a n (omega arith) (value_whole z (q *ℚ x) h) (value_within z (q *ℚ x) h)

line_scales : (z : Sizes) (end q x : ℚ) (l : Option Line) → AreSizes z end → IsNarrow z (2 ^ 122) → Whole z.dt x → int (pos 0) ≤ℚ x → x ≤ℚ end
    → LineStands z (scaled_line q l) → ValueStands z (line_value (scaled_line q l) x) → LineScales q l
line_scales z end q x None a n w some h s v = tt
line_scales z end q x (Some l) a n w some h s v =
    let p = line_parts z end (q *ℚ l.icept) (q *ℚ l.slope) x a s w some h v in
    record {
      icept = small_number z end 2 (q *ℚ l.icept) a n (omega arith) p.icept_whole p.icept_within;
      slope = small_slope z end (q *ℚ l.slope) a n s;
    }

piece_scales : (z : Sizes) (end q : ℚ) (s : Span) → AreSizes z end → IsNarrow z (2 ^ 122) → int (pos 0) ≤ℚ s.piece.x → s.piece.x ≤ℚ end → SpanStands z (scaled_span q s) → PieceScales q s.piece
piece_scales z end q s a n some h t = record {
  at = value_scales z end q s.piece.at a n t.at;
  line = line_scales z end q s.piece.x s.piece.line a n t.start some h t.slope t.after;
}

tail_scales : (z : Sizes) (end q : ℚ) (tail : Tail) → AreSizes z end → IsNarrow z (2 ^ 122) → TailStands z (scaled_tail q tail) → TailScales q tail
tail_scales z end q (Periodic rank period rise) a n h = small_number z end 1 (q *ℚ rise) a n (omega arith) (value_whole z (q *ℚ rise) h.value) (value_within z (q *ℚ rise) h.value)
tail_scales z end q (Affine rank) a n h = tt
tail_scales z end q (Infinite rank) a n h = tt

pub starts_scaled : (q : ℚ) (ps : List Piece) → StartsAtZero ps → StartsAtZero (map (scaled_piece q) ps)
starts_scaled q [] h = h
starts_scaled q (p ∷ ps) h = (h.0, rises_scaled q p.x ps h.1)
  where
    rises_scaled : (q x : ℚ) (ps : List Piece) → RisesFrom x ps → RisesFrom x (map (scaled_piece q) ps)
    rises_scaled q x [] h = h
    rises_scaled q x (p ∷ ps) h = (h.0, rises_scaled q p.x ps h.1)

pub period_scaled : (q : ℚ) (tail : Tail) → HasPeriod tail → HasPeriod (scaled_tail q tail)
period_scaled q (Periodic rank period rise) h = h
period_scaled q (Affine rank) h = h
period_scaled q (Infinite rank) h = h

-- below a gauge of 2 ^ 128 each piece below `end` can be scaled, and the numbers of the scaled curve are known
pub scaled_known : (z : Sizes) (end q : ℚ) (c : SpecCurve) → AreSizes z end → gauge_of z < 2 ^ 128 → StartsAtZero c.pieces → HasPeriod c.tail
    → Stands z (curve_numbers end (scaled_curve q c)) → KnowsScaled q end c
scaled_known z end q c a small starts some h =
    let k = scaled_curve q c in
    let n = narrow_gauge z end a small in
    let up = scaled_tail q c.tail in
    let p : HasPeriod up = period_scaled q c.tail some in
    let ss = spans c.tail c.pieces in
    let e = scaled_spans q c.tail c.pieces in
    let known : AllByRecursion (λ s. Knows up end (scaled_span q s)) ss =
    every_map_out (Knows up end) (scaled_span q) ss (subst (AllByRecursion (Knows up end)) e (curve_known z end k a small (starts_scaled q c.pieces starts) p h)) in
    let stand : AllByRecursion (λ s. s.piece.x <ℚ end → SpanStands z (scaled_span q s)) ss =
    every_map_out (λ s. s.piece.x <ℚ end → SpanStands z s) (scaled_span q) ss
    (subst (AllByRecursion (λ s. s.piece.x <ℚ end → SpanStands z s)) e (each_stands (SpanStands z) end k p (unrolled_stand z end k h))) in
    let nonneg = nonneg_spans c.tail c.pieces (starts_nonneg c.pieces starts) in
    record {
      tail = tail_scales z end q c.tail a n (tail_stands z end k.pieces k.tail h);
      spans = every_weaken
          (λ s t. record {
            scales = λ l. piece_scales z end q s a n t.0 (le_of_lt l) (t.1.0 l);
            knows = t.1.1;
          })
          ss
          (every_both (λ s. int (pos 0) ≤ℚ s.piece.x) (λ s. (s.piece.x <ℚ end → SpanStands z (scaled_span q s)) × Knows up end (scaled_span q s)) ss nonneg
          (every_both (λ s. s.piece.x <ℚ end → SpanStands z (scaled_span q s)) (λ s. Knows up end (scaled_span q s)) ss stand known));
    }

pub scaled_spans_known : (q end : ℚ) (ps : List Piece) (tail times : Tail) → times ≡ scaled_tail q tail → KnowsScaled q end record { pieces = ps; tail = tail }
    → AllByRecursion (KnowsTimes q times end) (spans times ps)
scaled_spans_known q end ps tail times e k =
    subst (λ t. AllByRecursion (KnowsTimes q t end) (spans t ps)) (sym e)
    (subst (AllByRecursion (KnowsTimes q (scaled_tail q tail) end)) (sym (same_spans q tail ps)) k.spans)
