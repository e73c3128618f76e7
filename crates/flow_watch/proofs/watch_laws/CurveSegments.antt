-- The segments of a curve have its values.
use Rattle.std.specs.Prelude.{◌≡◌, List, [], ◌∷◌, Some, None}
use Rattle.std.proofs.Common.{arith, refl, sym, subst, ap, ◌∙◌, inl, inr}
use Rattle.rational.specs.Rational.{ℚ, ◌+ℚ◌, ◌-ℚ◌, ◌*ℚ◌, ◌≤ℚ◌, ◌<ℚ◌}
use Rattle.rational.specs.Extended.{Ext, ◌<ₑ◌, ◌+ₑ◌}
use Rattle.rational.specs.declared.Extended.TheVariants.{Fin}
use Rattle.rational.proofs.Laws.{le_refl, le_trans, le_or_lt, le_of_lt, lt_le_trans, lt_of_not_le, lt_irrefl}
use Rattle.rational.proofs.Linear.{with2}
use Rattle.upp_curve.specs.declared.affine_segment.line.Piece.{Piece}
use Rattle.upp_curve.specs.affine_segment.Values.{line_value}
use Rattle.upp_curve.specs.Curve.{SpecCurve, value_at}
use Rattle.min_plus.specs.Functions.{zero_q, IsFinite}
use Rattle.min_plus.specs.Continuity.{IsContinuous}
use Rattle.upp_curve.specs.affine_segment.Pieces.{Each, HasStart, StartsAtZero, RisesFrom}
use Rattle.upp_curve.specs.affine_segment.Reading.{read, piece_value}
use Rattle.upp_curve.specs.Unrolled.{unroll}
use Rattle.upp_curve.proofs.affine_segment.PieceIn.{piece_in_stop, piece_in_end, value_past, read_go}
use Rattle.upp_curve.proofs.FirstStretch.{at_start}
use Rattle.upp_normal.proofs.Below.{unroll_reads}
use Rattle.upp_normal.proofs.UnrolledPieces.{unroll_starts, unroll_before}
use Rattle.flow_watch.specs.declared.watch_laws.point.Point.{Point}
use Rattle.flow_watch.specs.declared.watch_laws.point.Segment.{Segment}
use Rattle.flow_watch.specs.watch_laws.Shorts.{HasSegment, IsPastEnd, segment_value, IsShortBy}
use Rattle.flow_watch.specs.watch_laws.Laws.{MayServe}
use Rattle.flow_watch.specs.watch_laws.Segments.{number_at, slope_of, next_start, segments, SegmentsTell}
use Rattle.flow_watch.proofs.watch_laws.Breaks.{one_line, is_number}
use Rattle.flow_watch.proofs.watch_laws.Idle.{below_number, number_below}

read_start : (p : Piece) (ps : List Piece) → RisesFrom p.x ps → read (p ∷ ps) p.x ≡ p.at
unfolding read
read_start p ps h = at_start p ps h

read_last : (p : Piece) (t : ℚ) → p.x <ℚ t → read (p ∷ []) t ≡ line_value p.line t
unfolding read
read_last p t h = ap (λ z. piece_value z t) (piece_in_end p t) ∙ value_past p t h

read_stop : (p q : Piece) (qs : List Piece) (t : ℚ) → p.x <ℚ t → t <ℚ q.x → read (p ∷ q ∷ qs) t ≡ line_value p.line t
unfolding read
read_stop p q qs t h k = ap (λ z. piece_value z t) (piece_in_stop p q qs t k) ∙ value_past p t h

-- f is read from these pieces up to `far`
record ReadsFrom (f : ℚ → Ext) (far : ℚ) (p : Piece) (ps : List Piece) : Type 0 where
  starts : RisesFrom p.x ps
  before : Each (λ q. q.x <ℚ far) (p ∷ ps)
  low : zero_q ≤ℚ p.x
  is : (t : ℚ) → p.x ≤ℚ t → t <ℚ far → read (p ∷ ps) t ≡ f t
  finite : IsFinite f
  smooth : IsContinuous f

rest_reads : (f : ℚ → Ext) (far : ℚ) (p q : Piece) (qs : List Piece) → ReadsFrom f far p (q ∷ qs) → ReadsFrom f far q qs
rest_reads f far p q qs R = record {
  starts = R.starts.1;
  before = R.before.1;
  low = le_trans R.low (le_of_lt R.starts.0);
  is = λ t a b. sym (read_go p q qs t a) ∙ R.is t (le_trans (le_of_lt R.starts.0) a) b;
  finite = R.finite;
  smooth = R.smooth;
}

-- the first segment goes with f
first_value : (f : ℚ → Ext) (far : ℚ) (p : Piece) (ps : List Piece) → ReadsFrom f far p ps → number_at (f p.x) ≡ number_at p.at
first_value f far p ps R = ap number_at (sym (R.is p.x (le_refl p.x) R.before.0) ∙ read_start p ps R.starts)

first_line : (f : ℚ → Ext) (far : ℚ) (p : Piece) (ps : List Piece) (y : ℚ) → ReadsFrom f far p ps → p.x <ℚ y
    → ((t : ℚ) → p.x <ℚ t → t <ℚ y → f t ≡ line_value p.line t)
    → (d : ℚ) → p.x ≤ℚ d → d ≤ℚ y → number_at (f d) ≡ number_at p.at +ℚ slope_of p.line *ℚ (d -ℚ p.x)
first_line f far p ps y R l is d a b =
    subst (λ (v : ℚ). number_at (f d) ≡ v +ℚ slope_of p.line *ℚ (d -ℚ p.x)) (first_value f far p ps R) (one_line f p.line p.x y R.finite R.smooth R.low l is d a b)

first_segment : (f : ℚ → Ext) (far : ℚ) (p : Piece) (ps : List Piece) → ReadsFrom f far p ps → (d : ℚ) → p.x ≤ℚ d → ¬ IsPastEnd (next_start ps) d → d ≤ℚ far
    → number_at (f d) ≡ number_at p.at +ℚ slope_of p.line *ℚ (d -ℚ p.x)
first_segment f far p [] R d a n b =
    first_line f far p [] far R R.before.0 (λ t i j. sym (R.is t (le_of_lt i) j) ∙ read_last p t i) d a b
first_segment f far p (q ∷ qs) R d a n b =
    first_line f far p (q ∷ qs) q.x R R.starts.0 (λ t i j. sym (R.is t (le_of_lt i) (lt_le_trans j (le_of_lt R.before.1.0))) ∙ read_stop p q qs t i j) d a (le_of_lt (lt_of_not_le n))

each_segment : (f : ℚ → Ext) (far : ℚ) (p : Piece) (ps : List Piece) → ReadsFrom f far p ps → (s : Segment) → HasSegment s (segments (p ∷ ps)) → (d : ℚ)
    → s.start ≤ℚ d → ¬ IsPastEnd s.end d → d ≤ℚ far → number_at (f d) ≡ segment_value s d
each_segment f far p [] R s h d a n b = elim h [
  | inl e ↦ subst (λ (r : Segment). number_at (f d) ≡ segment_value r d) (sym e) (first_segment f far p [] R d (subst (λ (r : Segment). r.start ≤ℚ d) e a) (subst (λ (r : Segment). ¬ IsPastEnd r.end d) e n) b)
  | inr k ↦ absurd k
]
each_segment f far p (q ∷ qs) R s h d a n b = elim h [
  | inl e ↦ subst (λ (r : Segment). number_at (f d) ≡ segment_value r d) (sym e) (first_segment f far p (q ∷ qs) R d (subst (λ (r : Segment). r.start ≤ℚ d) e a) (subst (λ (r : Segment). ¬ IsPastEnd r.end d) e n) b)
  | inr k ↦ each_segment f far q qs (rest_reads f far p q qs R) s k d a n b
]

-- and each time is one of a segment
record Covers (d : ℚ) (s : Segment) : Type 0 where
  from : s.start ≤ℚ d
  upto : ¬ IsPastEnd s.end d

covered : (p : Piece) (ps : List Piece) (d : ℚ) → p.x ≤ℚ d → (s : Segment) × HasSegment s (segments (p ∷ ps)) × Covers d s
covered p [] d h = (record { start = p.x; end = None; value = number_at p.at; slope = slope_of p.line }, inl refl, record { from = h; upto = λ k. k })
covered p (q ∷ qs) d h = elim (le_or_lt q.x d) [
  | inl l ↦ let (s, has, is) = covered q qs d l in (s, inr has, is)
  | inr l ↦ (record { start = p.x; end = Some q.x; value = number_at p.at; slope = slope_of p.line }, inl refl, record { from = h; upto = λ k. lt_irrefl d (lt_le_trans l k) })
]

-- a start is one of the segment that begins there
covered_at : (p : Piece) (ps : List Piece) (d : ℚ) → RisesFrom p.x ps → HasStart d (p ∷ ps) → (s : Segment) × HasSegment s (segments (p ∷ ps)) × (s.start ≡ d) × Covers d s
covered_at p [] d r h = elim h [
  | inl e ↦ (record { start = p.x; end = None; value = number_at p.at; slope = slope_of p.line }, inl refl, e, record { from = subst (λ x. p.x ≤ℚ x) e (le_refl p.x); upto = λ k. k })
  | inr k ↦ absurd k
]
covered_at p (q ∷ qs) d r h = elim h [
  | inl e ↦ (
    record { start = p.x; end = Some q.x; value = number_at p.at; slope = slope_of p.line },
    inl refl,
    e,
    record { from = subst (λ x. p.x ≤ℚ x) e (le_refl p.x); upto = λ k. lt_irrefl p.x (lt_le_trans r.0 (subst (λ x. q.x ≤ℚ x) (sym e) k)) },
  )
  | inr k ↦ let (s, has, at, is) = covered_at q qs d r.1 k in (s, inr has, at, is)
]

-- ---- a curve
reads_from : (f : ℚ → Ext) (far : ℚ) (p : Piece) (ps : List Piece) → StartsAtZero (p ∷ ps) → Each (λ q. q.x <ℚ far) (p ∷ ps)
    → ((t : ℚ) → zero_q ≤ℚ t → t <ℚ far → read (p ∷ ps) t ≡ f t) → IsFinite f → IsContinuous f → ReadsFrom f far p ps
reads_from f far p ps at0 before is fin smooth = record {
  starts = at0.1;
  before = before;
  low = subst (λ x. zero_q ≤ℚ x) (sym at0.0) (le_refl zero_q);
  is = λ x i j. is x (subst (λ y. y ≤ℚ x) at0.0 i) j;
  finite = fin;
  smooth = smooth;
}

tell : (f : ℚ → Ext) (far : ℚ) (ps : List Piece) (a b : Point) → StartsAtZero ps → Each (λ q. q.x <ℚ far) ps → ((t : ℚ) → zero_q ≤ℚ t → t <ℚ far → read ps t ≡ f t)
    → IsFinite f → IsContinuous f → a.time ≤ℚ b.time → b.time -ℚ a.time ≤ℚ far
    → (((s : Segment) × HasSegment s (segments ps) × IsShortBy s a b) → Fin b.work <ₑ (Fin a.work +ₑ f (b.time -ℚ a.time)))
    × ((Fin b.work <ₑ (Fin a.work +ₑ f (b.time -ℚ a.time))) → (s : Segment) × HasSegment s (segments ps) × IsShortBy s a b)
tell f far [] a b at0 before is fin smooth l m = absurd at0
tell f far (p ∷ ps) a b at0 before is fin smooth l m =
    let t = a.time in
    let u = b.time in
    let d = b.time -ℚ a.time in
    let low : zero_q ≤ℚ d = with2 t u (λ c. omega (arith, c.le, c.lt, c.same)) in
    let at_p : p.x ≤ℚ d = subst (λ x. x ≤ℚ d) (sym at0.0) low in
    let R = reads_from f far p ps at0 before is fin smooth in
    let num = is_number f d fin low in (
      λ h.
          let (s, has, short) = h in
          number_below b.work a.work (f d) (number_at (f d)) num
          (subst (λ v. b.work <ℚ a.work +ℚ v) (sym (each_segment f far p ps R s has d short.from short.upto m)) short.less),
      λ h.
          let (s, has, on) = covered p ps d at_p in (
            s,
            has,
            record {
              from = on.from;
              upto = on.upto;
              less = subst (λ v. b.work <ℚ a.work +ℚ v) (each_segment f far p ps R s has d on.from on.upto m) (below_number b.work a.work (f d) (number_at (f d)) num h);
            },
          ),
    )

pub segments_tell : SegmentsTell
segments_tell c far a b h some l m =
    tell (value_at c) far (unroll c far) a b (unroll_starts c far some h.normal) (unroll_before c far) (λ t i j. unroll_reads c far t h.normal i j) h.finite h.continuous l m

-- ---- a window as long as a start
tell_at : (f : ℚ → Ext) (far : ℚ) (ps : List Piece) (a b : Point) → StartsAtZero ps → Each (λ q. q.x <ℚ far) ps → ((t : ℚ) → zero_q ≤ℚ t → t <ℚ far → read ps t ≡ f t)
    → IsFinite f → IsContinuous f → a.time ≤ℚ b.time → b.time -ℚ a.time ≤ℚ far → HasStart (b.time -ℚ a.time) ps → Fin b.work <ₑ (Fin a.work +ₑ f (b.time -ℚ a.time))
    → (s : Segment) × HasSegment s (segments ps) × (s.start ≡ b.time -ℚ a.time) × IsShortBy s a b
tell_at f far [] a b at0 before is fin smooth l m start h = absurd at0
tell_at f far (p ∷ ps) a b at0 before is fin smooth l m start h =
    let t = a.time in
    let u = b.time in
    let d = b.time -ℚ a.time in
    let low : zero_q ≤ℚ d = with2 t u (λ c. omega (arith, c.le, c.lt, c.same)) in
    let R = reads_from f far p ps at0 before is fin smooth in
    let num = is_number f d fin low in
    let (s, has, at, on) = covered_at p ps d at0.1 start in (
      s,
      has,
      at,
      record {
        from = on.from;
        upto = on.upto;
        less = subst (λ v. b.work <ℚ a.work +ℚ v) (each_segment f far p ps R s has d on.from on.upto m) (below_number b.work a.work (f d) (number_at (f d)) num h);
      },
    )

-- a window that is as long as the start of a segment is short by that segment, where the work in it is less than the curve
pub starts_tell : (c : SpecCurve) (far : ℚ) (a b : Point) → MayServe c → zero_q <ℚ far → a.time ≤ℚ b.time → b.time -ℚ a.time ≤ℚ far → HasStart (b.time -ℚ a.time) (unroll c far)
    → Fin b.work <ₑ (Fin a.work +ₑ value_at c (b.time -ℚ a.time)) → (s : Segment) × HasSegment s (segments (unroll c far)) × (s.start ≡ b.time -ℚ a.time) × IsShortBy s a b
starts_tell c far a b h some l m start less =
    tell_at (value_at c) far (unroll c far) a b (unroll_starts c far some h.normal) (unroll_before c far) (λ t i j. unroll_reads c far t h.normal i j) h.finite h.continuous l m start less
