-- The value of a curve at a time of a window, by the pieces as they are kept.
use Rattle.std.specs.Prelude.{◌≡◌, ◌↔◌, pos, true, IsTrue, List, [], ◌∷◌}
use Rattle.std.specs.List.{AllByRecursion}
use Rattle.std.proofs.Common.{arith, refl, sym, subst, ap, ◌∙◌, inl, inr}
use Rattle.rational.specs.Rational.{ℚ, int, ◌+ℚ◌, ◌-ℚ◌, ◌*ℚ◌, ◌≤ℚ◌, ◌<ℚ◌, neg_ℚ}
use Rattle.rational.specs.Ratio.{SumFits}
use Rattle.rational.specs.Grid.{Whole}
use Rattle.rational.specs.Extended.{Ext, ◌+ₑ◌}
use Rattle.rational.specs.declared.Extended.TheVariants.{Fin, Inf}
use Rattle.rational.proofs.Laws.{le_refl, le_of_lt, le_or_lt, le_trans}
use Rattle.rational.proofs.Grid.{whole_sub}
use Rattle.rational.proofs.Linear.{with2, with3}
use Rattle.upp_curve.specs.declared.affine_segment.line.Piece.{Piece}
use Rattle.upp_curve.specs.affine_segment.Pieces.{Each, StartsAtZero}
use Rattle.upp_curve.specs.affine_segment.Reading.{piece_in, read}
use Rattle.upp_curve.specs.affine_segment.Fits.{ReadFits}
use Rattle.upp_curve.proofs.affine_segment.PieceOrder.{each_map}
use Rattle.upp_curve.specs.declared.curve.Tail.{Tail}
use Rattle.upp_curve.specs.declared.curve.Tail.TheVariants.{Periodic, Affine, Infinite}
use Rattle.upp_curve.specs.Curve.{SpecCurve, value_at}
use Rattle.upp_curve.specs.Curves.{IsCurve}
use Rattle.upp_curve.specs.Normal.{IsNormal}
use Rattle.upp_curve.specs.Readable.{SumFitsAt, TailReadable}
use Rattle.upp_curve.specs.Steady.{rank_of}
use Rattle.upp_curve.proofs.OneForm.{infinite_value}
use Rattle.upp_curve.proofs.Repeats.{repeated_first, repeated_next}
use Rattle.upp_curve.proofs.SteadyTimes.{curve_rank}
use Rattle.upp_limits.specs.Limits.{Sizes, curve_numbers, stored_period, stored_rise}
use Rattle.upp_limits.specs.Sized.{IsValue, Stands}
use Rattle.upp_limits.specs.Spans.{once_below, piece_read, span_below, spans, spans_below}
use Rattle.upp_limits.specs.Periods.{HasPeriod}
use Rattle.upp_limits.proofs.CurveStands.{once_out}
use Rattle.upp_limits.proofs.Every.{every_left, every_weaken}
use Rattle.upp_limits.proofs.Operands.{curve_period}
use Rattle.upp_limits.proofs.PieceLists.{starts_nonneg}
use Rattle.upp_normal.specs.Ahead.{GridValue, HasWindow, IsOverBy, IsTimeIn}
use Rattle.upp_normal.specs.Operand.{AreLimited}
use Rattle.upp_normal.specs.Unrolling.{IsOperandTo}
use Rattle.upp_normal.proofs.AnswerRoom.{operand_line_fits, stands_operand_value, values_fit}
use Rattle.upp_normal.proofs.NormaliseRoomy.{each_in}
use Rattle.upp_normal.proofs.StretchSizes.{times_fit}
use Rattle.upp_normal.proofs.UnrolledPieces.{IsGiven, PieceStands, all_read, each_given, each_nonneg, each_of_spans, each_span_out, each_with, no_later, operand_line, pieces_stand}
use Rattle.flow_watch.specs.curve_values.Early.{IsEarly}

-- ---- early times
pub early_still : (tail : Tail) (t : ℚ) → ((rank period rise : ℚ) → tail ≡ Periodic rank period rise → ⊥) → IsEarly tail t
early_still (Periodic rank d c) t h = absurd (h rank d c refl)
early_still (Affine rank) t h = tt
early_still (Infinite rank) t h = tt

pub early_always : (tail : Tail) (t : ℚ) → ((rank period rise : ℚ) → tail ≡ Periodic rank period rise → ⊥) → IsTrue true ↔ IsEarly tail t
early_always tail t h = (λ _. early_still tail t h, λ _. refl)

pub late_end : (tail : Tail) (rank period rise t : ℚ) → tail ≡ Periodic rank period rise → ¬ IsEarly tail t → rank +ℚ period ≤ℚ t
late_end tail rank period rise t e h = elim (le_or_lt (rank +ℚ period) t) [
  | inl l ↦ l
  | inr l ↦ absurd (h (subst (λ (k : Tail). IsEarly k t) (sym e) l))
]

-- ---- the pieces as they are kept
itself : (P : Piece → Type 0) (rank d c end : ℚ) (p : Piece) → IsGiven P rank d c end p → p.x <ℚ end → P p
itself P rank d c end p g l = elim (le_or_lt rank p.x) [
  | inr k ↦ g.once k l
  | inl k ↦
      let x = p.x in
      let none : p.x +ℚ int (pos 0) *ℚ d ≡ p.x = with2 x d (λ k. omega (arith, k.le, k.lt, k.same)) in
      subst P (no_later d c p) (g.again k 0 (subst (λ y. y <ℚ end) (sym none) l))
]

stored_by : (P : Piece → Type 0) (ps : List Piece) (tail : Tail) (end : ℚ) → IsNormal record { pieces = ps; tail = tail }
    → AllByRecursion (λ s. AllByRecursion (λ s. P s.piece) (span_below tail end s)) (spans tail ps) → Each (λ p. p.x <ℚ end → P p) ps
stored_by P ps (Periodic rank d c) end n h =
    each_map (IsGiven P rank d c end) (λ p. p.x <ℚ end → P p) (itself P rank d c end) ps (each_given P ps rank d c end n.raw.tail.some h)
stored_by P ps (Affine rank) end n h =
    let k = every_weaken {P = λ s. AllByRecursion (λ s. P s.piece) (once_below end s)} {Q = λ s. s.piece.x <ℚ end → P s.piece}
    (λ s g l. once_out (λ s. P s.piece) end s l g) (spans (Affine rank) ps) h in
    each_of_spans (λ p. p.x <ℚ end → P p) (Affine rank) ps k
stored_by P ps (Infinite rank) end n h =
    let F = λ (p : Piece). p.x <ℚ end → P p in
    let k = every_weaken {P = λ s. AllByRecursion (λ s. P s.piece) (once_below end s)} {Q = λ s. F s.piece}
    (λ s g l. once_out (λ s. P s.piece) end s l g) (spans (Infinite rank) ps) h in
    each_with (λ p. F (piece_read (Infinite rank) p)) (λ p. piece_read (Infinite rank) p ≡ p) F (λ p f e. subst F e f) ps
    (each_of_spans F (Infinite rank) ps k) (all_read rank ps n.raw.starts n.raw.tail.starts n.tail)

-- what holds of the spans below a time holds of each piece that starts before it
stored_each : (P : Piece → Type 0) (c : SpecCurve) (end : ℚ) → IsNormal c → AllByRecursion (λ s. P s.piece) (spans_below c end) → Each (λ p. p.x <ℚ end → P p) c.pieces
stored_each P c end n h = stored_by P c.pieces c.tail end n (each_span_out P c end h)

-- the steps of reading them at the time fit
pub stored_fits : (t : ℚ) (c : SpecCurve) → IsCurve c → IsOperandTo t c → ReadFits c.pieces t
stored_fits t c C O = go c.pieces C.normal.raw.starts (stored_each (PieceStands O.sizes) c t C.normal (pieces_stand O.sizes t c O.stands))
  where
    go : (ps : List Piece) → StartsAtZero ps → Each (λ p. p.x <ℚ t → PieceStands O.sizes p) ps → ReadFits ps t
    go [] s h = tt
    go (p ∷ ps) s h = λ l.
        let z = O.sizes in
        let A = O.limited in
        let q = piece_in p ps t in
        let low = each_nonneg (p ∷ ps) (starts_nonneg (p ∷ ps) s) in
        let from = each_in (λ q. int (pos 0) ≤ℚ q.x) p ps t low.0 low.1 in
        let S = each_in (λ q. q.x <ℚ t → PieceStands z q) p ps t h.0 h.1 l in
        operand_line_fits z t t q.line A (operand_line z t q.line q.x A.sizes S.start from (le_of_lt l) S.after S.slope) A.sizes.window A.some (le_refl t)

-- ---- the value at a time
-- before a first period ends, and where there is none, by the pieces as they are kept
early_by : (ps : List Piece) (tail : Tail) (t : ℚ) → IsNormal record { pieces = ps; tail = tail } → IsEarly tail t → read ps t ≡ value_at record { pieces = ps; tail = tail } t
unfolding value_at
early_by ps (Periodic rank d c) t n h = sym (repeated_first (read ps) rank d c t n.raw.tail.some h)
early_by ps (Affine rank) t n h = refl
early_by ps (Infinite rank) t n h = sym (infinite_value ps rank t n.raw.tail.starts n.tail)

pub early_value : (c : SpecCurve) (t : ℚ) → IsCurve c → IsEarly c.tail t → read c.pieces t ≡ value_at c t
early_value c t C h = early_by c.pieces c.tail t C.normal h

-- from the rank on, a period later it is risen once
again_by : (ps : List Piece) (tail : Tail) (rank d c t : ℚ) → tail ≡ Periodic rank d c → IsNormal record { pieces = ps; tail = tail } → rank ≤ℚ t
    → value_at record { pieces = ps; tail = tail } (t +ℚ d) ≡ value_at record { pieces = ps; tail = tail } t +ₑ Fin c
unfolding value_at
again_by ps tail rank d c t e n h =
    let Rule : Tail → Type 0 = λ k. IsNormal record { pieces = ps; tail = k } → value_at record { pieces = ps; tail = k } (t +ℚ d) ≡ value_at record { pieces = ps; tail = k } t +ₑ Fin c in
    subst Rule (sym e) (λ m. repeated_next (read ps) rank d c t m.raw.tail.some h) n

-- the end of the first period fits
pub end_fits : (c : SpecCurve) (rank period rise : ℚ) → IsCurve c → c.tail ≡ Periodic rank period rise → SumFits rank period
end_fits c rank period rise C e = (subst (TailReadable c.pieces) e C.readable).end

-- ---- the numbers of a tail that repeats
record IsRepeat (z : Sizes) (rank period rise : ℚ) : Type 0 where
  from_zero : int (pos 0) ≤ℚ rank
  period_whole : Whole z.dt period
  some : int (pos 0) <ℚ period
  rise_is : IsValue z rise

repeat_of : (z : Sizes) (t rank period rise : ℚ) (c : SpecCurve) → IsCurve c → Stands z (curve_numbers t c) → c.tail ≡ Periodic rank period rise → IsRepeat z rank period rise
repeat_of z t rank period rise c C S e =
    let periods = subst (λ (k : Tail). AllByRecursion (Whole z.dt) (stored_period k)) e (every_left (Whole z.dt) (stored_period c.tail) _ S.times.1) in
    let rises = subst (λ (k : Tail). AllByRecursion (IsValue z) (stored_rise k)) e (every_left (IsValue z) (stored_rise c.tail) _ S.values) in
    record {
      from_zero = subst (λ (k : Tail). int (pos 0) ≤ℚ rank_of k) e (curve_rank c C);
      period_whole = periods.0;
      some = subst HasPeriod e (curve_period c C);
      rise_is = rises.0;
    }

rise_fits : (z : Sizes) (t rise : ℚ) (v : Ext) → AreLimited z t → GridValue z v → IsValue z rise → SumFitsAt v rise
rise_fits z t rise Inf A V R = tt
rise_fits z t rise (Fin v) A V R = let both = values_fit z t v rise A V (stands_operand_value z (Fin rise) R) in both.0

-- a period before a time by which a first period has ended
pub record IsEarlier (z : Sizes) (c : SpecCurve) (t period rise : ℚ) : Type 0 where
  pub back : SumFits t (neg_ℚ period)
  pub window : HasWindow z t c
  pub time : IsTimeIn z t (t -ℚ period)
  pub room : (v : Ext) → GridValue z v → SumFitsAt v rise
  pub is : value_at c (t -ℚ period) +ₑ Fin rise ≡ value_at c t

pub earlier : (t rank period rise : ℚ) (c : SpecCurve) → IsCurve c → (O : IsOperandTo t c) → c.tail ≡ Periodic rank period rise → rank +ℚ period ≤ℚ t → IsEarlier O.sizes c t period rise
earlier t rank period rise c C O e h =
    let z = O.sizes in
    let A = O.limited in
    let R = repeat_of z t rank period rise c C O.stands e in
    let from = R.from_zero in
    let gap = R.some in
    let u = t -ℚ period in
    let past : rank ≤ℚ u = with3 rank period t (λ c. omega (arith, c.le, c.lt, c.same)) in
    let low : int (pos 0) ≤ℚ u = le_trans from past in
    let before : u <ℚ t = with2 period t (λ c. omega (arith, c.le, c.lt, c.same)) in
    let most : period ≤ℚ t = with3 rank period t (λ c. omega (arith, c.le, c.lt, c.same)) in
    let same : u +ℚ period ≡ t = with2 period t (λ c. omega (arith, c.le, c.lt, c.same)) in
    let next = again_by c.pieces c.tail rank period rise u e C.normal past in
    record {
      back = (times_fit z t t period A A.sizes.window R.period_whole A.some (le_refl t) (le_of_lt gap) most).1;
      window = record { curve = C; limited = A; stands = O.stands; over = subst (IsOverBy t) (sym e) h };
      time = record { whole = whole_sub z.dt t period A.sizes.window R.period_whole; nonneg = low; before = before };
      room = λ v V. rise_fits z t rise v A V R.rise_is;
      is = sym next ∙ ap (value_at c) same;
    }
