-- A finite curve is at each time the least of its parts.
use Rattle.std.specs.Prelude.{◌≡◌, ℕ, pos, List, [], ◌∷◌, map, cond}
use Rattle.std.proofs.Common.{arith, sym, refl, ap, ◌∙◌, subst, inl, inr}
use Rattle.rational.specs.Rational.{ℚ, ◌+ℚ◌, ◌-ℚ◌, ◌*ℚ◌, ◌≤ℚ◌, ◌<ℚ◌, int, le_q}
use Rattle.rational.specs.Whole.{periods}
use Rattle.rational.specs.Extended.{Ext, ◌≤ₑ◌, ◌+ₑ◌}
use Rattle.rational.specs.declared.Extended.TheVariants.{Fin, Inf}
use Rattle.rational.proofs.Linear.{with1, with4, with5}
use Rattle.rational.proofs.Laws.{le_or_lt, lt_irrefl, le_lt_trans, le_trans}
use Rattle.rational.proofs.Over.{le_q_out}
use Rattle.rational.proofs.MinMax.{le_q_not}
use Rattle.rational.proofs.Whole.{periods_unique, periods_low, periods_high}
use Rattle.rational.proofs.ExtendedOrder.{le_ext_trans, same_le_ext, finite_sum, le_inf, antisym_ext, min_left, min_right, min_greatest}
use Rattle.upp_curve.specs.declared.affine_segment.line.Piece.{Piece}
use Rattle.upp_curve.specs.declared.affine_segment.element.Element.{Element}
use Rattle.upp_curve.specs.affine_segment.Elements.{Covers, start_of, element_value}
use Rattle.upp_curve.proofs.affine_segment.ElementValues.{value_in, value_cases}
use Rattle.upp_curve.specs.declared.curve.Tail.{Tail}
use Rattle.upp_curve.specs.declared.curve.Tail.TheVariants.{Periodic, Affine, Infinite}
use Rattle.upp_curve.specs.Curve.{repeated, cut, with_tail, value_at}
use Rattle.upp_curve.specs.affine_segment.Reading.{read}
use Rattle.min_plus.specs.Functions.{zero_q, IsFinite}
use Rattle.upp_curve.specs.affine_segment.Pieces.{HasStart, StartsAtZero}
use Rattle.upp_curve.specs.Normal.{TailFits}
use Rattle.upp_curve.specs.Steady.{rank_of}
use Rattle.upp_curve.proofs.Repeats.{repeated_first}
use Rattle.element_envelope.specs.PieceElements.{elements_of, Among}
use Rattle.element_envelope.specs.ConvolutionLaws.{ElementsCover}
use Rattle.element_envelope.proofs.Cover.{cover, element_times}
use Rattle.min_plus.specs.closure_laws.Star.{least_of}
use Rattle.subadd_closure.specs.CurveParts.{pieces_end, part_of, part_value}
use Rattle.subadd_closure.specs.declared.part.Part.{Part}
use Rattle.subadd_closure.specs.PartLaws.{EachPart, PartsMakeCurve}
use Rattle.subadd_closure.proofs.ElementTimes.{times_before}
use Rattle.subadd_closure.proofs.EachParts.{repeated_at, starts_before, each_part}
use Rattle.element_envelope.proofs.Envelopes.{from_start}

-- ---- the least of some parts
least_above : (x : Ext) (t : ℚ) (ps : List Part) → EachPart (λ p. x ≤ₑ part_value p t) ps → x ≤ₑ least_of (map part_value ps) t
least_above x t [] h = le_inf x
least_above x t (p ∷ ps) h = min_greatest (part_value p t) (least_of (map part_value ps) t) x h.0 (least_above x t ps h.1)

pub least_below : (t : ℚ) (tail : Tail) (es : List Element) (e : Element) → Among e es
    → least_of (map part_value (map (part_of tail) es)) t ≤ₑ part_value (part_of tail e) t
least_below t tail [] e h = absurd h
least_below t tail (d ∷ ds) e (inl is) =
    subst (λ z. least_of (map part_value (map (part_of tail) (d ∷ ds))) t ≤ₑ part_value (part_of tail z) t) (sym is)
    (min_left (part_value (part_of tail d) t) (least_of (map part_value (map (part_of tail) ds)) t))
least_below t tail (d ∷ ds) e (inr k) =
    le_ext_trans (least_of (map part_value (map (part_of tail) (d ∷ ds))) t) (least_of (map part_value (map (part_of tail) ds)) t)
    (part_value (part_of tail e) t) (min_right (part_value (part_of tail d) t) (least_of (map part_value (map (part_of tail) ds)) t))
    (least_below t tail ds e k)

-- where f at t is at most what each element's part is there, and a finite value of f is that of a part, it is the least
least_is : (f : Ext) (t : ℚ) (tail : Tail) (es : List Element)
    → ((e : Element) → Among e es → f ≤ₑ part_value (part_of tail e) t)
    → ((q : ℚ) → f ≡ Fin q → (e : Element) × Among e es × (part_value (part_of tail e) t ≡ Fin q))
    → f ≡ least_of (map part_value (map (part_of tail) es)) t
least_is f t tail es under some =
    antisym_ext f (least_of (map part_value (map (part_of tail) es)) t)
    (least_above f t (map (part_of tail) es) (each_part (λ p. f ≤ₑ part_value p t) tail es under))
    (above f refl)
  where
    above : (x : Ext) → f ≡ x → least_of (map part_value (map (part_of tail) es)) t ≤ₑ x
    above Inf is = le_inf (least_of (map part_value (map (part_of tail) es)) t)
    above (Fin q) is =
        let (e, k, v) = some q is in
        subst (λ z. least_of (map part_value (map (part_of tail) es)) t ≤ₑ z) v (least_below t tail es e k)

-- ---- an element is read at t as the pieces are at u
read_as : (ps : List Piece) (end : Ext) (u : ℚ) (e : Element) → ElementsCover ps end → Among e (elements_of ps end) → Covers e u
    → read ps u ≡ element_value e u
read_as ps end u e c k h = c.reads u record { element = e; among = k; covers = h } ∙ sym (value_in e u h)

-- ---- an affine tail
affine_parts : (ps : List Piece) (rank t : ℚ) → ElementsCover ps Inf → zero_q ≤ℚ t
    → read ps t ≡ least_of (map part_value (map (part_of (Affine rank)) (elements_of ps Inf))) t
affine_parts ps rank t c low = least_is (read ps t) t (Affine rank) (elements_of ps Inf)
    (λ e k. elim (value_cases e t) [
      | inl away ↦ subst (λ z. read ps t ≤ₑ z) (sym away) (le_inf (read ps t))
      | inr h ↦ same_le_ext (read_as ps Inf t e c k h)
    ])
    (λ q is. let a = c.found t q low tt is in
    (a.element, a.among, sym (read_as ps Inf t a.element c a.among a.covers) ∙ is))

-- ---- a periodic tail
module _ (ps : List Piece) (rank d r : ℚ) (zeroth : StartsAtZero ps) (fits : TailFits ps (Periodic rank d r))
    (at_rank : HasStart rank ps) (t : ℚ) (low : zero_q ≤ℚ t) where
  abbrev end : Ext
  end = Fin (rank +ℚ d)

  covers_all : ElementsCover ps end
  covers_all = cover ps end zeroth (starts_before ps (Periodic rank d r) fits)

  abbrev left : ℚ
  left = t -ℚ int (pos (periods rank d t)) *ℚ d

  -- an element that starts before the rank, and one with copies
  once : (e : Element) → start_of e <ℚ rank → part_value (part_of (Periodic rank d r) e) t ≡ element_value e t
  once e early = rw (le_q_not rank (start_of e) early) refl

  copied : (e : Element) → rank ≤ℚ start_of e → part_value (part_of (Periodic rank d r) e) t ≡ repeated (element_value e) (start_of e) d r t
  copied e late = rw (le_q_out rank (start_of e) late) refl

  before : (u : ℚ) (e : Element) → Among e (elements_of ps end) → Covers e u → u <ℚ rank +ℚ d
  before u e k h = (element_times ps end u e zeroth (starts_before ps (Periodic rank d r) fits) k h).1

  -- n periods after one of its times
  same_copy : (e : Element) (n : ℕ) → Among e (elements_of ps end) → rank ≤ℚ start_of e → Covers e (t -ℚ int (pos n) *ℚ d)
      → (periods rank d t ≡ n) × (periods (start_of e) d t ≡ n)
  same_copy e n k late h =
      let some = fits.some in
      let a = from_start e (t -ℚ int (pos n) *ℚ d) h in
      let b = before (t -ℚ int (pos n) *ℚ d) e k h in (
        periods_unique rank d t n some
            (with5 rank d t (int (pos n) *ℚ d) (start_of e) (λ o. omega (arith, o.le, o.lt, o.same)))
            (with5 rank d t (int (pos n) *ℚ d) (start_of e) (λ o. omega (arith, o.le, o.lt, o.same))),
        periods_unique (start_of e) d t n some
            (with5 rank d t (int (pos n) *ℚ d) (start_of e) (λ o. omega (arith, o.le, o.lt, o.same)))
            (with5 rank d t (int (pos n) *ℚ d) (start_of e) (λ o. omega (arith, o.le, o.lt, o.same))),
      )

  same_value : (e : Element) (n : ℕ) → Among e (elements_of ps end) → rank ≤ℚ start_of e → Covers e (t -ℚ int (pos n) *ℚ d)
      → repeated (read ps) rank d r t ≡ repeated (element_value e) (start_of e) d r t
  same_value e n k late h =
      let (p, q) = same_copy e n k late h in
      repeated_at (read ps) rank d r t ∙ ap (λ m. read ps (t -ℚ int (pos m) *ℚ d) +ₑ Fin (int (pos m) *ℚ r)) p
      ∙ ap (λ z. z +ₑ Fin (int (pos n) *ℚ r)) (read_as ps end (t -ℚ int (pos n) *ℚ d) e covers_all k h)
      ∙ sym (repeated_at (element_value e) (start_of e) d r t ∙ ap (λ m. element_value e (t -ℚ int (pos m) *ℚ d) +ₑ Fin (int (pos m) *ℚ r)) q)

  first_value : (e : Element) → Among e (elements_of ps end) → Covers e t → repeated (read ps) rank d r t ≡ element_value e t
  first_value e k h = repeated_first (read ps) rank d r t fits.some (before t e k h) ∙ read_as ps end t e covers_all k h

  under : (e : Element) → Among e (elements_of ps end) → repeated (read ps) rank d r t ≤ₑ part_value (part_of (Periodic rank d r) e) t
  under e k = elim (le_or_lt rank (start_of e)) [
    | inl late ↦ subst (λ z. repeated (read ps) rank d r t ≤ₑ z) (sym (copied e late)) (elim (value_cases e (t -ℚ int (pos (periods (start_of e) d t)) *ℚ d)) [
      | inl away ↦ subst (λ z. repeated (read ps) rank d r t ≤ₑ z) (sym (repeated_at (element_value e) (start_of e) d r t ∙ ap (λ z. z +ₑ Fin (int (pos (periods (start_of e) d t)) *ℚ r)) away)) (le_inf (repeated (read ps) rank d r t))
      | inr h ↦ same_le_ext (same_value e (periods (start_of e) d t) k late h)
    ])
    | inr early ↦ subst (λ z. repeated (read ps) rank d r t ≤ₑ z) (sym (once e early)) (elim (value_cases e t) [
      | inl away ↦ subst (λ z. repeated (read ps) rank d r t ≤ₑ z) (sym away) (le_inf (repeated (read ps) rank d r t))
      | inr h ↦ same_le_ext (first_value e k h)
    ])
  ]

  some_first : (q : ℚ) → t <ℚ rank → repeated (read ps) rank d r t ≡ Fin q
      → (e : Element) × Among e (elements_of ps end) × (part_value (part_of (Periodic rank d r) e) t ≡ Fin q)
  some_first q early is =
      let some = fits.some in
      let soon : t <ℚ rank +ℚ d = with4 t rank d zero_q (λ o. omega (arith, o.le, o.lt, o.same)) in
      let a = covers_all.found t q low soon (sym (repeated_first (read ps) rank d r t some soon) ∙ is) in
      let from = le_lt_trans (from_start a.element t a.covers) early in
      (a.element, a.among, once a.element from ∙ sym (first_value a.element a.among a.covers) ∙ is)

  some_later : (q : ℚ) → rank ≤ℚ t → repeated (read ps) rank d r t ≡ Fin q
      → (e : Element) × Among e (elements_of ps end) × (part_value (part_of (Periodic rank d r) e) t ≡ Fin q)
  some_later q past is =
      let some = fits.some in
      let nonneg = fits.nonneg in
      let down = periods_low rank d t some past in
      let up = periods_high rank d t some in
      let after : rank ≤ℚ left = with4 rank d t (int (pos (periods rank d t)) *ℚ d) (λ o. omega (arith, o.le, o.lt, o.same)) in
      let soon : left <ℚ rank +ℚ d = with4 rank d t (int (pos (periods rank d t)) *ℚ d) (λ o. omega (arith, o.le, o.lt, o.same)) in
      let (x, y, v, w) = finite_sum (read ps left) (Fin (int (pos (periods rank d t)) *ℚ r)) q (sym (repeated_at (read ps) rank d r t) ∙ is) in
      let a = covers_all.found left x (le_trans nonneg after) soon v in
      elim (le_or_lt rank (start_of a.element)) [
        | inl late ↦ (a.element, a.among, copied a.element late ∙ sym (same_value a.element (periods rank d t) a.among late a.covers) ∙ is)
        | inr early ↦ absurd (lt_irrefl rank (le_lt_trans after (times_before ps end a.element rank left zeroth at_rank a.among early a.covers)))
      ]

  pub periodic_parts : repeated (read ps) rank d r t ≡ least_of (map part_value (map (part_of (Periodic rank d r)) (elements_of ps end))) t
  periodic_parts = least_is (repeated (read ps) rank d r t) t (Periodic rank d r) (elements_of ps end) under
      (λ q is. elim (le_or_lt rank t) [ inl past ↦ some_later q past is | inr early ↦ some_first q early is ])

-- ---- a curve
-- an infinite tail has no finite value after its rank
pub not_finite : (ps : List Piece) (rank : ℚ) → zero_q ≤ℚ rank → ¬ (IsFinite (λ t. cut (read ps) rank t))
unfolding cut
not_finite ps rank low h =
    let (v, is) = h (rank +ℚ int (pos 1)) (with1 rank (λ o. omega (arith, o.le, o.lt, o.same))) in
    let past : rank <ℚ rank +ℚ int (pos 1) = with1 rank (λ o. omega (arith, o.le, o.lt, o.same)) in
    let no : cond (le_q (rank +ℚ int (pos 1)) rank) (read ps (rank +ℚ int (pos 1))) Inf ≡ Inf = rw (le_q_not (rank +ℚ int (pos 1)) rank past) refl in
    let both : Inf ≡ Fin v = sym no ∙ is in
    cc

by_tail : (ps : List Piece) (tail : Tail) (t : ℚ) → StartsAtZero ps → TailFits ps tail → HasStart (rank_of tail) ps
    → IsFinite (λ u. with_tail (read ps) tail u) → zero_q ≤ℚ t
    → with_tail (read ps) tail t ≡ least_of (map part_value (map (part_of tail) (elements_of ps (pieces_end tail)))) t
by_tail ps (Periodic rank d r) t zeroth fits start finite low = periodic_parts ps rank d r zeroth fits start t low
by_tail ps (Affine rank) t zeroth fits start finite low =
    affine_parts ps rank t (cover ps Inf zeroth (starts_before ps (Affine rank) fits)) low
by_tail ps (Infinite rank) t zeroth fits start finite low = absurd (not_finite ps rank fits.nonneg finite)

pub parts_make_curve : PartsMakeCurve
unfolding value_at
parts_make_curve c t n finite low = by_tail c.pieces c.tail t n.raw.starts n.raw.tail n.rank_is_start finite low
