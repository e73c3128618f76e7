-- What the star of an element asks of it, of a finite curve that is nowhere below 0.
use Rattle.std.specs.Prelude.{◌≡◌, pos, List, [], ◌∷◌, map, ◌⊎◌, Option, Some, None}
use Rattle.std.proofs.Common.{arith, sym, refl, ap, ◌∙◌, subst, inl, inr}
use Rattle.rational.specs.Rational.{ℚ, ◌+ℚ◌, ◌*ℚ◌, ◌/ℚ◌, ◌≤ℚ◌, ◌<ℚ◌, int, neg_ℚ}
use Rattle.rational.specs.Extended.{Ext, ◌≤ₑ◌, ◌<ₑ◌}
use Rattle.rational.specs.declared.Extended.TheVariants.{Fin, Inf}
use Rattle.rational.proofs.Linear.{with1, with2, with3}
use Rattle.rational.proofs.Laws.{le_or_lt, lt_irrefl, lt_trans, le_lt_trans, antisym, between, half, half_is, half_pos, div_mul, not_zero, lt_of_mul, mul_lt_mul_right, mul_assoc, mul_comm, one_mul, zero_mul}
use Rattle.rational.proofs.Over.{le_q_out}
use Rattle.rational.proofs.MinMax.{le_q_not}
use Rattle.rational.proofs.ExtendedOrder.{le_ext_trans, same_le_ext}
use Rattle.upp_curve.specs.declared.affine_segment.line.Line.{Line}
use Rattle.upp_curve.specs.declared.affine_segment.line.Piece.{Piece}
use Rattle.upp_curve.specs.declared.affine_segment.element.Element.{Element}
use Rattle.upp_curve.specs.declared.affine_segment.element.Element.TheVariants.{Point, Open}
use Rattle.upp_curve.specs.affine_segment.Values.{line_at}
use Rattle.upp_curve.specs.affine_segment.Cuts.{IsWithin}
use Rattle.upp_curve.specs.affine_segment.Elements.{Covers, level, start_of, element_value}
use Rattle.upp_curve.proofs.affine_segment.ElementValues.{value_in}
use Rattle.upp_curve.specs.declared.curve.Tail.{Tail}
use Rattle.upp_curve.specs.declared.curve.Tail.TheVariants.{Periodic, Affine, Infinite}
use Rattle.upp_curve.specs.Curve.{SpecCurve, value_at}
use Rattle.upp_curve.specs.Curves.{IsCurve}
use Rattle.min_plus.specs.Functions.{zero_q, IsFinite, IsNonnegative}
use Rattle.upp_curve.specs.Normal.{TailFits, IsNormal}
use Rattle.upp_curve.specs.Readable.{EachFits, TailReadable}
use Rattle.upp_curve.specs.affine_segment.Fits.{LineFitsAt}
use Rattle.element_envelope.specs.PieceElements.{next_start, elements_of, Among}
use Rattle.element_envelope.proofs.Members.{among_cases}
use Rattle.element_envelope.proofs.Cover.{head, head_cases, cover, element_times}
use Rattle.subadd_closure.specs.declared.part.Copies.{Copies}
use Rattle.subadd_closure.specs.declared.part.Part.{Part}
use Rattle.subadd_closure.specs.CurveParts.{pieces_end, copies_of, part_of, part_value}
use Rattle.subadd_closure.specs.PartLaws.{EachPart, IsPart}
use Rattle.subadd_closure.proofs.ElementTimes.{starts_nonneg}
use Rattle.subadd_closure.proofs.EachParts.{starts_before, parts_are_parts}
use Rattle.subadd_closure.proofs.LeastParts.{least_below, parts_make_curve}
use Rattle.subadd_closure.specs.Stars.{IsPeriodAndRise, turn_work}
use Rattle.subadd_closure.specs.FoldWork.{copies_work}
use Rattle.subadd_closure.specs.PartStars.{turn_of}
use Rattle.subadd_closure.specs.SegmentLimits.{IsElementOf}
use Rattle.upp_limits.proofs.Copies.{plus_zero, value_zero}

-- ---- values
part_in : (P : Part → Type 0) (tail : Tail) (es : List Element) (e : Element) → EachPart P (map (part_of tail) es)
    → Among e es → P (part_of tail e)
part_in P tail [] e h k = absurd k
part_in P tail (d ∷ ds) e h (inl is) = subst (λ z. P (part_of tail z)) (sym is) h.0
part_in P tail (d ∷ ds) e h (inr k) = part_in P tail ds e h.1 k

-- a part is at most its element
part_under : (e : Element) (o : Option Copies) (t : ℚ) → IsPart record { element = e; copies = o } → zero_q ≤ℚ t
    → part_value record { element = e; copies = o } t ≤ₑ element_value e t
part_under e None t p low = same_le_ext refl
part_under e (Some k) t p low =
    let f = part_value record { element = e; copies = Some k } in
    subst (λ x. x ≤ₑ element_value e t) (ap f (plus_zero t k.period))
    (subst (λ x. f (t +ℚ int (pos 0) *ℚ k.period) ≤ₑ x) (value_zero (element_value e t) k.rise) (p.copied.1.at 0 t
    low))

-- an element of a curve that is nowhere below 0 is nowhere below 0
pub element_nonneg : (c : SpecCurve) (e : Element) → IsNormal c → IsFinite (value_at c) → IsNonnegative (value_at c)
    → IsElementOf c e → IsNonnegative (element_value e)
element_nonneg c e n finite nonneg k t low =
    let es = elements_of c.pieces (pieces_end c.tail) in
    let part = part_in IsPart c.tail es e (parts_are_parts c n) k in
    le_ext_trans (Fin zero_q) (value_at c t) (element_value e t) (nonneg t low)
    (le_ext_trans (value_at c t) (part_value (part_of c.tail e) t) (element_value e t)
    (subst (λ x. x ≤ₑ part_value (part_of c.tail e) t) (sym (parts_make_curve c t n finite low)) (least_below t
    c.tail es e k))
    (part_under e (copies_of c.tail e) t part low))

element_low : (c : SpecCurve) (e : Element) (t : ℚ) → IsNormal c → IsFinite (value_at c) → IsNonnegative (value_at c)
    → IsElementOf c e → Covers e t → zero_q ≤ℚ level e t
element_low c e t n finite nonneg k covers =
    let low = (element_times c.pieces (pieces_end c.tail) t e n.raw.starts (starts_before c.pieces c.tail n.raw.tail)
    k covers).0 in
    subst (λ x. Fin zero_q ≤ₑ x) (value_in e t covers) (element_nonneg c e n finite nonneg k t low)

pub point_start : (c : SpecCurve) (x v : ℚ) → IsNormal c → IsElementOf c (Point x v) → zero_q ≤ℚ x
point_start c x v n k = starts_nonneg c.pieces (pieces_end c.tail) (Point x v) n.raw.starts k

pub point_low : (c : SpecCurve) (x v : ℚ) → IsNormal c → IsFinite (value_at c) → IsNonnegative (value_at c)
    → IsElementOf c (Point x v) → zero_q ≤ℚ v
point_low c x v n finite nonneg k = element_low c (Point x v) x n finite nonneg k refl

-- ---- a line that is nowhere below 0 just after 0 is not below 0 at 0
pub early_time : (to : Ext) → Fin zero_q <ₑ to → (t : ℚ) × IsWithin zero_q to t
early_time Inf h = (int (pos 1), record { past = with1 zero_q (λ o. omega (arith, o.le, o.lt, o.same)); before = tt })
early_time (Fin b) h = let (m, low, high) = between zero_q b h in (m, record { past = low; before = high })

earlier : (to : Ext) (s t : ℚ) → s <ℚ t → Fin t <ₑ to → Fin s <ₑ to
earlier Inf s t less h = tt
earlier (Fin b) s t less h = lt_trans less h

-- where the line k + s t is below 0 at 0, it is so too at a time before m
module _ (k s m : ℚ) (below : k <ℚ zero_q) (past : zero_q <ℚ m) (at : zero_q ≤ℚ k +ℚ s *ℚ m) where
  gain : zero_q <ℚ s *ℚ m
  gain = with2 k (s *ℚ m) (λ o. omega (arith, o.le, o.lt, o.same))

  loss : zero_q <ℚ neg_ℚ k
  loss = with1 k (λ o. omega (arith, o.le, o.lt, o.same))

  abbrev share : ℚ
  share = half (neg_ℚ k) /ℚ (s *ℚ m)

  shared : share *ℚ (s *ℚ m) ≡ half (neg_ℚ k)
  shared = div_mul (half (neg_ℚ k)) (s *ℚ m) (not_zero (s *ℚ m) gain)

  half_less : half (neg_ℚ k) <ℚ s *ℚ m
  half_less =
      let h = half (neg_ℚ k) in
      let is = half_is (neg_ℚ k) in
      let some = half_pos loss in
      with3 k (s *ℚ m) h (λ o. omega (arith, o.le, o.lt, o.same))

  share_some : zero_q <ℚ share
  share_some = lt_of_mul (s *ℚ m) zero_q share gain
      (subst (λ x. x <ℚ share *ℚ (s *ℚ m)) (sym (zero_mul (s *ℚ m))) (subst (λ x. zero_q <ℚ x) (sym shared) (half_pos
      loss)))

  share_less : share <ℚ int (pos 1)
  share_less = lt_of_mul (s *ℚ m) share (int (pos 1)) gain
      (subst (λ x. share *ℚ (s *ℚ m) <ℚ x) (sym (one_mul (s *ℚ m))) (subst (λ x. x <ℚ s *ℚ m) (sym shared) half_less))

  soon : (t : ℚ) × (zero_q <ℚ t) × (t <ℚ m) × (k +ℚ s *ℚ t <ℚ zero_q)
  soon = (
    share *ℚ m,
    subst (λ x. x <ℚ share *ℚ m) (zero_mul m) (mul_lt_mul_right m past share_some),
    subst (λ x. share *ℚ m <ℚ x) (one_mul m) (mul_lt_mul_right m past share_less),
    subst (λ x. k +ℚ x <ℚ zero_q) (sym (moved ∙ shared)) left,
  )
    where
      moved : s *ℚ (share *ℚ m) ≡ share *ℚ (s *ℚ m)
      moved = sym (mul_assoc s share m) ∙ ap (λ x. x *ℚ m) (mul_comm s share) ∙ mul_assoc share s m

      left : k +ℚ half (neg_ℚ k) <ℚ zero_q
      left =
          let h = half (neg_ℚ k) in
          let is = half_is (neg_ℚ k) in
          with2 k h (λ o. omega (arith, o.le, o.lt, o.same))

line_low : (l : Line) (to : Ext) → Fin zero_q <ₑ to → ((t : ℚ) → IsWithin zero_q to t → zero_q ≤ℚ line_at l t)
    → zero_q ≤ℚ l.icept
line_low l to room low = elim (le_or_lt zero_q l.icept) [
  | inl h ↦ h
  | inr h ↦
      let (m, w) = early_time to room in
      let (t, past, less, below) = soon l.icept l.slope m h w.past (low m w) in
      absurd (lt_irrefl zero_q (le_lt_trans (low t record { past = past; before = earlier to t m less w.before })
      below))
]

pub segment_late : (c : SpecCurve) (a : ℚ) (b : Ext) (l : Line) → IsNormal c → IsFinite (value_at c)
    → IsNonnegative (value_at c)
    → IsElementOf c (Open a b l) → (zero_q ≤ℚ l.icept) ⊎ (zero_q <ℚ a)
segment_late c a b l n finite nonneg k = elim (le_or_lt a zero_q) [
  | inl early ↦ inl (by_start (antisym (early, starts_nonneg c.pieces (pieces_end c.tail) (Open a b l) n.raw.starts k)))
  | inr late ↦ inr late
]
  where
    proper : Fin a <ₑ b
    proper = (cover c.pieces (pieces_end c.tail) n.raw.starts (starts_before c.pieces c.tail n.raw.tail)).proper
        (Open a b l) k

    by_start : a ≡ zero_q → zero_q ≤ℚ l.icept
    by_start is = line_low l b (subst (λ x. Fin x <ₑ b) is proper)
        (λ t w. element_low c (Open a b l) t n finite nonneg k (subst (λ x. IsWithin x b t) (sym is) w))

-- ---- a line is readable where it starts
line_reads : (ps : List Piece) (end : Option ℚ) (until : Ext) (a : ℚ) (b : Ext) (l : Line) → EachFits end ps
    → Among (Open a b l) (elements_of ps until) → LineFitsAt a (Some l)
line_reads [] end until a b l h k = absurd k
line_reads (p ∷ ps) end until a b l h k =
    elim (among_cases (Open a b l) (head p.x p.at p.line (next_start ps until)) (elements_of ps until) k) [
      | inl m ↦ elim (head_cases p.x p.at p.line (next_start ps until) (Open a b l) m) [
        | inl point ↦ let (v, at, is) = point in absurd cc
        | inr segment ↦
            let (m, line, is) = segment in
            let from : p.x ≡ a = cc in
            let same : p.line ≡ Some l = cc in
            subst (λ x. LineFitsAt x (Some l)) from (subst (LineFitsAt p.x) same h.0)
      ]
      | inr m ↦ line_reads ps end until a b l h.2 m
    ]

tail_reads : (ps : List Piece) (tail : Tail) (a : ℚ) (b : Ext) (l : Line) → TailReadable ps tail
    → Among (Open a b l) (elements_of ps (pieces_end tail)) → LineFitsAt a (Some l)
tail_reads ps (Periodic rank period rise) a b l h k = line_reads ps (Some (rank +ℚ period)) (Fin (rank +ℚ period)) a
    b l h.lines k
tail_reads ps (Affine rank) a b l h k = line_reads ps None Inf a b l h k
tail_reads ps (Infinite rank) a b l h k = line_reads ps (Some rank) Inf a b l h k

pub segment_reads : (c : SpecCurve) (a : ℚ) (b : Ext) (l : Line) → IsCurve c → IsElementOf c (Open a b l)
    → LineFitsAt a (Some l)
segment_reads c a b l curve k = tail_reads c.pieces c.tail a b l curve.readable k

-- ---- copies
turns_in : (ps : List Piece) (tail : Tail) (e : Element) → TailFits ps tail → TailReadable ps tail
    → IsPeriodAndRise (turn_of (copies_of tail e))
turns_in ps (Periodic rank period rise) e fits reads = elim (le_or_lt rank (start_of e)) [
  | inl late ↦ rw (le_q_out rank (start_of e) late) (fits.some, reads.rate)
  | inr early ↦ rw (le_q_not rank (start_of e) early) tt
]
turns_in ps (Affine rank) e fits reads = tt
turns_in ps (Infinite rank) e fits reads = tt

pub part_turns : (c : SpecCurve) (e : Element) → IsCurve c → IsPeriodAndRise (turn_of (copies_of c.tail e))
part_turns c e curve = turns_in c.pieces c.tail e curve.normal.raw.tail curve.readable

pub turn_works : (o : Option Copies) → turn_work (turn_of o) ≡ copies_work o
turn_works None = refl
turn_works (Some k) = refl
