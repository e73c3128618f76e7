-- Each part of a curve is a proper element from 0 on, read with its copies.
use Rattle.std.specs.Prelude.{◌≡◌, pos, List, [], ◌∷◌, map}
use Rattle.std.proofs.Common.{arith, sym, refl, ap, ◌∙◌, subst, inl, inr}
use Rattle.rational.specs.Rational.{ℚ, ◌+ℚ◌, ◌-ℚ◌, ◌*ℚ◌, ◌≤ℚ◌, ◌<ℚ◌, int}
use Rattle.rational.specs.Whole.{periods}
use Rattle.rational.specs.Extended.{Ext, ◌≤ₑ◌, ◌+ₑ◌}
use Rattle.rational.specs.declared.Extended.TheVariants.{Fin, Inf}
use Rattle.rational.proofs.Linear.{with2, with4}
use Rattle.rational.proofs.Laws.{le_trans, le_or_lt, antisym}
use Rattle.rational.proofs.Over.{le_q_out}
use Rattle.rational.proofs.MinMax.{le_q_not}
use Rattle.rational.proofs.Whole.{periods_unique}
use Rattle.rational.proofs.ExtendedOrder.{same_le_ext, finite_sum, le_inf}
use Rattle.upp_curve.specs.declared.affine_segment.line.Piece.{Piece}
use Rattle.upp_curve.specs.declared.affine_segment.element.Element.{Element}
use Rattle.upp_curve.specs.affine_segment.Elements.{Covers, start_of, element_value}
use Rattle.upp_curve.proofs.affine_segment.ElementValues.{value_cases}
use Rattle.upp_curve.specs.declared.curve.Tail.{Tail}
use Rattle.upp_curve.specs.declared.curve.Tail.TheVariants.{Periodic, Affine, Infinite}
use Rattle.upp_curve.specs.Curve.{SpecCurve, repeated}
use Rattle.min_plus.specs.Functions.{zero_q}
use Rattle.upp_curve.specs.affine_segment.Pieces.{Each, StartsAtZero}
use Rattle.upp_curve.specs.Normal.{TailFits, IsNormal}
use Rattle.element_envelope.specs.PieceElements.{elements_of, StartBefore, Among}
use Rattle.element_envelope.proofs.Cover.{cover, element_times}
use Rattle.min_plus.specs.closure_laws.ClosureLaws.{IsCopy, HasCopies}
use Rattle.subadd_closure.specs.CurveParts.{pieces_end, copies_of, part_of}
use Rattle.subadd_closure.specs.declared.part.Part.{Part}
use Rattle.subadd_closure.specs.PartLaws.{EachPart, IsCopied, IsPart, PartsAreParts}
use Rattle.subadd_closure.proofs.ElementTimes.{starts_nonneg}
use Rattle.element_envelope.proofs.Envelopes.{from_start}

-- ---- what is at t is n periods after what is at u
pub repeated_at : (f : ℚ → Ext) (s d c t : ℚ) → repeated f s d c t ≡ f (t -ℚ int (pos (periods s d t)) *ℚ d) +ₑ Fin (int (pos (periods s d t)) *ℚ c)
unfolding repeated
repeated_at f s d c t = refl

copies_hold : (e : Element) (d c : ℚ) → zero_q <ℚ d → zero_q ≤ℚ start_of e
    → ((t : ℚ) → Covers e t → t <ℚ start_of e +ℚ d)
    → HasCopies (element_value e) d c (repeated (element_value e) (start_of e) d c)
copies_hold e d c some low short = record {
  at = λ n t h. elim (value_cases e t) [
    | inl is ↦ subst (λ z. repeated f s d c (t +ℚ int (pos n) *ℚ d) ≤ₑ z +ₑ Fin (int (pos n) *ℚ c)) (sym is) (le_inf (repeated f s d c (t +ℚ int (pos n) *ℚ d)))
    | inr k ↦
        let from = from_start e t k in
        let until = short t k in
        let u = t +ℚ int (pos n) *ℚ d in
        let N : periods s d u ≡ n = periods_unique s d u n some
        (with4 s d t (int (pos n) *ℚ d) (λ o. omega (arith, o.le, o.lt, o.same)))
        (with4 s d t (int (pos n) *ℚ d) (λ o. omega (arith, o.le, o.lt, o.same))) in
        let back : u -ℚ int (pos n) *ℚ d ≡ t = antisym (with2 t (int (pos n) *ℚ d) (λ o. omega (arith, o.le, o.lt, o.same))) in
        same_le_ext (repeated_at f s d c u ∙ ap (λ m. f (u -ℚ int (pos m) *ℚ d) +ₑ Fin (int (pos m) *ℚ c)) N
        ∙ ap (λ z. f z +ₑ Fin (int (pos n) *ℚ c)) back)
  ];
  only = λ t v h is. one t v is (finite_sum (f (t -ℚ int (pos (periods s d t)) *ℚ d)) (Fin (int (pos (periods s d t)) *ℚ c)) v (sym (repeated_at f s d c t) ∙ is));
}
  where
    s : ℚ
    s = start_of e

    f : ℚ → Ext
    f = element_value e

    covered : (u a : ℚ) → f u ≡ Fin a → Covers e u
    covered u a is = elim (value_cases e u) [
      | inl away ↦ absurd (let both : Inf ≡ Fin a = sym away ∙ is in cc)
      | inr k ↦ k
    ]

    one : (t v : ℚ) → repeated f s d c t ≡ Fin v
        → (a : ℚ) × (b : ℚ) × (f (t -ℚ int (pos (periods s d t)) *ℚ d) ≡ Fin a) × (Fin (int (pos (periods s d t)) *ℚ c) ≡ Fin b)
        → IsCopy f d c t v
    one t v is (a, b, p, q) = record {
      number = periods s d t;
      time = t -ℚ int (pos (periods s d t)) *ℚ d;
      nonneg = le_trans low (from_start e (t -ℚ int (pos (periods s d t)) *ℚ d) (covered (t -ℚ int (pos (periods s d t)) *ℚ d) a p));
      moved = antisym (with2 t (int (pos (periods s d t)) *ℚ d) (λ o. omega (arith, o.le, o.lt, o.same)));
      value = same_le_ext (sym (repeated_at f s d c t) ∙ is);
    }

-- ---- the pieces of a curve start before their end
pub starts_before : (ps : List Piece) (tail : Tail) → TailFits ps tail → StartBefore (pieces_end tail) ps
starts_before ps (Periodic rank period rise) h = each ps h.starts
  where
    each : (ps : List Piece) → Each (λ p. p.x <ℚ rank +ℚ period) ps → StartBefore (Fin (rank +ℚ period)) ps
    each [] h = tt
    each (p ∷ ps) h = (h.0, each ps h.1)
starts_before ps (Affine rank) h = endless ps
  where
    endless : (ps : List Piece) → StartBefore Inf ps
    endless [] = tt
    endless (p ∷ ps) = (tt, endless ps)
starts_before ps (Infinite rank) h = endless ps
  where
    endless : (ps : List Piece) → StartBefore Inf ps
    endless [] = tt
    endless (p ∷ ps) = (tt, endless ps)

-- ---- each part
pub each_part : (P : Part → Type 0) (tail : Tail) (es : List Element) → ((e : Element) → Among e es → P (part_of tail e))
    → EachPart P (map (part_of tail) es)
each_part P tail [] h = tt
each_part P tail (e ∷ es) h = (h e (inl refl), each_part P tail es (λ d k. h d (inr k)))

copies_in : (ps : List Piece) (tail : Tail) (e : Element) → StartsAtZero ps → TailFits ps tail
    → Among e (elements_of ps (pieces_end tail)) → IsCopied (part_of tail e) (copies_of tail e)
copies_in ps (Affine rank) e h fits k = tt
copies_in ps (Infinite rank) e h fits k = tt
copies_in ps (Periodic rank period rise) e h fits k = elim (le_or_lt rank (start_of e)) [
  | inl late ↦ rw (le_q_out rank (start_of e) late) (
    fits.some,
    copies_hold e period rise fits.some (starts_nonneg ps (Fin (rank +ℚ period)) e h k)
        (λ t c. short t late (element_times ps (Fin (rank +ℚ period)) t e h (starts_before ps (Periodic rank period rise) fits) k c)),
  )
  | inr early ↦ rw (le_q_not rank (start_of e) early) tt
]
  where
    short : (t : ℚ) → rank ≤ℚ start_of e → (zero_q ≤ℚ t) × (t <ℚ rank +ℚ period) → t <ℚ start_of e +ℚ period
    short t late (a, b) = with4 t rank period (start_of e) (λ o. omega (arith, o.le, o.lt, o.same))

pub is_part : (c : SpecCurve) (e : Element) → IsNormal c → Among e (elements_of c.pieces (pieces_end c.tail))
    → IsPart (part_of c.tail e)
is_part c e n k = record {
  proper = (cover c.pieces (pieces_end c.tail) n.raw.starts (starts_before c.pieces c.tail n.raw.tail)).proper e k;
  nonneg = starts_nonneg c.pieces (pieces_end c.tail) e n.raw.starts k;
  copied = copies_in c.pieces c.tail e n.raw.starts n.raw.tail k;
}

pub parts_are_parts : PartsAreParts
parts_are_parts c n = each_part IsPart c.tail (elements_of c.pieces (pieces_end c.tail)) (λ e k. is_part c e n k)
