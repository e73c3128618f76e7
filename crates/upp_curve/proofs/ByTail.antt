-- The value of a curve from its fields, by its tail; and that a bucket is normal.
use Rattle.std.specs.Prelude.{◌≡◌, pos, List, Some, None}
use Rattle.std.proofs.Common.{arith, sym, ap, ap₂, ◌∙◌, refl, subst, inl, Ordering, Greater, true≢false, is_some}
use Rattle.rational.specs.Rational.{ℚ, ◌+ℚ◌, ◌-ℚ◌, ◌*ℚ◌, ◌≤ℚ◌, ◌<ℚ◌, int}
use Rattle.rational.specs.Ratio.{cmp_q}
use Rattle.rational.specs.Whole.{periods}
use Rattle.rational.proofs.Whole.{periods_low}
use Rattle.rational.proofs.Laws.{le_refl, le_of_lt}
use Rattle.rational.proofs.Linear.{with3, with4}
use Rattle.rational.proofs.Comparison.{cmp_greater, cmp_not_greater}
use Rattle.rational.proofs.Over.{le_q_out}
use Rattle.rational.specs.Extended.{Ext, ◌+ₑ◌}
use Rattle.rational.specs.declared.Extended.TheVariants.{Fin, Inf}
use Rattle.upp_curve.specs.declared.affine_segment.line.Line.{Line}
use Rattle.upp_curve.specs.declared.affine_segment.line.Piece.{Piece}
use Rattle.upp_curve.specs.declared.curve.Tail.{Tail}
use Rattle.upp_curve.specs.declared.curve.Tail.TheVariants.{Periodic}
use Rattle.upp_curve.specs.Curve.{SpecCurve, value_at, with_tail, repeated, cut}
use Rattle.upp_curve.specs.affine_segment.Reading.{read}
use Rattle.upp_curve.specs.Normal.{IsNormal, TailFits}
use Rattle.upp_curve.specs.Kinds.{bucket}
use Rattle.upp_curve.specs.Steps.{IsWideAt, IsWideValueAt}
use Rattle.fraction128.specs.declared.fault.Wide.{Wide}
use Rattle.rational.proofs.MinMax.{le_q_not}
use Rattle.upp_curve.proofs.Repeats.{repeated_first}

-- the value, from the pieces and the kind of tail that a match found
pub value_of : (c : SpecCurve) (ps : List Piece) (tail k : Tail) (t : ℚ) → record { pieces = ps; tail = tail } ≡ c → tail ≡ k → with_tail (read ps) k t ≡ value_at c t
unfolding value_at
value_of c ps tail k t v e = sym (ap (λ z. with_tail (read ps) z t) e) ∙ ap (λ s. value_at s t) v

pub cut_late : (f : ℚ → Ext) (rank t : ℚ) (r : Ordering) → r ≡ cmp_q t rank → r ≡ Greater → Inf ≡ cut f rank t
unfolding cut
cut_late f rank t r e h = rw (le_q_not t rank (cmp_greater t rank (sym e ∙ h))) refl

pub cut_early : (f : ℚ → Ext) (rank t : ℚ) (r : Ordering) → r ≡ cmp_q t rank → (r ≡ Greater → ⊥) → f t ≡ cut f rank t
unfolding cut
cut_early f rank t r e h = rw (le_q_out t rank (cmp_not_greater t rank (λ k. h (e ∙ k)))) refl

pub repeated_early : (f : ℚ → Ext) (ps : List Piece) (rank period rise t : ℚ) (r : Ordering) (tail : Tail) → tail ≡ Periodic rank period rise → TailFits ps tail
    → r ≡ cmp_q t rank → (r ≡ Greater → ⊥) → f t ≡ repeated f rank period rise t
repeated_early f ps rank period rise t r tail k fits e h =
    let some : int (pos 0) <ℚ period = (subst (TailFits ps) k fits).some in
    let l = cmp_not_greater t rank (λ k. h (e ∙ k)) in
    sym (repeated_first f rank period rise t some (with3 t rank period (λ c. omega (arith, c.le, c.lt, c.same))))

-- the whole periods taken off a time past the rank leave one at the rank or later
pub early_nonneg : (rank period t n back early : ℚ) → int (pos 0) ≤ℚ rank → int (pos 0) <ℚ period → rank <ℚ t
    → n ≡ int (pos (periods rank period t)) → back ≡ n *ℚ period → early ≡ t -ℚ back → int (pos 0) ≤ℚ early
early_nonneg rank period t n back early h some past p q r =
    let low = periods_low rank period t some (le_of_lt past) in
    let is : back ≡ int (pos (periods rank period t)) *ℚ period = q ∙ ap (λ m. m *ℚ period) p in
    let low2 : rank +ℚ back ≤ℚ t = subst (λ z. rank +ℚ z ≤ℚ t) (sym is) low in
    with4 rank back early t (λ c. omega (arith, c.le, c.lt, c.same))

pub later_value : (f : ℚ → Ext) (rank period rise t n back early by : ℚ) (base : Ext)
    → n ≡ int (pos (periods rank period t)) → back ≡ n *ℚ period → early ≡ t -ℚ back → base ≡ f early → by ≡ n *ℚ rise
    → base +ₑ Fin by ≡ repeated f rank period rise t
unfolding repeated
later_value f rank period rise t n back early by base p q r s w =
    ap₂ (λ (x : Ext) (y : ℚ). x +ₑ Fin y) (s ∙ ap f (r ∙ ap (λ z. t -ℚ z) (q ∙ ap (λ m. m *ℚ period) p))) (w ∙ ap (λ m. m *ℚ rise) p)

pub some_is : (l : Line) → ¬ (Some l ≡ None)
some_is l e = true≢false (ap is_some e)

pub bucket_normal : (b r : ℚ) → IsNormal (bucket b r)
bucket_normal b r = record {
  raw = record { starts = (refl, tt); tail = record { nonneg = le_refl (int (pos 0)); starts = (le_refl (int (pos 0)), tt) } };
  rank_is_start = inl refl;
  no_merge = tt;
  tail = some_is record { icept = b; slope = r };
}

-- a wide step of the pieces and the kind of tail that a match found is one of the curve
pub wide_of : (c : SpecCurve) (ps : List Piece) (tail k : Tail) (t : ℚ) (w : Wide) → record { pieces = ps; tail = tail } ≡ c → tail ≡ k → IsWideAt ps k t w → IsWideValueAt c t w
wide_of c ps tail k t w v e h = subst (λ s. IsWideValueAt s t w) v (subst (λ z. IsWideAt ps z t w) (sym e) h)

pub not_later : (t r : ℚ) (o : Ordering) → o ≡ cmp_q t r → (o ≡ Greater → ⊥) → t ≤ℚ r
not_later t r o e h = cmp_not_greater t r (λ k. h (e ∙ k))

pub is_later : (t r : ℚ) (o : Ordering) → o ≡ cmp_q t r → o ≡ Greater → r <ℚ t
is_later t r o e h = cmp_greater t r (sym e ∙ h)
