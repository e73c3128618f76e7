-- The answer of the fold is determined, since that of each of its calls is.
use Rattle.std.specs.Prelude.{◌≡◌, ◌≢◌, ℕ, List, [], ◌∷◌, Option, Some, None, Ok, Err}
use Rattle.std.proofs.Common.{arith, sym, refl, ap, ◌∙◌, subst, inl, inr}
use Rattle.rational.specs.Rational.{ℚ, ◌≤ℚ◌}
use Rattle.rational.proofs.Laws.{le_or_lt, antisym}
use Rattle.rational.proofs.Bounds.{infimum_unique}
use Rattle.upp_curve.specs.declared.affine_segment.element.Element.{Element}
use Rattle.upp_limits.specs.declared.op_kind.OpKind.TheVariants.{Min, Convolve}
use Rattle.upp_limits.specs.declared.op_kind.OpFault.{OpFault}
use Rattle.upp_limits.specs.declared.op_kind.OpFault.TheVariants.{TooMany, TooWide, NoMemory}
use Rattle.upp_curve.specs.Curve.{SpecCurve, value_at}
use Rattle.min_plus.specs.Functions.{zero_q}
use Rattle.upp_curve.proofs.OneForm.{normal_unique}
use Rattle.curve_call.specs.Calls.{Applies}
use Rattle.outcomes.specs.Calls.{Then}
use Rattle.curve_call.specs.Determined.{IsDetermined}
use Rattle.curve_call.proofs.InTurn.{applies_determined}
use Rattle.outcomes.proofs.Calls.{then_determined}
use Rattle.subadd_closure.specs.ElementAnswers.{IsElementClosure}
use Rattle.subadd_closure.specs.CurveParts.{parts_of}
use Rattle.subadd_closure.specs.declared.part.Copies.{Copies}
use Rattle.subadd_closure.specs.declared.part.Part.{Part}
use Rattle.subadd_closure.specs.Lattices.{lattice_curve, origin_curve}
use Rattle.subadd_closure.specs.Folds.{segment_number, SegmentWithin, SegmentCause, ElementAnswer, CopiedAnswer, LoweredAnswer, PartAnswer, FoldAnswer, PartsAnswer, IsSetBackCurve, SetBackAnswer}
use Rattle.subadd_closure.specs.FoldLaws.{CloseAnswerIsDetermined}

-- ---- the operator of a segment
within_not : (f : SpecCurve) (o : Option ℕ) (e : OpFault) → SegmentWithin f o → SegmentCause f o e → e ≡ NoMemory
within_not f None TooMany a b = absurd b
within_not f None TooWide a b = absurd b
within_not f None NoMemory a b = refl
within_not f (Some n) TooMany (p, q) (r, s) = absurd (omega arith)
within_not f (Some n) TooWide (p, q) b = absurd (omega arith)
within_not f (Some n) NoMemory a b = refl

one_cause : (f : SpecCurve) (o : Option ℕ) (d e : OpFault) → SegmentCause f o d → SegmentCause f o e → d ≢ NoMemory → e ≢ NoMemory → d ≡ e
one_cause f None TooMany e a b m n = absurd a
one_cause f None TooWide e a b m n = absurd a
one_cause f None NoMemory e a b m n = absurd (m refl)
one_cause f (Some k) TooMany TooMany a b m n = refl
one_cause f (Some k) TooMany TooWide (p, q) b m n = absurd (omega arith)
one_cause f (Some k) TooMany NoMemory a b m n = absurd (n refl)
one_cause f (Some k) TooWide TooMany a (p, q) m n = absurd (omega arith)
one_cause f (Some k) TooWide TooWide a b m n = refl
one_cause f (Some k) TooWide NoMemory a b m n = absurd (n refl)
one_cause f (Some k) NoMemory e a b m n = absurd (m refl)

pub one_closure : (e : Element) (c d : SpecCurve) → IsElementClosure e c → IsElementClosure e d → c ≡ d
one_closure e c d a b =
    normal_unique c d a.normal b.normal (λ t h. infimum_unique _ (value_at c t) (value_at d t) (a.closes t h) (b.closes t h))

element_once : (f : SpecCurve) (e : Element) → IsDetermined (ElementAnswer f e)
element_once f e (Ok c) (Ok d) (p, a) (q, b) m n = ap Ok (one_closure e c d a b)
element_once f e (Ok c) (Err d) (p, a) b m n = absurd (n (ap Err (within_not f (segment_number e) d p b)))
element_once f e (Err d) (Ok c) a (q, b) m n = absurd (m (ap Err (within_not f (segment_number e) d q a)))
element_once f e (Err c) (Err d) a b m n = ap Err (one_cause f (segment_number e) c d a b (λ k. m (ap Err k)) (λ k. n (ap Err k)))

-- ---- the parts
copied_once : (o : Option Copies) (c : SpecCurve) → IsDetermined (CopiedAnswer o c)
copied_once None c r s a b m n = a ∙ sym b
copied_once (Some k) c r s a b m n = applies_determined.answer Convolve c (lattice_curve k.period k.rise) r s a b m n

lowered_once : (c : SpecCurve) → IsDetermined (LoweredAnswer c)
lowered_once c r s a b m n = applies_determined.answer Min c origin_curve r s a b m n

part_once : (f : SpecCurve) (p : Part) → IsDetermined (PartAnswer f p)
part_once f p =
    then_determined (ElementAnswer f p.element) (λ c. Then (CopiedAnswer p.copies c) LoweredAnswer) (element_once f p.element)
    (λ c. then_determined (CopiedAnswer p.copies c) LoweredAnswer (copied_once p.copies c) lowered_once)

fold_once : (f sofar : SpecCurve) (ps : List Part) → IsDetermined (FoldAnswer f sofar ps)
fold_once f sofar [] r s a b m n = a ∙ sym b
fold_once f sofar (p ∷ ps) r s a b m n =
    then_determined (Then (PartAnswer f p) (λ c. Applies Convolve sofar c)) (λ c. FoldAnswer f c ps)
    (then_determined (PartAnswer f p) (λ c. Applies Convolve sofar c) (part_once f p) (λ c. applies_determined.answer Convolve sofar c))
    (λ c. fold_once f c ps) r s a b m n

parts_once : (f : SpecCurve) (ps : List Part) → IsDetermined (PartsAnswer f ps)
parts_once f [] r s a b m n = absurd a
parts_once f (p ∷ ps) r s a b m n =
    then_determined (PartAnswer f p) (λ c. FoldAnswer f c ps) (part_once f p) (λ c. fold_once f c ps) r s a b m n

-- ---- the value at 0
set_back_same : (f c h k : SpecCurve) → IsSetBackCurve f c h → IsSetBackCurve f c k → h ≡ k
set_back_same f c h k a b = normal_unique h k a.curve.normal b.curve.normal values
  where
    values : (t : ℚ) → zero_q ≤ℚ t → value_at h t ≡ value_at k t
    values t low = elim (le_or_lt t zero_q) [
      | inl here ↦
          let at : t ≡ zero_q = antisym (here, low) in
          subst (λ z. value_at h z ≡ value_at k z) (sym at) (a.values.zero ∙ sym b.values.zero)
      | inr past ↦ a.values.past t past ∙ sym (b.values.past t past)
    ]

set_back_once : (f c : SpecCurve) → IsDetermined (SetBackAnswer f c)
set_back_once f c (Ok h) (Ok k) a b m n = ap Ok (set_back_same f c h k a b)
set_back_once f c (Ok h) (Err e) a b m n = absurd (n (ap Err b))
set_back_once f c (Err d) s a b m n = absurd (m (ap Err a))

pub close_once : CloseAnswerIsDetermined
close_once f =
    then_determined (PartsAnswer f (parts_of f)) (SetBackAnswer f) (parts_once f (parts_of f)) (set_back_once f)
