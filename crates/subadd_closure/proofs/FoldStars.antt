-- What the fold answers: for a part its star, for the parts the star of their least, and for the curve its closure.
use Rattle.std.specs.Prelude.{◌≡◌, List, [], ◌∷◌, map, Option, Some, None, Result, Ok, Err}
use Rattle.std.proofs.Common.{sym, refl, ap, ◌∙◌, subst}
use Rattle.rational.specs.Rational.{ℚ, ◌≤ℚ◌}
use Rattle.rational.specs.Extended.{Ext, min_ext}
use Rattle.upp_curve.specs.declared.affine_segment.element.Element.{Element}
use Rattle.upp_curve.specs.affine_segment.Elements.{element_value}
use Rattle.upp_limits.specs.declared.op_kind.OpKind.TheVariants.{Min, Convolve}
use Rattle.upp_limits.specs.declared.op_kind.OpFault.{OpFault}
use Rattle.upp_curve.specs.Curve.{SpecCurve, value_at}
use Rattle.min_plus.specs.Functions.{zero_q}
use Rattle.min_plus.specs.Convolution.{IsSubadditiveClosure}
use Rattle.curve_call.specs.Answers.{IsMadeBy}
use Rattle.curve_call.specs.Calls.{Applies}
use Rattle.outcomes.specs.Calls.{Then, goes_on, stops}
use Rattle.min_plus.specs.closure_laws.Star.{IsStar, AreStars, least_of}
use Rattle.min_plus.proofs.closure_laws.StarSums.{star_of_closure, stars_of_values}
use Rattle.min_plus.proofs.closure_laws.CopiedParts.{closure_of_copies}
use Rattle.subadd_closure.specs.ElementAnswers.{IsElementClosure}
use Rattle.subadd_closure.specs.CurveParts.{parts_of, part_value}
use Rattle.subadd_closure.specs.declared.part.Copies.{Copies}
use Rattle.subadd_closure.specs.declared.part.Part.{Part}
use Rattle.subadd_closure.specs.PartLaws.{EachPart, IsPart}
use Rattle.min_plus.specs.closure_laws.StarFolds.{AreFolded, EachStar}
use Rattle.subadd_closure.specs.Folds.{ElementAnswer, CopiedAnswer, LoweredAnswer, PartAnswer, FoldAnswer, PartsAnswer, SetBackAnswer}
use Rattle.subadd_closure.specs.FoldLaws.{PartAnswerIsStar, CloseAnswerIsClosure}
use Rattle.subadd_closure.proofs.EachParts.{parts_are_parts}
use Rattle.subadd_closure.proofs.LeastParts.{parts_make_curve}
use Rattle.subadd_closure.specs.Lattices.{lattice_curve, origin_curve}
use Rattle.subadd_closure.proofs.LatticeCurves.{lattice_values}
use Rattle.min_plus.proofs.closure_laws.StarFolding.{star_of_least, closure_of_set_back}

-- ---- a call that goes on
ok_not_err : {B : Type 0} (r : Result B OpFault) (y : B) (e : OpFault) → r ≡ Ok y → r ≡ Err e → ⊥
ok_not_err r y e p q = let both : Ok y ≡ Err e = sym p ∙ q in cc

-- where two calls answer a curve, the first does
pub went_on : {A B : Type 0} (P : Result A OpFault → Type 0) (Q : A → Result B OpFault → Type 0) (y : B)
    → Then P Q (Ok y) → (x : A) × P (Ok x) × Q x (Ok y)
went_on P Q y (goes_on x a b) = (x, a, b)
went_on P Q y (stops e a b) = absurd (ok_not_err (Ok y) y e refl b)

pub same_ok : (r : Result SpecCurve OpFault) (c d : SpecCurve) → r ≡ Ok c → r ≡ Ok d → c ≡ d
same_ok r c d p q = let both : Ok c ≡ Ok d = sym p ∙ q in cc

-- ---- one part
copied_closure : (e : Element) (o : Option Copies) (E C : SpecCurve) → IsPart record { element = e; copies = o }
    → IsElementClosure e E → CopiedAnswer o E (Ok C) → (t : ℚ) → zero_q ≤ℚ t
    → IsSubadditiveClosure (part_value record { element = e; copies = o }) t (value_at C t)
copied_closure e None E C p closed is t h =
    subst (λ z. IsSubadditiveClosure (element_value e) t (value_at z t)) (sym (same_ok (Ok C) C E refl is)) (closed.closes t h)
copied_closure e (Some k) E C p closed applied t h =
    let (some, copies) = p.copied in
    closure_of_copies (element_value e) (part_value record { element = e; copies = Some k }) (value_at (lattice_curve k.period k.rise))
    (value_at E) k.period k.rise t (value_at C t) some copies (lattice_values.lattice k.period k.rise some) closed.closes (applied.made.answers t h)

lowered_star : (f : ℚ → Ext) (C c : SpecCurve) → ((t : ℚ) → zero_q ≤ℚ t → IsSubadditiveClosure f t (value_at C t))
    → IsMadeBy Min C origin_curve c → AreStars f (value_at c)
lowered_star f C c closed made t h =
    subst (λ z. IsStar f t z)
    (sym (made.answers t h ∙ ap (λ z. min_ext (value_at C t) z) (lattice_values.origin t h)))
    (star_of_closure f t (value_at C t) h (closed t h))

pub part_star : PartAnswerIsStar
part_star f p c part answer =
    let (E, a, b) = went_on (ElementAnswer f p.element) (λ x. Then (CopiedAnswer p.copies x) LoweredAnswer) c answer in
    let (C, d, l) = went_on (CopiedAnswer p.copies E) LoweredAnswer c b in
    lowered_star (part_value p) C c (copied_closure p.element p.copies E C part a.1 d) l.made

-- ---- the parts
-- the stars that are convolved one after another
record Stars (f F G : SpecCurve) (ps : List Part) : Type 0 where
  stars : List (ℚ → Ext)
  each : EachStar (map part_value ps) stars
  folded : AreFolded (value_at F) stars (value_at G)

fold_stars : (f F : SpecCurve) (ps : List Part) (G : SpecCurve) → EachPart IsPart ps → FoldAnswer f F ps (Ok G) → Stars f F G ps
fold_stars f F [] G each is = record {
  stars = [];
  each = tt;
  folded = λ t h. ap (λ z. value_at z t) (same_ok (Ok G) G F refl is);
}
fold_stars f F (p ∷ ps) G each answer =
    let (H, a, b) = went_on (Then (PartAnswer f p) (λ c. Applies Convolve F c)) (λ c. FoldAnswer f c ps) G answer in
    let (c, x, y) = went_on (PartAnswer f p) (λ c. Applies Convolve F c) H a in
    let r = fold_stars f H ps G each.1 b in
    record {
      stars = value_at c ∷ r.stars;
      each = (part_star f p c each.0 x, r.each);
      folded = (value_at H, y.made.answers, r.folded);
    }

pub parts_star : (f : SpecCurve) (ps : List Part) (c : SpecCurve) → EachPart IsPart ps → PartsAnswer f ps (Ok c)
    → AreStars (least_of (map part_value ps)) (value_at c)
parts_star f [] c each answer = absurd answer
parts_star f (p ∷ ps) c each answer =
    let (S, a, b) = went_on (PartAnswer f p) (λ x. FoldAnswer f x ps) c answer in
    let r = fold_stars f S ps c each.1 b in
    star_of_least (part_value p) (value_at S) (map part_value ps) r.stars (value_at c) (part_star f p S each.0 a) r.each r.folded

-- ---- the curve
pub close_answer : CloseAnswerIsClosure
close_answer f h t normal finite nonneg answer low =
    let (c, a, b) = went_on (PartsAnswer f (parts_of f)) (SetBackAnswer f) h answer in
    let stars = parts_star f (parts_of f) c (parts_are_parts f normal) a in
    closure_of_set_back (value_at f) (value_at c) (value_at h) t nonneg
    (λ s k. stars_of_values (least_of (map part_value (parts_of f))) (value_at f) s (value_at c s)
    (λ u m. sym (parts_make_curve f u normal finite m)) (stars s k)) b.values low
