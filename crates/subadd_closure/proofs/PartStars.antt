-- The calls that make the star of an element are those of the fold on a part: want of memory before one of them is that
-- of the closure.
use Rattle.std.specs.Prelude.{◌≡◌, ℕ, Option, Some, None, Result, Ok, Err}
use Rattle.std.proofs.Common.{sym, refl, ap, ◌∙◌, subst}
use Rattle.rational.specs.Rational.{ℚ}
use Rattle.upp_curve.specs.declared.affine_segment.element.Element.{Element}
use Rattle.upp_limits.specs.declared.op_kind.OpKind.TheVariants.{Min, Convolve}
use Rattle.upp_limits.specs.declared.op_kind.OpFault.{OpFault}
use Rattle.upp_limits.specs.declared.op_kind.OpFault.TheVariants.{NoMemory}
use Rattle.upp_curve.specs.Curve.{SpecCurve}
use Rattle.curve_call.specs.Calls.{Applies}
use Rattle.outcomes.specs.Calls.{Then, goes_on, stops}
use Rattle.subadd_closure.specs.ElementAnswers.{IsElementClosure}
use Rattle.subadd_closure.specs.Lattices.{lattice_curve, origin_curve}
use Rattle.subadd_closure.specs.declared.part.Copies.{Copies}
use Rattle.subadd_closure.specs.declared.part.Part.{Part}
use Rattle.subadd_closure.specs.CurveParts.{copies_of, part_of}
use Rattle.subadd_closure.specs.Folds.{segment_number, SegmentWithin, SegmentCause}
use Rattle.subadd_closure.specs.Folds.{ElementAnswer, CopiedAnswer, LoweredAnswer, PartAnswer}
use Rattle.subadd_closure.specs.Stars.{OrWants, answers, wants, StarOf, MakesStar}
use Rattle.subadd_closure.specs.PartStars.{turn_of}

within_wants : (f : SpecCurve) (o : Option ℕ) → SegmentWithin f o → SegmentCause f o NoMemory
within_wants f None h = tt
within_wants f (Some n) h = h

module _ (f : SpecCurve) (e : Element) (within : SegmentWithin f (segment_number e)) where
  no_closure : (o : Option Copies) (r : Result SpecCurve OpFault) → r ≡ Err NoMemory
      → Then (ElementAnswer f e) (λ c. Then (CopiedAnswer o c) LoweredAnswer) r
  no_closure o r is = stops NoMemory (within_wants f (segment_number e) within) is

  lowers : (o : Option Copies) (c x : SpecCurve) (r : Result SpecCurve OpFault) → IsElementClosure e c
      → CopiedAnswer o c (Ok x)
      → OrWants (Applies Min x origin_curve) r → Then (ElementAnswer f e) (λ c. Then (CopiedAnswer o c) LoweredAnswer) r
  lowers o c x r closed copied (answers a) = goes_on c (within, closed) (goes_on x copied a)
  lowers o c x r closed copied (wants is) = no_closure o r is

  copies_on : (k : Copies) (c x : SpecCurve) (r : Result SpecCurve OpFault) → IsElementClosure e c
      → OrWants (Applies Convolve c (lattice_curve k.period k.rise)) (Ok x) → OrWants (Applies Min x origin_curve) r
      → Then (ElementAnswer f e) (λ c. Then (CopiedAnswer (Some k) c) LoweredAnswer) r
  copies_on k c x r closed (answers a) b = lowers (Some k) c x r closed a b
  copies_on k c x r closed (wants is) b = absurd cc

  copies_stop : (k : Copies) (c : SpecCurve) (fault : OpFault) (r : Result SpecCurve OpFault) → IsElementClosure e c
      → OrWants (Applies Convolve c (lattice_curve k.period k.rise)) (Err fault) → r ≡ Err fault
      → Then (ElementAnswer f e) (λ c. Then (CopiedAnswer (Some k) c) LoweredAnswer) r
  copies_stop k c fault r closed (answers a) is = goes_on c (within, closed) (stops fault a is)
  copies_stop k c fault r closed (wants w) is = no_closure (Some k) r (is ∙ w)

  by_copies : (o : Option Copies) (c : SpecCurve) (r : Result SpecCurve OpFault) → IsElementClosure e c
      → StarOf (turn_of o) c r
      → Then (ElementAnswer f e) (λ c. Then (CopiedAnswer o c) LoweredAnswer) r
  by_copies None c r closed h = lowers None c c r closed refl h
  by_copies (Some k) c r closed (goes_on x a b) = copies_on k c x r closed a b
  by_copies (Some k) c r closed (stops fault a is) = copies_stop k c fault r closed a is

  made_part : (o : Option Copies) (r : Result SpecCurve OpFault) → MakesStar (turn_of o) e r
      → Then (ElementAnswer f e) (λ c. Then (CopiedAnswer o c) LoweredAnswer) r
  made_part o r (answers a) = by_copies o a.0 r a.1 a.2
  made_part o r (wants is) = no_closure o r is

-- where the operator of its segment is over no limit, what is answered for a part's star is what the fold answers
stars_answer_parts : (f : SpecCurve) (p : Part) (r : Result SpecCurve OpFault) → SegmentWithin f (segment_number p.element)
    → MakesStar (turn_of p.copies) p.element r → PartAnswer f p r
stars_answer_parts f p r within h = made_part f p.element within p.copies r h

-- of an element in other words
pub star_is_part : (f : SpecCurve) (e d : Element) (turn : Option (ℚ × ℚ)) (r : Result SpecCurve OpFault) → e ≡ d
    → turn ≡ turn_of (copies_of f.tail e) → SegmentWithin f (segment_number d) → MakesStar turn d r
    → PartAnswer f (part_of f.tail e) r
star_is_part f e d turn r same is within h =
    subst (λ z. PartAnswer f (part_of f.tail z) r) (sym same)
    (stars_answer_parts f (part_of f.tail d) r within
    (subst (λ t. MakesStar t d r) (is ∙ ap (λ z. turn_of (copies_of f.tail z)) same) h))

pub part_refused : (f : SpecCurve) (e d : Element) (fault : OpFault) (r : Result SpecCurve OpFault) → e ≡ d
    → SegmentCause f (segment_number d) fault → r ≡ Err fault → PartAnswer f (part_of f.tail e) r
part_refused f e d fault r same cause is =
    stops fault (subst (λ z. SegmentCause f (segment_number z) fault) (sym same) cause) is
