-- At which call of the fold memory was wanting.
use Rattle.std.specs.Prelude.{◌≡◌, ℕ, ◌+◌, ◌<◌, ◌≤◌, List, [], ◌∷◌, length, map, Option, Some, None, Result, Ok, Err}
use Rattle.std.proofs.Common.{arith, sym, refl, ap, ◌∙◌, subst, get_or, drop}
use Rattle.std.proofs.lemmas.List.{drop_more}
use Rattle.rational.specs.Rational.{ℚ, ◌≤ℚ◌}
use Rattle.rational.specs.Extended.{Ext}
use Rattle.rational.specs.declared.Extended.TheVariants.{Fin, Inf}
use Rattle.rational.proofs.Laws.{le_refl}
use Rattle.upp_curve.specs.declared.affine_segment.line.Line.{Line}
use Rattle.upp_curve.specs.declared.affine_segment.element.Element.{Element}
use Rattle.upp_curve.specs.declared.affine_segment.element.Element.TheVariants.{Point, Open}
use Rattle.upp_limits.specs.declared.op_kind.OpKind.{OpKind}
use Rattle.upp_limits.specs.declared.op_kind.OpKind.TheVariants.{Min, Convolve}
use Rattle.upp_limits.specs.declared.op_kind.OpFault.{OpFault}
use Rattle.upp_limits.specs.declared.op_kind.OpFault.TheVariants.{NoMemory}
use Rattle.upp_limits.specs.Outcome.{KeepsLimits}
use Rattle.upp_curve.specs.Curve.{SpecCurve, value_at}
use Rattle.upp_curve.specs.Normal.{IsRaw}
use Rattle.min_plus.specs.Functions.{zero_q, IsFinite}
use Rattle.curve_call.specs.Calls.{Applies}
use Rattle.outcomes.specs.Calls.{Then, goes_on, stops}
use Rattle.subadd_closure.specs.ElementAnswers.{IsElementClosure}
use Rattle.subadd_closure.specs.Lattices.{origin_curve}
use Rattle.element_envelope.specs.PieceElements.{elements_of}
use Rattle.subadd_closure.specs.declared.part.Copies.{Copies as PartCopies}
use Rattle.subadd_closure.specs.declared.part.Part.{Part}
use Rattle.subadd_closure.specs.CurveParts.{pieces_end, copies_of, part_of, parts_of}
use Rattle.subadd_closure.specs.Folds.{segment_number, SegmentCause, SegmentWithin, ElementAnswer, CopiedAnswer, LoweredAnswer, PartAnswer, PartsAnswer}
use Rattle.subadd_closure.specs.FoldMemory.{PartWants, StopsAt, StopsAfter, FirstWithin, CloseWants}
use Rattle.subadd_closure.specs.FoldWork.{copies_work, part_work, parts_work}
use Rattle.subadd_closure.specs.PartStars.{turn_of}
use Rattle.subadd_closure.specs.StartsAt.{StartsAt}
use Rattle.subadd_closure.specs.Stars.{answers, wants, Copies, CopiesWant, StarWants, ElementWants}
use Rattle.subadd_closure.proofs.FirstElements.{elements_begin}
use Rattle.subadd_closure.proofs.FoldStars.{went_on, same_ok}
use Rattle.subadd_closure.proofs.OneFold.{one_closure}
use Rattle.subadd_closure.proofs.SegmentLimits.{number_early}

-- ---- one call
-- of a call whose answer is handed on as it is
pub call_wants : (op : OpKind) (f g : SpecCurve) (r s : Result SpecCurve OpFault) → s ≡ r → KeepsLimits op f g r
    → s ≡ Err NoMemory → Applies op f g (Err NoMemory)
call_wants op f g r s same limits want = let is : r ≡ Err NoMemory = sym same ∙ want in rw is at limits

-- a call, and what takes no call after it
pub then_wants : (f g : SpecCurve) (v : ℚ) (r : Result SpecCurve OpFault) → Then (Applies Convolve f g) (StartsAt v) r
    → r ≡ Err NoMemory → Applies Convolve f g (Err NoMemory)
then_wants f g v r (goes_on h a b) want = a.within
then_wants f g v r (stops e a is) want =
    let both : Err e ≡ Err NoMemory = sym is ∙ want in
    let one : e ≡ NoMemory = cc in
    subst (λ z. Applies Convolve f g (Err z)) one a

-- ---- the star of an element
pub first_wants : (turn : Option (ℚ × ℚ)) (p : ℚ × ℚ) (c : SpecCurve) (n : ℕ) → turn ≡ Some p → n ≤ 1 → CopiesWant p c n
    → StarWants turn c n
first_wants turn p c n e most h = subst (λ z. StarWants z c n) (sym e) (h, λ two. absurd (omega (arith, most, two)))

lowered_wants : (p : ℚ × ℚ) (c d : SpecCurve) (k n : ℕ) → n ≡ 1 + k → Copies p c (Ok d) → StarWants None d k → StarWants (Some p) c n
lowered_wants p c d k n one (answers a) h = (λ first. a.within, λ two. (d, a, h (omega (arith, one, two))))
lowered_wants p c d k n one (wants is) h = absurd cc

pub second_wants : (turn : Option (ℚ × ℚ)) (p : ℚ × ℚ) (c d : SpecCurve) (k n : ℕ) → turn ≡ Some p → n ≡ 1 + k
    → Copies p c (Ok d) → StarWants None d k → StarWants turn c n
second_wants turn p c d k n e one a h = subst (λ z. StarWants z c n) (sym e) (lowered_wants p c d k n one a h)

-- before any call
none_star : (p : Option (ℚ × ℚ)) (c : SpecCurve) (n : ℕ) → n ≡ 0 → StarWants p c n
none_star None c n none = λ one. absurd (omega (arith, none, one))
none_star (Some p) c n none = (λ one. absurd (omega (arith, none, one)), λ two. absurd (omega (arith, none, two)))

pub no_call : (p : Option (ℚ × ℚ)) (e : Element) (n : ℕ) → n ≡ 0 → ElementWants p e n
no_call p e n none c closed = none_star p c n none

-- there is one closure
pub closure_wants : (p : Option (ℚ × ℚ)) (e : Element) (c : SpecCurve) (n : ℕ) → IsElementClosure e c → StarWants p c n → ElementWants p e n
closure_wants p e c n closed h d other = subst (λ z. StarWants p z n) (one_closure e c d closed other) h

-- ---- one part
cause_within : (f : SpecCurve) (o : Option ℕ) → SegmentCause f o NoMemory → SegmentWithin f o
cause_within f None h = tt
cause_within f (Some n) h = h

pub part_wants : (f : SpecCurve) (e d : Element) (turn : Option (ℚ × ℚ)) (n : ℕ) → e ≡ d
    → turn ≡ turn_of (copies_of f.tail e) → n ≤ part_work (part_of f.tail e)
    → SegmentWithin f (segment_number d) → ElementWants turn d n → PartWants f (part_of f.tail e) n
part_wants f e d turn n same is most within h = record {
  most = most;
  segment = subst (λ z. SegmentWithin f (segment_number z)) (sym same) within;
  calls = subst (λ z. ElementWants (turn_of (copies_of f.tail e)) z n) (sym same) (subst (λ t. ElementWants t d n) is h);
}

-- where the operator of its segment was refused
pub segment_wants : (f : SpecCurve) (e d : Element) (fault : OpFault) (n : ℕ) → e ≡ d
    → SegmentCause f (segment_number d) fault → fault ≡ NoMemory → n ≡ 0 → PartWants f (part_of f.tail e) n
segment_wants f e d fault n same cause want none =
    part_wants f e d (turn_of (copies_of f.tail e)) n same refl (omega (arith, none))
    (cause_within f (segment_number d) (subst (λ z. SegmentCause f (segment_number d) z) want cause))
    (no_call (turn_of (copies_of f.tail e)) d n none)

-- where all calls on it are counted and made
made_star : (o : Option PartCopies) (c s : SpecCurve) (n : ℕ) → Then (CopiedAnswer o c) LoweredAnswer (Ok s)
    → n ≡ copies_work o → StarWants (turn_of o) c n
made_star None c s n a is =
    let (d, same, low) = went_on (CopiedAnswer None c) LoweredAnswer s a in
    λ one. subst (λ z. Applies Min z origin_curve (Err NoMemory)) (same_ok (Ok d) d c refl same) low.within
made_star (Some k) c s n a is =
    let (d, all, low) = went_on (CopiedAnswer (Some k) c) LoweredAnswer s a in
    (λ one. all.within, λ two. (d, all, low.within))

pub made_wants : (f : SpecCurve) (p : Part) (s : SpecCurve) (n : ℕ) → PartAnswer f p (Ok s) → n ≡ part_work p → PartWants f p n
made_wants f p s n made is =
    let (c, closed, a) = went_on (ElementAnswer f p.element) (λ z. Then (CopiedAnswer p.copies z) LoweredAnswer) s made in
    record {
      most = omega (arith, is);
      segment = closed.0;
      calls = closure_wants (turn_of p.copies) p.element c n closed.1 (made_star p.copies c s n a is);
    }

-- ---- the segment of the part after some
start_within : (f : SpecCurve) (a : ℚ) (b : Ext) (l : Line) → a ≤ℚ zero_q → SegmentWithin f (segment_number (Open a b l))
start_within f a Inf l low = tt
start_within f a (Fin b) l low = subst (SegmentWithin f) (sym (number_early a b l low)) tt

-- the second element of a curve begins at 0
pub second_within : (c : SpecCurve) (es : List Element) → es ≡ elements_of c.pieces (pieces_end c.tail) → IsRaw c
    → IsFinite (value_at c) → FirstWithin c (map (part_of c.tail) (drop 1 es))
second_within c es all raw finite =
    let (v, at) = finite zero_q (le_refl zero_q) in
    let b = elements_begin c v raw finite at in
    subst (λ z. FirstWithin c (map (part_of c.tail) (drop 1 z))) (sym (all ∙ b.is))
    (start_within c b.start b.end b.line (subst (λ z. z ≤ℚ zero_q) (sym b.at_zero) (le_refl zero_q)))

pub later_within : (f : SpecCurve) (es : List Element) (i : ℕ) (e : Element) → i < length es → e ≡ get_or es i e
    → SegmentWithin f (segment_number e) → FirstWithin f (map (part_of f.tail) (drop i es))
later_within f es i e h is within =
    subst (λ z. FirstWithin f (map (part_of f.tail) z)) (sym (drop_more es i e h ∙ ap (λ z. z ∷ drop (i + 1) es) (sym is))) within

-- ---- the parts in their order
pub after_parts : (f s : SpecCurve) (before : List Part) (p : Part) (more n : ℕ) → PartsAnswer f before (Ok s)
    → n ≡ parts_work before + more → StopsAt f s p more → StopsAfter f before p n
after_parts f s [] p more n made is h = absurd made
after_parts f s (q ∷ qs) p more n made is h = record { sofar = s; made = made; more = more; counted = is; stops = h }

-- before the first part
pub none_wants : (c : SpecCurve) (n : ℕ) → n ≡ 0 → IsRaw c → IsFinite (value_at c) → CloseWants c n
none_wants c n none raw finite =
    let (v, at) = finite zero_q (le_refl zero_q) in
    let b = elements_begin c v raw finite at in
    let first = part_of c.tail (Point b.start v) in
    let all : parts_of c ≡ first ∷ map (part_of c.tail) (Open b.start b.end b.line ∷ b.others) = ap (map (part_of
    c.tail)) b.is in
    record {
      before = [];
      part = first;
      after = map (part_of c.tail) (Open b.start b.end b.line ∷ b.others);
      are = all;
      stops = record {
        most = omega (arith, none);
        segment = tt;
        calls = no_call (turn_of first.copies) first.element n none;
      };
      next = λ counted. start_within c b.start b.end b.line (subst (λ z. z ≤ℚ zero_q) (sym b.at_zero) (le_refl zero_q));
    }
