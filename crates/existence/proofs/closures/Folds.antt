-- The fold that makes the closure of a curve has an answer that is not want of memory: part by part, each by its star and
-- a convolution, the last one with the value at 0 set back.
use Rattle.std.specs.Prelude.{◌≢◌, List, [], ◌∷◌, ◌++◌, map, length, Result, Ok, Err}
use Rattle.std.proofs.Common.{◌≡◌, ◌≤◌, arith, inl, inr, refl, sym, ◌∙◌, subst, append_assoc}
use Rattle.std.proofs.lemmas.List.{length-map}
use Rattle.rational.specs.Rational.{ℚ, ◌≤ℚ◌}
use Rattle.rational.specs.Extended.{Ext, ◌≤ₑ◌}
use Rattle.rational.specs.declared.Extended.TheVariants.{Fin}
use Rattle.rational.proofs.Laws.{le_refl}
use Rattle.upp_curve.specs.declared.affine_segment.element.Element.{Element}
use Rattle.upp_curve.specs.Curve.{SpecCurve, value_at}
use Rattle.upp_curve.specs.Curves.{IsCurve}
use Rattle.min_plus.specs.Functions.{zero_q, IsFinite, IsNonnegative}
use Rattle.upp_limits.specs.declared.op_kind.OpFault.{OpFault}
use Rattle.upp_limits.specs.declared.op_kind.OpFault.TheVariants.{NoMemory}
use Rattle.upp_limits.specs.declared.op_kind.OpKind.TheVariants.{Convolve}
use Rattle.curve_call.specs.Calls.{Applies}
use Rattle.outcomes.specs.Calls.{Then, goes_on, stops}
use Rattle.element_envelope.specs.PieceElements.{elements_of, Among}
use Rattle.subadd_closure.specs.CurveParts.{pieces_end, part_of, parts_of}
use Rattle.subadd_closure.specs.declared.part.Part.{Part}
use Rattle.subadd_closure.specs.Folds.{PartAnswer, PartsAnswer, CloseAnswer}
use Rattle.subadd_closure.specs.PartLaws.{EachPart}
use Rattle.subadd_closure.proofs.FirstElements.{two_elements}
use Rattle.subadd_closure.proofs.FoldShapes.{sofar_nonneg, star_nonneg, finite_past}
use Rattle.subadd_closure.proofs.FoldSteps.{first_part, first_stops, next_part, next_stops, last_part, early_refusal, last_refusal}
use Rattle.existence.specs.closures.Laws.{ClosuresExist}
use Rattle.existence.specs.curves.Answered.{HasAnswer}
use Rattle.existence.proofs.curves.Convolutions.{convolution_answered}
use Rattle.existence.proofs.closures.Stars.{star_found, star_curve}
use Rattle.existence.proofs.closures.Started.{last_found}

-- ---- the parts of a curve
abbrev IsStarFound : SpecCurve → Part → Type 0
IsStarFound f p = HasAnswer (PartAnswer f p)

each_star : (f : SpecCurve) (es : List Element) → ((e : Element) → Among e es → IsStarFound f (part_of f.tail e))
    → EachPart (IsStarFound f) (map (part_of f.tail) es)
each_star f [] h = tt
each_star f (e ∷ es) h = (h e (inl refl), each_star f es (λ d among. h d (inr among)))

part_curve : (f : SpecCurve) (p : Part) (c : SpecCurve) → PartAnswer f p (Ok c) → IsCurve c
part_curve f p c a = star_curve f p.copies _ c a

-- ---- the fold
module _ (f : SpecCurve) (F : IsCurve f) (fin : IsFinite (value_at f)) (low : IsNonnegative (value_at f)) (start : ℚ)
    (at : value_at f zero_q ≡ Fin start) where
  abbrev IsFound : Type 0
  IsFound = HasAnswer (CloseAnswer f)

  from_zero : zero_q ≤ℚ start
  from_zero = subst (λ (v : Ext). Fin zero_q ≤ₑ v) at (low zero_q (le_refl zero_q))

  -- the last part
  last : (done : List Part) (p : Part) (s c : SpecCurve) → parts_of f ≡ done ++ p ∷ [] → PartsAnswer f done (Ok s) → IsCurve s
      → PartAnswer f p (Ok c) → IsFound
  last done p s c all h S a =
      let C = part_curve f p c a in
      let r = last_found s c start S C (sofar_nonneg f s c done p F.normal fin low all h a) (star_nonneg f s c done p F.normal fin low all h a)
      (finite_past f s c done p F.normal fin low all h a) from_zero in
      record { answer = r.answer; is = last_part f s c done p start r.answer all h a at r.is; found = r.found }

  last_by : (done : List Part) (p : Part) (s : SpecCurve) (r : Result SpecCurve OpFault) → parts_of f ≡ done ++ p ∷ []
      → PartsAnswer f done (Ok s) → IsCurve s → PartAnswer f p r → r ≢ Err NoMemory → IsFound
  last_by done p s (Ok c) all h S a found = last done p s c all h S a
  last_by done p s (Err fault) all h S a found =
      record { answer = Err fault; is = last_refusal f s done p fault (Err fault) all h a refl; found = found }

  -- a refusal before the last part
  refused : (done rest : List Part) (p : Part) (s : SpecCurve) (fault : OpFault) → parts_of f ≡ done ++ p ∷ rest
      → PartsAnswer f done (Ok s) → Then (PartAnswer f p) (λ c. Applies Convolve s c) (Err fault)
      → (let r : Result SpecCurve OpFault = Err fault in r) ≢ Err NoMemory → IsFound
  refused done rest p s fault all h a found = record {
    answer = Err fault;
    is = early_refusal f (done ++ p ∷ []) rest fault (Err fault) (all ∙ sym (append_assoc done (p ∷ []) rest))
        (next_stops f s done [] p fault h a) refl;
    found = found;
  }

  -- a part that is not the last, by what goes on after it
  convolved : (done : List Part) (p q : Part) (rest : List Part) (s c : SpecCurve) (r : Result SpecCurve OpFault)
      → parts_of f ≡ done ++ p ∷ q ∷ rest → PartsAnswer f done (Ok s) → PartAnswer f p (Ok c) → Applies Convolve s c r → r ≢ Err NoMemory
      → ((w : SpecCurve) → PartsAnswer f (done ++ p ∷ []) (Ok w) → IsCurve w → IsFound) → IsFound
  convolved done p q rest s c (Ok w) all h a b found next = next w (next_part f s done p w h (goes_on c a b)) b.made.curve
  convolved done p q rest s c (Err fault) all h a b found next = refused done (q ∷ rest) p s fault all h (goes_on c a b) found

  star : (done : List Part) (p q : Part) (rest : List Part) (s : SpecCurve) (r : Result SpecCurve OpFault)
      → parts_of f ≡ done ++ p ∷ q ∷ rest → PartsAnswer f done (Ok s) → IsCurve s → PartAnswer f p r → r ≢ Err NoMemory
      → ((w : SpecCurve) → PartsAnswer f (done ++ p ∷ []) (Ok w) → IsCurve w → IsFound) → IsFound
  star done p q rest s (Ok c) all h S a found next =
      let b = convolution_answered s c S (part_curve f p c a) in
      convolved done p q rest s c b.answer all h a b.is b.found next
  star done p q rest s (Err fault) all h S a found next = refused done (q ∷ rest) p s fault all h (stops fault a refl) found

  -- a part, and those after it
  go_on : (done : List Part) (p : Part) (rest : List Part) (s : SpecCurve) → parts_of f ≡ done ++ p ∷ rest → PartsAnswer f done (Ok s)
      → IsCurve s → IsStarFound f p → EachPart (IsStarFound f) rest → IsFound
  go_on done p [] s all h S found each = last_by done p s found.answer all h S found.is found.found
  go_on done p (q ∷ rest) s all h S found each =
      star done p q rest s found.answer all h S found.is found.found
      (λ w g W. go_on (done ++ p ∷ []) q rest w (all ∙ sym (append_assoc done (p ∷ []) (q ∷ rest))) g W each.0 each.1)

  -- the first part
  first : (p q : Part) (rest : List Part) (r : Result SpecCurve OpFault) → parts_of f ≡ p ∷ q ∷ rest → PartAnswer f p r → r ≢ Err NoMemory
      → IsStarFound f q → EachPart (IsStarFound f) rest → IsFound
  first p q rest (Ok c) all a found next each = go_on (p ∷ []) q rest c all (first_part f p c a) (part_curve f p c a) next each
  first p q rest (Err fault) all a found next each = record {
    answer = Err fault;
    is = stops fault (subst (λ (ps : List Part). PartsAnswer f ps (Err fault)) (sym all) (first_stops f p (q ∷ rest) fault a)) refl;
    found = found;
  }

  whole : (ps : List Part) → parts_of f ≡ ps → 2 ≤ length ps → EachPart (IsStarFound f) ps → IsFound
  whole [] all two each = absurd (omega (arith, two))
  whole (p ∷ []) all two each = absurd (omega (arith, two))
  whole (p ∷ q ∷ rest) all two each = first p q rest each.0.answer all each.0.is each.0.found each.1.0 each.1.1

  pub fold_found : HasAnswer (CloseAnswer f)
  fold_found =
      let es = elements_of f.pieces (pieces_end f.tail) in
      let two = two_elements f es refl F.normal.raw fin in
      let long = length-map es (part_of f.tail) in
      whole (parts_of f) refl (omega (arith, two, long)) (each_star f es (λ e among. star_found f F fin low e among))

pub closures_exist : ClosuresExist
closures_exist f F fin low = let (start, at) = fin zero_q (le_refl zero_q) in fold_found f F fin low start at
