-- The fold of a closure, one part after another, and its last step.
use Rattle.std.specs.Prelude.{◌≡◌, List, [], ◌∷◌, ◌++◌, Result, Ok, Err, IfOk}
use Rattle.std.proofs.Common.{sym, refl, ◌∙◌, subst}
use Rattle.rational.specs.Rational.{ℚ}
use Rattle.rational.specs.declared.Extended.TheVariants.{Fin}
use Rattle.upp_limits.specs.declared.op_kind.OpKind.TheVariants.{Convolve}
use Rattle.upp_limits.specs.declared.op_kind.OpFault.{OpFault}
use Rattle.upp_curve.specs.Curve.{SpecCurve, value_at}
use Rattle.min_plus.specs.Functions.{zero_q}
use Rattle.curve_call.specs.Calls.{Applies}
use Rattle.outcomes.specs.Calls.{Then, goes_on, stops}
use Rattle.subadd_closure.specs.declared.part.Part.{Part}
use Rattle.subadd_closure.specs.CurveParts.{parts_of}
use Rattle.subadd_closure.specs.Folds.{PartAnswer, FoldAnswer, PartsAnswer, SetBackAnswer, CloseAnswer}
use Rattle.subadd_closure.specs.StartsAt.{StartsAt}

-- ---- more parts after an answer
fold_more : (f s : SpecCurve) (ps qs : List Part) (c : SpecCurve) (r : Result SpecCurve OpFault)
    → FoldAnswer f s ps (Ok c)
    → FoldAnswer f c qs r → FoldAnswer f s (ps ++ qs) r
fold_more f s [] qs c r is h = let same : c ≡ s = cc in subst (λ z. FoldAnswer f z qs r) same h
fold_more f s (p ∷ ps) qs c r (goes_on x a b) h = goes_on x a (fold_more f x ps qs c r b h)
fold_more f s (p ∷ ps) qs c r (stops e a is) h = absurd cc

pub parts_more : (f : SpecCurve) (ps qs : List Part) (c : SpecCurve) (r : Result SpecCurve OpFault)
    → PartsAnswer f ps (Ok c)
    → FoldAnswer f c qs r → PartsAnswer f (ps ++ qs) r
parts_more f [] qs c r a h = absurd a
parts_more f (p ∷ ps) qs c r (goes_on x a b) h = goes_on x a (fold_more f x ps qs c r b h)
parts_more f (p ∷ ps) qs c r (stops e a is) h = absurd cc

-- ---- more parts after a refusal
fold_stop : (f s : SpecCurve) (ps qs : List Part) (e : OpFault) → FoldAnswer f s ps (Err e)
    → FoldAnswer f s (ps ++ qs) (Err e)
fold_stop f s [] qs e is = absurd cc
fold_stop f s (p ∷ ps) qs e (goes_on x a b) = goes_on x a (fold_stop f x ps qs e b)
fold_stop f s (p ∷ ps) qs e (stops d a is) = stops d a is

pub parts_stop : (f : SpecCurve) (ps qs : List Part) (e : OpFault) → PartsAnswer f ps (Err e)
    → PartsAnswer f (ps ++ qs) (Err e)
parts_stop f [] qs e a = absurd a
parts_stop f (p ∷ ps) qs e (goes_on x a b) = goes_on x a (fold_stop f x ps qs e b)
parts_stop f (p ∷ ps) qs e (stops d a is) = stops d a is

-- ---- one part
pub first_part : (f : SpecCurve) (p : Part) (c : SpecCurve) → PartAnswer f p (Ok c) → PartsAnswer f (p ∷ []) (Ok c)
first_part f p c a = goes_on c a refl

pub first_stops : (f : SpecCurve) (p : Part) (ps : List Part) (e : OpFault) → PartAnswer f p (Err e)
    → PartsAnswer f (p ∷ ps) (Err e)
first_stops f p ps e a = stops e a refl

abbrev pub NextAnswer : SpecCurve → SpecCurve → Part → Result SpecCurve OpFault → Type 0
NextAnswer f s p r = Then (PartAnswer f p) (λ c. Applies Convolve s c) r

pub next_part : (f s : SpecCurve) (ps : List Part) (p : Part) (c : SpecCurve) → PartsAnswer f ps (Ok s)
    → NextAnswer f s p (Ok c)
    → PartsAnswer f (ps ++ p ∷ []) (Ok c)
next_part f s ps p c h a = parts_more f ps (p ∷ []) s (Ok c) h (goes_on c a refl)

pub next_stops : (f s : SpecCurve) (ps qs : List Part) (p : Part) (e : OpFault) → PartsAnswer f ps (Ok s)
    → NextAnswer f s p (Err e)
    → PartsAnswer f (ps ++ p ∷ qs) (Err e)
next_stops f s ps qs p e h a = parts_more f ps (p ∷ qs) s (Err e) h (stops e a refl)

-- ---- the last part, in whose convolution the value at 0 is set back
set_back : (f g : SpecCurve) (v : ℚ) (r : Result SpecCurve OpFault) → value_at f zero_q ≡ Fin v → StartsAt v g r
    → SetBackAnswer f g r
set_back f g v (Ok h) at (curve, zero, past) = record {
  curve = curve;
  values = record {
    zero = zero
        ∙ sym at;
    past = past;
  };
}
set_back f g v (Err e) at is = is

pub last_part : (f s c : SpecCurve) (ps : List Part) (p : Part) (v : ℚ) (r : Result SpecCurve OpFault)
    → parts_of f ≡ ps ++ p ∷ []
    → PartsAnswer f ps (Ok s) → PartAnswer f p (Ok c) → value_at f zero_q ≡ Fin v
    → Then (Applies Convolve s c) (StartsAt v) r
    → CloseAnswer f r
last_part f s c ps p v r all h a at (goes_on g b k) =
    goes_on g (subst (λ z. PartsAnswer f z (Ok g)) (sym all) (next_part f s ps p g h (goes_on c a b))) (set_back f g
    v r at k)
last_part f s c ps p v r all h a at (stops e b is) =
    stops e (subst (λ z. PartsAnswer f z (Err e)) (sym all) (next_stops f s ps [] p e h (goes_on c a b))) is

-- a refusal of a part before the last, and of the last one's own
pub early_refusal : (f : SpecCurve) (ps qs : List Part) (e : OpFault) (r : Result SpecCurve OpFault)
    → parts_of f ≡ ps ++ qs
    → PartsAnswer f ps (Err e) → r ≡ Err e → CloseAnswer f r
early_refusal f ps qs e r all h is = stops e (subst (λ z. PartsAnswer f z (Err e)) (sym all) (parts_stop f ps qs e
    h)) is

pub last_refusal : (f s : SpecCurve) (ps : List Part) (p : Part) (e : OpFault) (r : Result SpecCurve OpFault)
    → parts_of f ≡ ps ++ p ∷ []
    → PartsAnswer f ps (Ok s) → PartAnswer f p (Err e) → r ≡ Err e → CloseAnswer f r
last_refusal f s ps p e r all h a is =
    stops e (subst (λ z. PartsAnswer f z (Err e)) (sym all) (next_stops f s ps [] p e h (stops e a refl))) is

-- what holds whatever a call answers
pub always : {A E : Type 0} (P : Type 0) (r : Result A E) → P → IfOk r (λ x. P)
always P (Ok x) h = h
always P (Err e) h = tt
