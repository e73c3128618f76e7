-- Sums of curves have answers.
use Rattle.std.specs.Prelude.{List, [], ◌∷◌}
use Rattle.std.proofs.Common.{refl}
use Rattle.upp_curve.specs.Curve.{SpecCurve}
use Rattle.upp_curve.specs.Curves.{IsCurve}
use Rattle.upp_limits.specs.declared.op_kind.OpKind.TheVariants.{Sum}
use Rattle.curve_call.specs.Calls.{Applies}
use Rattle.net_cells.specs.Answers.{MakesCurve, SumsOnto, SumsOf}
use Rattle.net_cells.specs.Meanings.{curve}
use Rattle.net_cells.specs.Numbered.{zero_curve}
use Rattle.existence.specs.curves.Answered.{HasAnswer}
use Rattle.existence.specs.tables.Formulas.{EachIsCurve, CurveSumsExist}
use Rattle.existence.proofs.tables.Values.{value_found, curve_found, then_curve, made_gives}

sums_onto : ((f g : SpecCurve) → IsCurve f → IsCurve g → HasAnswer (Applies Sum f g)) → (f : SpecCurve) (gs : List SpecCurve) → IsCurve f → EachIsCurve gs → HasAnswer (SumsOnto f gs)
sums_onto E f [] F h = value_found (SumsOnto f []) (curve f) refl
sums_onto E f (g ∷ gs) F h =
    let first = curve_found (Applies Sum f g) (E f g F h.0) in
    let t = then_curve (MakesCurve (Applies Sum f g)) (λ c. SumsOnto c gs) first
    (made_gives (Applies Sum f g) (λ c. HasAnswer (SumsOnto c gs)) (λ c a. sums_onto E c gs a.made.curve h.1)) in
    record { answer = t.answer; is = t.is; found = t.found }

pub sums_of : CurveSumsExist
sums_of E [] h = value_found (SumsOf []) (curve zero_curve) refl
sums_of E (f ∷ fs) h = let t = sums_onto E f fs h.0 h.1 in record { answer = t.answer; is = t.is; found = t.found }
