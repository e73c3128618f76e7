-- A formula has an answer, where each of its calls has one.
use Rattle.std.specs.Prelude.{◌≡◌, List, [], ◌∷◌, ◌++◌}
use Rattle.std.proofs.Common.{refl, sym, subst}
use Rattle.rational.specs.Extended.{Ext, min_ext}
use Rattle.min_plus.specs.Deviations.{IsHorizontalDeviation, IsVerticalDeviation}
use Rattle.upp_curve.specs.Curve.{SpecCurve}
use Rattle.upp_curve.specs.Kinds.{bucket}
use Rattle.upp_limits.specs.declared.op_kind.OpKind.TheVariants.{Min, Shift, FifoLeft, Horizontal, Vertical}
use Rattle.run_laws.specs.Cards.{whole}
use Rattle.curve_call.specs.Again.{IsAgain}
use Rattle.curve_call.specs.Calls.{Applies, AppliesTo}
use Rattle.residuals.specs.calls.PriorityCalls.{MakesPriority}
use Rattle.residuals.specs.calls.DrrCalls.{MakesDrr}
use Rattle.net_cells.specs.Answers.{Answer, AnswersFrom, CutsBy, Deviates, IsOnly, MakesCurve, MakesNumber, ThenCurves, ThenNumber}
use Rattle.net_cells.specs.Formulas.{Formula, value_of, given, empty_sum, made, made_of, moved, cut, part, no_part, leftover, priority, deficit, horizontal, vertical, smaller, along, delayed}
use Rattle.net_cells.specs.Meanings.{curve, number, CellTable}
use Rattle.net_cells.specs.Means.{with_links}
use Rattle.net_cells.specs.NumberSums.{Sums}
use Rattle.net_cells.specs.Numbered.{zero_curve}
use Rattle.existence.specs.curves.Answered.{HasAnswer}
use Rattle.existence.specs.tables.Formulas.{GivesCurve, GivesNumber, CallsAreFound, FormulasHaveAnswers}
use Rattle.existence.proofs.tables.Numbers.{number_sum}
use Rattle.existence.proofs.tables.Values.{found_as, value_found, curve_found, number_found, gives_curve, gives_number, made_gives, then_curve, then_number, then_curves, then_numbers}

-- ---- one step
numbers_found : (xs : List Ext) → HasAnswer (MakesNumber (Sums xs))
numbers_found xs = number_found (Sums xs) (number_sum xs)

cut_found : (B : SpecCurve) (P : Answer → Type 0) → HasAnswer P → GivesCurve P (λ f. HasAnswer (Applies Min f B)) → HasAnswer (CutsBy B P)
cut_found B P h gives =
    let again = value_found (MakesCurve (IsAgain B)) (curve B) refl in
    let t = then_curves P (MakesCurve (IsAgain B)) (λ f g. MakesCurve (Applies Min f g)) h again
    (gives_curve P (λ f. HasAnswer (Applies Min f B)) (λ f. GivesCurve (MakesCurve (IsAgain B)) (λ g. HasAnswer (MakesCurve (Applies Min f g))))
    (λ f m. made_gives (IsAgain B) (λ g. HasAnswer (MakesCurve (Applies Min f g)))
    (λ g same. subst (λ z. HasAnswer (MakesCurve (Applies Min f z))) (sym same) (curve_found (Applies Min f B) m))) gives) in
    record { answer = t.answer; is = t.is; found = t.found }

-- ---- formulas
pub formula_from : (at : CellTable) (F : Formula) (fs : List SpecCurve) → CallsAreFound at F fs → HasAnswer (AnswersFrom at F fs)
formula_from at (value_of c) fs h = value_found (AnswersFrom at (value_of c) fs) h.0 h.1
formula_from at (given f) fs h = value_found (AnswersFrom at (given f) fs) (curve f) refl
formula_from at empty_sum fs h = value_found (AnswersFrom at empty_sum fs) (curve zero_curve) refl
formula_from at (made op F G) fs h =
    let P = AnswersFrom at F [] in
    let Q = AnswersFrom at G [] in
    found_as (ThenCurves P Q (λ f g. MakesCurve (Applies op f g))) (AnswersFrom at (made op F G) fs) (λ r k. k)
    (then_curves P Q (λ f g. MakesCurve (Applies op f g)) (formula_from at F [] h.0) (formula_from at G [] h.1)
    (gives_curve P (λ f. GivesCurve Q (λ g. HasAnswer (Applies op f g))) (λ f. GivesCurve Q (λ g. HasAnswer (MakesCurve (Applies op f g))))
    (λ f m. gives_curve Q (λ g. HasAnswer (Applies op f g)) (λ g. HasAnswer (MakesCurve (Applies op f g))) (λ g n. curve_found (Applies op f g) n) m) h.2))
formula_from at (made_of op F) fs h =
    let P = AnswersFrom at F [] in
    let t = then_curve P (λ f. MakesCurve (AppliesTo op f)) (formula_from at F [] h.0)
    (gives_curve P (λ f. HasAnswer (AppliesTo op f)) (λ f. HasAnswer (MakesCurve (AppliesTo op f))) (λ f m. curve_found (AppliesTo op f) m) h.1) in
    record { answer = t.answer; is = t.is; found = t.found }
formula_from at (moved F T) fs h =
    let P = AnswersFrom at F [] in
    let Q = AnswersFrom at T [] in
    let t = then_curve P (λ f. ThenNumber Q (λ x. MakesCurve (AppliesTo (Shift x) f))) (formula_from at F [] h.0)
    (gives_curve P (λ f. GivesNumber Q (λ x. HasAnswer (AppliesTo (Shift x) f))) (λ f. HasAnswer (ThenNumber Q (λ x. MakesCurve (AppliesTo (Shift x) f))))
    (λ f m. then_number Q (λ x. MakesCurve (AppliesTo (Shift x) f)) (formula_from at T [] h.1)
    (gives_number Q (λ x. HasAnswer (AppliesTo (Shift x) f)) (λ x. HasAnswer (MakesCurve (AppliesTo (Shift x) f))) (λ x n. curve_found (AppliesTo (Shift x) f) n) m)) h.2) in
    record { answer = t.answer; is = t.is; found = t.found }
formula_from at (cut F server bits rate) fs h =
    let t = cut_found (bucket (whole bits) rate) (AnswersFrom at F []) (formula_from at F [] h.0) h.1 in
    record { answer = t.answer; is = t.is; found = t.found }
formula_from at (part F G) fs h =
    let P = AnswersFrom at F [] in
    let t = then_curve P (λ f. AnswersFrom at G (fs ++ f ∷ [])) (formula_from at F [] h.0)
    (gives_curve P (λ f. CallsAreFound at G (fs ++ f ∷ [])) (λ f. HasAnswer (AnswersFrom at G (fs ++ f ∷ []))) (λ f m. formula_from at G (fs ++ f ∷ []) m) h.1) in
    record { answer = t.answer; is = t.is; found = t.found }
formula_from at no_part fs h = record { answer = h.answer; is = h.is; found = h.found }
formula_from at (leftover F G T) fs h =
    let P = AnswersFrom at F [] in
    let Q = AnswersFrom at G [] in
    let R = AnswersFrom at T [] in
    let last = formula_from at T [] h.2 in
    let t = then_curves P Q (λ f g. ThenNumber R (λ x. MakesCurve (Applies (FifoLeft x) f g))) (formula_from at F [] h.0) (formula_from at G [] h.1)
    (gives_curve P (λ f. GivesCurve Q (λ g. GivesNumber R (λ x. HasAnswer (Applies (FifoLeft x) f g))))
    (λ f. GivesCurve Q (λ g. HasAnswer (ThenNumber R (λ x. MakesCurve (Applies (FifoLeft x) f g)))))
    (λ f m. gives_curve Q (λ g. GivesNumber R (λ x. HasAnswer (Applies (FifoLeft x) f g))) (λ g. HasAnswer (ThenNumber R (λ x. MakesCurve (Applies (FifoLeft x) f g))))
    (λ g n. then_number R (λ x. MakesCurve (Applies (FifoLeft x) f g)) last
    (gives_number R (λ x. HasAnswer (Applies (FifoLeft x) f g)) (λ x. HasAnswer (MakesCurve (Applies (FifoLeft x) f g))) (λ x o. curve_found (Applies (FifoLeft x) f g) o) n)) m) h.3) in
    record { answer = t.answer; is = t.is; found = t.found }
formula_from at (priority f F lower) fs h =
    let P = AnswersFrom at F [] in
    let t = then_curve P (λ g. MakesCurve (MakesPriority f g lower)) (formula_from at F [] h.0)
    (gives_curve P (λ g. HasAnswer (MakesPriority f g lower)) (λ g. HasAnswer (MakesCurve (MakesPriority f g lower))) (λ g m. curve_found (MakesPriority f g lower) m) h.1) in
    record { answer = t.answer; is = t.is; found = t.found }
formula_from at (deficit f quanta longest queue) fs h =
    let t = curve_found (MakesDrr f quanta longest queue) h in
    record { answer = t.answer; is = t.is; found = t.found }
formula_from at (horizontal F G) fs h =
    let P = AnswersFrom at F [] in
    let Q = AnswersFrom at G [] in
    let D = Deviates Horizontal IsHorizontalDeviation in
    let t = then_curves P Q (λ f g. MakesNumber (D f g)) (formula_from at F [] h.0) (formula_from at G [] h.1)
    (gives_curve P (λ f. GivesCurve Q (λ g. HasAnswer (D f g))) (λ f. GivesCurve Q (λ g. HasAnswer (MakesNumber (D f g))))
    (λ f m. gives_curve Q (λ g. HasAnswer (D f g)) (λ g. HasAnswer (MakesNumber (D f g))) (λ g n. number_found (D f g) n) m) h.2) in
    record { answer = t.answer; is = t.is; found = t.found }
formula_from at (vertical F G) fs h =
    let P = AnswersFrom at F [] in
    let Q = AnswersFrom at G [] in
    let D = Deviates Vertical IsVerticalDeviation in
    let t = then_curves P Q (λ f g. MakesNumber (D f g)) (formula_from at F [] h.0) (formula_from at G [] h.1)
    (gives_curve P (λ f. GivesCurve Q (λ g. HasAnswer (D f g))) (λ f. GivesCurve Q (λ g. HasAnswer (MakesNumber (D f g))))
    (λ f m. gives_curve Q (λ g. HasAnswer (D f g)) (λ g. HasAnswer (MakesNumber (D f g))) (λ g n. number_found (D f g) n) m) h.2) in
    record { answer = t.answer; is = t.is; found = t.found }
formula_from at (smaller F G) fs h =
    let P = AnswersFrom at F [] in
    let Q = AnswersFrom at G [] in
    let O = λ (x y : Ext). IsOnly (λ v. v ≡ number (min_ext x y)) in
    let t = then_numbers P Q O (formula_from at F [] h.0) (formula_from at G [] h.1)
    (gives_number P (λ x. GivesNumber Q (λ y. Unit {0})) (λ x. GivesNumber Q (λ y. HasAnswer (O x y)))
    (λ x m. gives_number Q (λ y. Unit {0}) (λ y. HasAnswer (O x y)) (λ y n. value_found (O x y) (number (min_ext x y)) refl) m) h.2) in
    record { answer = t.answer; is = t.is; found = t.found }
formula_from at (along cells links) fs h =
    let t = numbers_found (with_links h.0 links) in
    record { answer = t.answer; is = record { numbers = h.0; are = h.1; answers = t.is }; found = t.found }
formula_from at (delayed F links) fs h =
    let P = AnswersFrom at F [] in
    let t = then_number P (λ x. MakesNumber (Sums (with_links (x ∷ []) links))) (formula_from at F [] h.0)
    (gives_number P (λ x. Unit {0}) (λ x. HasAnswer (MakesNumber (Sums (with_links (x ∷ []) links)))) (λ x m. numbers_found (with_links (x ∷ []) links)) h.1) in
    record { answer = t.answer; is = t.is; found = t.found }

pub formulas : FormulasHaveAnswers
formulas at F h = formula_from at F [] h
