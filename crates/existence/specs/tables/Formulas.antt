-- A formula has an answer that is not want of memory, where each of its calls has one. Own choice.
use Rattle.std.specs.Prelude.{◌≡◌, List, [], ◌∷◌, ◌++◌, Some, Ok}
use Rattle.rational.specs.Extended.{Ext}
use Rattle.min_plus.specs.Deviations.{IsHorizontalDeviation, IsVerticalDeviation}
use Rattle.upp_curve.specs.Curve.{SpecCurve}
use Rattle.upp_curve.specs.Curves.{IsCurve}
use Rattle.upp_curve.specs.Kinds.{bucket}
use Rattle.upp_limits.specs.declared.op_kind.OpKind.TheVariants.{Sum, Min, Shift, FifoLeft, Horizontal, Vertical}
use Rattle.run_laws.specs.Cards.{whole}
use Rattle.curve_call.specs.Calls.{Applies, AppliesTo}
use Rattle.residuals.specs.calls.PriorityCalls.{MakesPriority}
use Rattle.residuals.specs.calls.DrrCalls.{MakesDrr}
use Rattle.net_cells.specs.Answers.{Answer, Answers, AnswersFrom, Deviates, SumsOf}
use Rattle.net_cells.specs.Formulas.{Formula, value_of, given, empty_sum, made, made_of, moved, cut, part, no_part, leftover, priority, deficit, horizontal, vertical, smaller, along, delayed}
use Rattle.net_cells.specs.Meanings.{Meaning, CellTable, IsCurveIn, IsNumberIn}
use Rattle.net_cells.specs.Means.{HaveNumbers}
use Rattle.existence.specs.curves.Answered.{HasAnswer}

-- what P answers, if it is a value, is a curve of a sort, or a number of a sort
abbrev pub GivesCurve : (Answer → Type 0) → (SpecCurve → Type 0) → Type 0
GivesCurve P Q = (v : Meaning) → P (Ok v) → IsCurveIn Q v

abbrev pub GivesNumber : (Answer → Type 0) → (Ext → Type 0) → Type 0
GivesNumber P Q = (v : Meaning) → P (Ok v) → IsNumberIn Q v

-- ---- sums of curves
abbrev pub EachIsCurve : List SpecCurve → Type 0
EachIsCurve [] = Unit {0}
EachIsCurve (f ∷ fs) = IsCurve f × EachIsCurve fs

-- where two have a sum, so have several
abbrev pub CurveSumsExist : Type 0
CurveSumsExist =
    ((f g : SpecCurve) → IsCurve f → IsCurve g → HasAnswer (Applies Sum f g)) → (fs : List SpecCurve) → EachIsCurve fs → HasAnswer (SumsOf fs)

-- ---- formulas
-- the cells have values, and each call that is made of what the parts before it answer has an answer
abbrev pub CallsAreFound : CellTable → Formula → List SpecCurve → Type 0
CallsAreFound at (value_of c) fs = (v : Meaning) × (at c ≡ Some v)
CallsAreFound at (given f) fs = Unit {0}
CallsAreFound at empty_sum fs = Unit {0}
CallsAreFound at (made op F G) fs = CallsAreFound at F [] × CallsAreFound at G []
    × GivesCurve (AnswersFrom at F []) (λ f. GivesCurve (AnswersFrom at G []) (λ g. HasAnswer (Applies op f g)))
CallsAreFound at (made_of op F) fs = CallsAreFound at F [] × GivesCurve (AnswersFrom at F []) (λ f. HasAnswer (AppliesTo op f))
CallsAreFound at (moved F T) fs = CallsAreFound at F [] × CallsAreFound at T []
    × GivesCurve (AnswersFrom at F []) (λ f. GivesNumber (AnswersFrom at T []) (λ x. HasAnswer (AppliesTo (Shift x) f)))
CallsAreFound at (cut F server bits rate) fs = CallsAreFound at F []
    × GivesCurve (AnswersFrom at F []) (λ f. HasAnswer (Applies Min f (bucket (whole bits) rate)))
CallsAreFound at (part F G) fs = CallsAreFound at F [] × GivesCurve (AnswersFrom at F []) (λ f. CallsAreFound at G (fs ++ f ∷ []))
CallsAreFound at no_part fs = HasAnswer (SumsOf fs)
CallsAreFound at (leftover F G T) fs = CallsAreFound at F [] × CallsAreFound at G [] × CallsAreFound at T []
    × GivesCurve (AnswersFrom at F []) (λ f. GivesCurve (AnswersFrom at G []) (λ g. GivesNumber (AnswersFrom at T []) (λ x. HasAnswer (Applies (FifoLeft x) f g))))
CallsAreFound at (priority f F lower) fs = CallsAreFound at F [] × GivesCurve (AnswersFrom at F []) (λ g. HasAnswer (MakesPriority f g lower))
CallsAreFound at (deficit f quanta longest queue) fs = HasAnswer (MakesDrr f quanta longest queue)
CallsAreFound at (horizontal F G) fs = CallsAreFound at F [] × CallsAreFound at G []
    × GivesCurve (AnswersFrom at F []) (λ f. GivesCurve (AnswersFrom at G []) (λ g. HasAnswer (Deviates Horizontal IsHorizontalDeviation f g)))
CallsAreFound at (vertical F G) fs = CallsAreFound at F [] × CallsAreFound at G []
    × GivesCurve (AnswersFrom at F []) (λ f. GivesCurve (AnswersFrom at G []) (λ g. HasAnswer (Deviates Vertical IsVerticalDeviation f g)))
CallsAreFound at (smaller F G) fs = CallsAreFound at F [] × CallsAreFound at G []
    × GivesNumber (AnswersFrom at F []) (λ x. GivesNumber (AnswersFrom at G []) (λ y. Unit {0}))
CallsAreFound at (along cells links) fs = (xs : List Ext) × HaveNumbers at cells xs
CallsAreFound at (delayed F links) fs = CallsAreFound at F [] × GivesNumber (AnswersFrom at F []) (λ x. Unit {0})

abbrev pub FormulasHaveAnswers : Type 0
FormulasHaveAnswers = (at : CellTable) (F : Formula) → CallsAreFound at F [] → HasAnswer (Answers at F)
