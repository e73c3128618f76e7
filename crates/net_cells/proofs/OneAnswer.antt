-- What making a formula's value answers is determined.
use Rattle.std.proofs.Common.{◌≡◌, ◌≢◌, List, [], ◌∷◌, ◌++◌, refl, sym, ap, ◌∙◌, subst, arith}
use Rattle.std.specs.Prelude.{Some, Result, Ok, Err}
use Rattle.rational.specs.Rational.{ℚ}
use Rattle.rational.specs.Extended.{Ext, min_ext}
use Rattle.upp_limits.specs.declared.op_kind.OpKind.{OpKind}
use Rattle.upp_limits.specs.declared.op_kind.OpKind.TheVariants.{Sum, Min, Shift, FifoLeft, Horizontal, Vertical}
use Rattle.upp_limits.specs.declared.op_kind.OpFault.{OpFault}
use Rattle.upp_limits.specs.declared.op_kind.OpFault.TheVariants.{TooMany, TooWide, NoMemory}
use Rattle.upp_curve.specs.Curve.{SpecCurve, value_at}
use Rattle.upp_curve.specs.Kinds.{bucket}
use Rattle.run_laws.specs.Cards.{whole}
use Rattle.min_plus.specs.Deviations.{IsHorizontalDeviation, IsVerticalDeviation}
use Rattle.upp_limits.specs.Outcome.{IsWithin, IsCauseOf}
use Rattle.min_plus.proofs.Unambiguous.{deviations_are_unique}
use Rattle.residuals.specs.CurveCalls.{IsAgain, again_determined, Applies, AppliesTo, IsDetermined}
use Rattle.residuals.proofs.CurveCalls.{applies_determined}
use Rattle.outcomes.proofs.Calls.{then_determined}
use Rattle.residuals.specs.calls.PriorityCalls.{MakesPriority}
use Rattle.residuals.proofs.calls.PriorityCalls as priority_calls
use Rattle.residuals.specs.calls.DrrCalls.{MakesDrr}
use Rattle.residuals.proofs.calls.DrrCalls as drr_calls
use Rattle.net_cells.specs.declared.cell.Cell.{Cell}
use Rattle.net_cells.specs.Numbered.{zero_curve}
use Rattle.net_cells.specs.Meanings.{Meaning, curve, number, CellTable}
use Rattle.net_cells.specs.NumberSums.{Sums}
use Rattle.net_cells.specs.Formulas.{Formula, value_of, given, empty_sum, made, made_of, moved, cut, part, no_part, leftover, priority, deficit, horizontal, vertical, smaller, along, delayed}
use Rattle.net_cells.specs.Means.{with_links}
use Rattle.net_cells.specs.Answers.{Answer, Answers, AnswersFrom, SumsOnto, SumsOf, IsOnly, MakesCurve, MakesNumber, Deviates, OnCurve, OnNumber, ThenCurve, ThenNumber, ThenCells}
use Rattle.net_cells.proofs.OneMeaning.{IsOne, have_numbers_one}

-- ---- one call
only_determined : (P : Meaning → Type 0) → IsOne P → IsDetermined (IsOnly P)
only_determined P one (Ok v) (Ok w) a b m n = ap Ok (one v w a b)
only_determined P one (Ok v) (Err e) a b m n = absurd b
only_determined P one (Err e) s a b m n = absurd a

pub curve_determined : (P : Result SpecCurve OpFault → Type 0) → IsDetermined P → IsDetermined (MakesCurve P)
curve_determined P d (Ok (curve f)) (Ok (curve g)) a b m n =
    let same : Ok f ≡ Ok g = d (Ok f) (Ok g) a b (λ k. cc) (λ k. cc) in
    let one : f ≡ g = cc in
    ap (λ h. Ok (curve h)) one
curve_determined P d (Ok (curve f)) (Ok (number y)) a b m n = absurd b
curve_determined P d (Ok (curve f)) (Err e) a b m n =
    absurd (let same : Ok f ≡ Err e = d (Ok f) (Err e) a b (λ k. cc) (λ k. n cc) in cc)
curve_determined P d (Ok (number x)) s a b m n = absurd a
curve_determined P d (Err e) (Ok (curve g)) a b m n =
    absurd (let same : Err e ≡ Ok g = d (Err e) (Ok g) a b (λ k. m cc) (λ k. cc) in cc)
curve_determined P d (Err e) (Ok (number y)) a b m n = absurd b
curve_determined P d (Err e) (Err f) a b m n =
    let same : Err e ≡ Err f = d (Err e) (Err f) a b (λ k. m cc) (λ k. n cc) in
    let one : e ≡ f = cc in
    ap Err one

number_determined : (P : Result Ext OpFault → Type 0) → IsDetermined P → IsDetermined (MakesNumber P)
number_determined P d (Ok (number f)) (Ok (number g)) a b m n =
    let same : Ok f ≡ Ok g = d (Ok f) (Ok g) a b (λ k. cc) (λ k. cc) in
    let one : f ≡ g = cc in
    ap (λ h. Ok (number h)) one
number_determined P d (Ok (number f)) (Ok (curve y)) a b m n = absurd b
number_determined P d (Ok (number f)) (Err e) a b m n =
    absurd (let same : Ok f ≡ Err e = d (Ok f) (Err e) a b (λ k. cc) (λ k. n cc) in cc)
number_determined P d (Ok (curve x)) s a b m n = absurd a
number_determined P d (Err e) (Ok (number g)) a b m n =
    absurd (let same : Err e ≡ Ok g = d (Err e) (Ok g) a b (λ k. m cc) (λ k. cc) in cc)
number_determined P d (Err e) (Ok (curve y)) a b m n = absurd b
number_determined P d (Err e) (Err f) a b m n =
    let same : Err e ≡ Err f = d (Err e) (Err f) a b (λ k. m cc) (λ k. n cc) in
    let one : e ≡ f = cc in
    ap Err one

-- ---- deviations and sums
not_within : (op : OpKind) (f g : SpecCurve) (fault : OpFault) → fault ≢ NoMemory → IsWithin op f g
    → ¬ (IsCauseOf op f g fault)
not_within op f g TooMany m within cause = within.few cause
not_within op f g TooWide m within cause = within.narrow cause
not_within op f g NoMemory m within cause = m refl

deviates_determined : (op : OpKind) (D : (ℚ → Ext) → (ℚ → Ext) → Ext → Type 0) (f g : SpecCurve)
    → IsOne (D (value_at f) (value_at g)) → IsDetermined (Deviates op D f g)
deviates_determined op D f g one (Ok x) (Ok y) a b m n = ap Ok (one x y a.1 b.1)
deviates_determined op D f g one (Ok x) (Err e) a b m n = absurd (not_within op f g e b.1 a.0 b.0)
deviates_determined op D f g one (Err e) (Ok y) a b m n = absurd (not_within op f g e a.1 b.0 a.0)
deviates_determined op D f g one (Err e) (Err k) a b m n =
    let same : Err e ≡ Err k = applies_determined.answer op f g (Err e) (Err k) a.0 b.0 (λ h. m cc) (λ h. n cc) in
    let one : e ≡ k = cc in
    ap Err one

sums_determined : (xs : List Ext) → IsDetermined (Sums xs)
sums_determined xs (Ok x) (Ok y) a b m n = ap Ok (a.1 ∙ sym b.1)
sums_determined xs (Ok x) (Err TooMany) a b m n = let few = a.0.few in absurd (omega (arith, few, b.1))
sums_determined xs (Ok x) (Err TooWide) a b m n = let narrow = a.0.narrow in absurd (omega (arith, narrow, b))
sums_determined xs (Ok x) (Err NoMemory) a b m n = absurd b
sums_determined xs (Err TooMany) (Ok y) a b m n = let few = b.0.few in absurd (omega (arith, few, a.1))
sums_determined xs (Err TooWide) (Ok y) a b m n = let narrow = b.0.narrow in absurd (omega (arith, narrow, a))
sums_determined xs (Err NoMemory) s a b m n = absurd a
sums_determined xs (Err TooMany) (Err TooMany) a b m n = refl
sums_determined xs (Err TooMany) (Err TooWide) a b m n = absurd (omega (arith, a.0, b))
sums_determined xs (Err TooMany) (Err NoMemory) a b m n = absurd b
sums_determined xs (Err TooWide) (Err TooMany) a b m n = absurd (omega (arith, a, b.0))
sums_determined xs (Err TooWide) (Err TooWide) a b m n = refl
sums_determined xs (Err TooWide) (Err NoMemory) a b m n = absurd b

-- ---- on operands
on_curve : (Q : SpecCurve → Answer → Type 0) → ((f : SpecCurve) → IsDetermined (Q f)) → (v : Meaning)
    → IsDetermined (OnCurve Q v)
on_curve Q q (curve f) r s a b m n = q f r s a b m n
on_curve Q q (number x) r s a b m n = absurd a

on_number : (Q : Ext → Answer → Type 0) → ((x : Ext) → IsDetermined (Q x)) → (v : Meaning) → IsDetermined (OnNumber Q v)
on_number Q q (curve f) r s a b m n = absurd a
on_number Q q (number x) r s a b m n = q x r s a b m n

then_curve : (P : Answer → Type 0) (Q : SpecCurve → Answer → Type 0) → IsDetermined P
    → ((f : SpecCurve) → IsDetermined (Q f))
    → IsDetermined (ThenCurve P Q)
then_curve P Q p q = then_determined P (OnCurve Q) p (on_curve Q q)

then_number : (P : Answer → Type 0) (Q : Ext → Answer → Type 0) → IsDetermined P → ((x : Ext) → IsDetermined (Q x))
    → IsDetermined (ThenNumber P Q)
then_number P Q p q = then_determined P (OnNumber Q) p (on_number Q q)

then_cells : (at : CellTable) (cells : List Cell) (Q : List Ext → Answer → Type 0)
    → ((xs : List Ext) → IsDetermined (Q xs))
    → IsDetermined (ThenCells at cells Q)
then_cells at cells Q q r s a b m n =
    let one : a.numbers ≡ b.numbers = have_numbers_one at cells a.numbers b.numbers a.are b.are in
    q b.numbers r s (subst (λ xs. Q xs r) one a.answers) b.answers m n

-- ---- formulas
pub made_determined : (op : OpKind) (f g : SpecCurve) → IsDetermined (MakesCurve (Applies op f g))
made_determined op f g = curve_determined (Applies op f g) (applies_determined.answer op f g)

sum_onto_determined : (f : SpecCurve) (fs : List SpecCurve) → IsDetermined (SumsOnto f fs)
sum_onto_determined f [] r s a b m n = curve_determined (IsAgain f) (again_determined f) r s a b m n
sum_onto_determined f (g ∷ gs) r s a b m n =
    then_curve (MakesCurve (Applies Sum f g)) (λ h. SumsOnto h gs) (made_determined Sum f g) (λ h. sum_onto_determined h gs)
    r s a b m n

sum_determined : (fs : List SpecCurve) → IsDetermined (SumsOf fs)
sum_determined [] r s a b m n = curve_determined (IsAgain zero_curve) (again_determined zero_curve) r s a b m n
sum_determined (f ∷ fs) r s a b m n = sum_onto_determined f fs r s a b m n

answers_from_one : (at : CellTable) (F : Formula) (fs : List SpecCurve) → IsDetermined (AnswersFrom at F fs)
answers_from_one at (value_of c) fs r s a b m n =
    only_determined (λ v. at c ≡ Some v) (λ v w h k. let same : Some v ≡ Some w = sym h ∙ k in cc) r s a b m n
answers_from_one at (given f) fs r s a b m n = curve_determined (IsAgain f) (again_determined f) r s a b m n
answers_from_one at empty_sum fs r s a b m n = curve_determined (IsAgain zero_curve) (again_determined zero_curve) r s a b m n
answers_from_one at (made op F G) fs r s a b m n =
    then_curve (Answers at F) (λ f. ThenCurve (Answers at G) (λ g. MakesCurve (Applies op f g))) (answers_from_one at F [])
    (λ f. then_curve (Answers at G) (λ g. MakesCurve (Applies op f g)) (answers_from_one at G []) (λ g. made_determined op f g))
    r s a b m n
answers_from_one at (made_of op F) fs r s a b m n =
    then_curve (Answers at F) (λ f. MakesCurve (AppliesTo op f)) (answers_from_one at F []) (λ f. made_determined op f f)
    r s a b m n
answers_from_one at (moved F T) fs r s a b m n =
    then_curve (Answers at F) (λ f. ThenNumber (Answers at T) (λ x. MakesCurve (AppliesTo (Shift x) f)))
    (answers_from_one at F [])
    (λ f. then_number (Answers at T) (λ x. MakesCurve (AppliesTo (Shift x) f)) (answers_from_one at T [])
    (λ x. made_determined (Shift x) f f))
    r s a b m n
answers_from_one at (cut F server bits rate) fs r s a b m n =
    let B = bucket (whole bits) rate in
    then_curve (Answers at F) (λ f. ThenCurve (MakesCurve (IsAgain B)) (λ g. MakesCurve (Applies Min f g)))
    (answers_from_one at F [])
    (λ f. then_curve (MakesCurve (IsAgain B)) (λ g. MakesCurve (Applies Min f g)) (curve_determined (IsAgain B) (again_determined B))
    (λ g. made_determined Min f g))
    r s a b m n
answers_from_one at (part F G) fs r s a b m n =
    then_curve (Answers at F) (λ f. AnswersFrom at G (fs ++ f ∷ [])) (answers_from_one at F [])
    (λ f. answers_from_one at G (fs ++ f ∷ []))
    r s a b m n
answers_from_one at no_part fs r s a b m n = sum_determined fs r s a b m n
answers_from_one at (leftover F G T) fs r s a b m n =
    then_curve (Answers at F)
    (λ f. ThenCurve (Answers at G) (λ g. ThenNumber (Answers at T) (λ x. MakesCurve (Applies (FifoLeft x) f g))))
    (answers_from_one at F [])
    (λ f. then_curve (Answers at G) (λ g. ThenNumber (Answers at T) (λ x. MakesCurve (Applies (FifoLeft x) f g)))
    (answers_from_one at G [])
    (λ g. then_number (Answers at T) (λ x. MakesCurve (Applies (FifoLeft x) f g)) (answers_from_one at T [])
    (λ x. made_determined (FifoLeft x) f g)))
    r s a b m n
answers_from_one at (priority f F lower) fs r s a b m n =
    then_curve (Answers at F) (λ g. MakesCurve (MakesPriority f g lower)) (answers_from_one at F [])
    (λ g. curve_determined (MakesPriority f g lower) (priority_calls.is_determined f g lower))
    r s a b m n
answers_from_one at (deficit f quanta longest queue) fs r s a b m n =
    curve_determined (MakesDrr f quanta longest queue) (drr_calls.is_determined f quanta longest queue) r s a b m n
answers_from_one at (horizontal F G) fs r s a b m n =
    then_curve (Answers at F)
    (λ f. ThenCurve (Answers at G) (λ g. MakesNumber (Deviates Horizontal IsHorizontalDeviation f g)))
    (answers_from_one at F [])
    (λ f. then_curve (Answers at G) (λ g. MakesNumber (Deviates Horizontal IsHorizontalDeviation f g))
    (answers_from_one at G [])
    (λ g. number_determined (Deviates Horizontal IsHorizontalDeviation f g)
    (deviates_determined Horizontal IsHorizontalDeviation f g
    (λ x y. (deviations_are_unique (value_at f) (value_at g) x y).0))))
    r s a b m n
answers_from_one at (vertical F G) fs r s a b m n =
    then_curve (Answers at F)
    (λ f. ThenCurve (Answers at G) (λ g. MakesNumber (Deviates Vertical IsVerticalDeviation f g))) (answers_from_one at F [])
    (λ f. then_curve (Answers at G) (λ g. MakesNumber (Deviates Vertical IsVerticalDeviation f g)) (answers_from_one at G [])
    (λ g. number_determined (Deviates Vertical IsVerticalDeviation f g)
    (deviates_determined Vertical IsVerticalDeviation f g
    (λ x y. (deviations_are_unique (value_at f) (value_at g) x y).1))))
    r s a b m n
answers_from_one at (smaller F G) fs r s a b m n =
    then_number (Answers at F) (λ x. ThenNumber (Answers at G) (λ y. IsOnly (λ v. v ≡ number (min_ext x y))))
    (answers_from_one at F [])
    (λ x. then_number (Answers at G) (λ y. IsOnly (λ v. v ≡ number (min_ext x y))) (answers_from_one at G [])
    (λ y. only_determined (λ v. v ≡ number (min_ext x y)) (λ v w h k. h ∙ sym k)))
    r s a b m n
answers_from_one at (along cells links) fs r s a b m n =
    then_cells at cells (λ xs. MakesNumber (Sums (with_links xs links)))
    (λ xs. number_determined (Sums (with_links xs links)) (sums_determined (with_links xs links)))
    r s a b m n
answers_from_one at (delayed F links) fs r s a b m n =
    then_number (Answers at F) (λ x. MakesNumber (Sums (with_links (x ∷ []) links))) (answers_from_one at F [])
    (λ x. number_determined (Sums (with_links (x ∷ []) links)) (sums_determined (with_links (x ∷ []) links)))
    r s a b m n

pub answers_one : (at : CellTable) (F : Formula) → IsDetermined (Answers at F)
answers_one at F = answers_from_one at F []
