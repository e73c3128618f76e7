-- A formula means one value by one table.
use Rattle.std.proofs.Common.{◌≡◌, ℕ, List, [], ◌∷◌, ◌++◌, refl, sym, ap, ap₂, ◌∙◌, subst}
use Rattle.std.specs.Prelude.{Some}
use Rattle.rational.specs.Extended.{Ext, min_ext}
use Rattle.rational.proofs.Bounds.{supremum_unique}
use Rattle.upp_limits.specs.declared.op_kind.OpKind.TheVariants.{Sum, Min, Shift, FifoLeft}
use Rattle.upp_curve.specs.Curve.{SpecCurve, value_at}
use Rattle.min_plus.specs.Deviations.{IsHorizontalDeviation, IsVerticalDeviation}
use Rattle.upp_curve.proofs.OneForm.{normal_unique}
use Rattle.min_plus.proofs.Unambiguous.{deviations_are_unique}
use Rattle.upp_curve.specs.Kinds.{bucket}
use Rattle.run_laws.specs.Cards.{whole}
use Rattle.residuals.specs.CurveCalls.{IsMadeBy}
use Rattle.residuals.proofs.CurveCalls.{made_unique}
use Rattle.net_cells.specs.declared.cell.Cell.{Cell}
use Rattle.net_cells.specs.Numbered.{zero_curve}
use Rattle.net_cells.specs.Meanings.{Meaning, curve, number, CellTable, IsCurveIn, IsNumberIn}
use Rattle.net_cells.specs.NumberSums.{sum_of_numbers}
use Rattle.net_cells.specs.Formulas.{Formula, value_of, given, empty_sum, made, made_of, moved, cut, part, no_part, leftover, priority, deficit, horizontal, vertical, smaller, along, delayed}
use Rattle.net_cells.specs.Means.{Means, MeansFrom, IsSumOnto, IsSumOf, OfCurve, OfNumber, OfCells, HaveNumbers, IsPriorityCurve, IsDrrCurve, with_links}

abbrev pub IsOne : {A : Type 0} → (A → Type 0) → Type 0
IsOne {A} P = (v w : A) → P v → P w → v ≡ w

-- ---- of some sort
curve_in_one : (P : SpecCurve → Type 0) → IsOne P → IsOne (IsCurveIn P)
curve_in_one P one (curve f) (curve g) a b = ap curve (one f g a b)
curve_in_one P one (curve f) (number x) a b = absurd b
curve_in_one P one (number x) w a b = absurd a

number_in_one : (P : Ext → Type 0) → IsOne P → IsOne (IsNumberIn P)
number_in_one P one (number x) (number y) a b = ap number (one x y a b)
number_in_one P one (number x) (curve f) a b = absurd b
number_in_one P one (curve f) w a b = absurd a

equal_one : (v : Meaning) → IsOne (λ w. w ≡ v)
equal_one v w u a b = a ∙ sym b

-- ---- of operands
of_curve_one : (P : Meaning → Type 0) (R : SpecCurve → Meaning → Type 0) → IsOne P → ((f : SpecCurve) → IsOne (R f))
    → IsOne (OfCurve P R)
of_curve_one P R p r v w a b =
    let same : curve a.operand ≡ curve b.operand = p (curve a.operand) (curve b.operand) a.is b.is in
    let one : a.operand ≡ b.operand = cc in
    r b.operand v w (subst (λ f. R f v) one a.gives) b.gives

of_number_one : (P : Meaning → Type 0) (R : Ext → Meaning → Type 0) → IsOne P → ((x : Ext) → IsOne (R x))
    → IsOne (OfNumber P R)
of_number_one P R p r v w a b =
    let same : number a.operand ≡ number b.operand = p (number a.operand) (number b.operand) a.is b.is in
    let one : a.operand ≡ b.operand = cc in
    r b.operand v w (subst (λ x. R x v) one a.gives) b.gives

pub have_numbers_one : (at : CellTable) (cells : List Cell) → IsOne (HaveNumbers at cells)
have_numbers_one at [] [] [] a b = refl
have_numbers_one at [] [] (y ∷ ys) a b = absurd b
have_numbers_one at [] (x ∷ xs) ys a b = absurd a
have_numbers_one at (c ∷ cs) [] ys a b = absurd a
have_numbers_one at (c ∷ cs) (x ∷ xs) [] a b = absurd b
have_numbers_one at (c ∷ cs) (x ∷ xs) (y ∷ ys) a b =
    let same : Some (number x) ≡ Some (number y) = sym a.0 ∙ b.0 in
    let one : x ≡ y = cc in
    ap₂ ◌∷◌ one (have_numbers_one at cs xs ys a.1 b.1)

of_cells_one : (at : CellTable) (cells : List Cell) (R : List Ext → Meaning → Type 0) → ((xs : List Ext) → IsOne (R xs))
    → IsOne (OfCells at cells R)
of_cells_one at cells R r v w a b =
    let one : a.numbers ≡ b.numbers = have_numbers_one at cells a.numbers b.numbers a.are b.are in
    r b.numbers v w (subst (λ xs. R xs v) one a.gives) b.gives

-- ---- services of queues
priority_one : (β higher : SpecCurve) (lower : ℕ) → IsOne (IsPriorityCurve β higher lower)
priority_one β higher lower h k a b =
    normal_unique h k a.curve.normal b.curve.normal
    (λ t p. supremum_unique _ (value_at h t) (value_at k t) (a.serves t p) (b.serves t p))

drr_one : (β : SpecCurve) (quanta longest : List ℕ) (queue : ℕ) → IsOne (IsDrrCurve β quanta longest queue)
drr_one β quanta longest queue h k a b =
    normal_unique h k a.curve.normal b.curve.normal (λ t p. a.serves t p ∙ sym (b.serves t p))

-- ---- formulas
sum_onto_one : (f : SpecCurve) (fs : List SpecCurve) → IsOne (IsSumOnto f fs)
sum_onto_one f [] v w a b = equal_one (curve f) v w a b
sum_onto_one f (g ∷ gs) v w a b =
    of_curve_one (IsCurveIn (IsMadeBy Sum f g)) (λ h. IsSumOnto h gs) (curve_in_one (IsMadeBy Sum f g) (made_unique Sum f g))
    (λ h. sum_onto_one h gs)
    v w a b

sum_one : (fs : List SpecCurve) → IsOne (IsSumOf fs)
sum_one [] v w a b = equal_one (curve zero_curve) v w a b
sum_one (f ∷ fs) v w a b = sum_onto_one f fs v w a b

means_from_one : (at : CellTable) (F : Formula) (fs : List SpecCurve) → IsOne (MeansFrom at F fs)
means_from_one at (value_of c) fs v w a b = let same : Some v ≡ Some w = sym a ∙ b in cc
means_from_one at (given f) fs v w a b = a ∙ sym b
means_from_one at empty_sum fs v w a b = a ∙ sym b
means_from_one at (made op F G) fs v w a b =
    of_curve_one (Means at F) (λ f. OfCurve (Means at G) (λ g. IsCurveIn (IsMadeBy op f g))) (means_from_one at F [])
    (λ f. of_curve_one (Means at G) (λ g. IsCurveIn (IsMadeBy op f g)) (means_from_one at G [])
    (λ g. curve_in_one (IsMadeBy op f g) (made_unique op f g)))
    v w a b
means_from_one at (made_of op F) fs v w a b =
    of_curve_one (Means at F) (λ f. IsCurveIn (IsMadeBy op f f)) (means_from_one at F [])
    (λ f. curve_in_one (IsMadeBy op f f) (made_unique op f f))
    v w a b
means_from_one at (moved F T) fs v w a b =
    of_curve_one (Means at F) (λ f. OfNumber (Means at T) (λ x. IsCurveIn (IsMadeBy (Shift x) f f))) (means_from_one at F [])
    (λ f. of_number_one (Means at T) (λ x. IsCurveIn (IsMadeBy (Shift x) f f)) (means_from_one at T [])
    (λ x. curve_in_one (IsMadeBy (Shift x) f f) (made_unique (Shift x) f f)))
    v w a b
means_from_one at (cut F server bits rate) fs v w a b =
    let B = bucket (whole bits) rate in
    of_curve_one (Means at F) (λ f. IsCurveIn (IsMadeBy Min f B)) (means_from_one at F [])
    (λ f. curve_in_one (IsMadeBy Min f B) (made_unique Min f B))
    v w a b
means_from_one at (part F G) fs v w a b =
    of_curve_one (Means at F) (λ f. MeansFrom at G (fs ++ f ∷ [])) (means_from_one at F [])
    (λ f. means_from_one at G (fs ++ f ∷ []))
    v w a b
means_from_one at no_part fs v w a b = sum_one fs v w a b
means_from_one at (leftover F G T) fs v w a b =
    of_curve_one (Means at F)
    (λ f. OfCurve (Means at G) (λ g. OfNumber (Means at T) (λ x. IsCurveIn (IsMadeBy (FifoLeft x) f g))))
    (means_from_one at F [])
    (λ f. of_curve_one (Means at G) (λ g. OfNumber (Means at T) (λ x. IsCurveIn (IsMadeBy (FifoLeft x) f g)))
    (means_from_one at G [])
    (λ g. of_number_one (Means at T) (λ x. IsCurveIn (IsMadeBy (FifoLeft x) f g)) (means_from_one at T [])
    (λ x. curve_in_one (IsMadeBy (FifoLeft x) f g) (made_unique (FifoLeft x) f g))))
    v w a b
means_from_one at (priority f F lower) fs v w a b =
    of_curve_one (Means at F) (λ g. IsCurveIn (IsPriorityCurve f g lower)) (means_from_one at F [])
    (λ g. curve_in_one (IsPriorityCurve f g lower) (priority_one f g lower))
    v w a b
means_from_one at (deficit f quanta longest queue) fs v w a b =
    curve_in_one (IsDrrCurve f quanta longest queue) (drr_one f quanta longest queue) v w a b
means_from_one at (horizontal F G) fs v w a b =
    of_curve_one (Means at F)
    (λ f. OfCurve (Means at G) (λ g. IsNumberIn (IsHorizontalDeviation (value_at f) (value_at g)))) (means_from_one at F [])
    (λ f. of_curve_one (Means at G) (λ g. IsNumberIn (IsHorizontalDeviation (value_at f) (value_at g))) (means_from_one at G [])
    (λ g. number_in_one (IsHorizontalDeviation (value_at f) (value_at g))
    (λ x y. (deviations_are_unique (value_at f) (value_at g) x y).0)))
    v w a b
means_from_one at (vertical F G) fs v w a b =
    of_curve_one (Means at F)
    (λ f. OfCurve (Means at G) (λ g. IsNumberIn (IsVerticalDeviation (value_at f) (value_at g)))) (means_from_one at F [])
    (λ f. of_curve_one (Means at G) (λ g. IsNumberIn (IsVerticalDeviation (value_at f) (value_at g))) (means_from_one at G [])
    (λ g. number_in_one (IsVerticalDeviation (value_at f) (value_at g))
    (λ x y. (deviations_are_unique (value_at f) (value_at g) x y).1)))
    v w a b
means_from_one at (smaller F G) fs v w a b =
    of_number_one (Means at F) (λ x. OfNumber (Means at G) (λ y u. u ≡ number (min_ext x y))) (means_from_one at F [])
    (λ x. of_number_one (Means at G) (λ y u. u ≡ number (min_ext x y)) (means_from_one at G [])
    (λ y. equal_one (number (min_ext x y))))
    v w a b
means_from_one at (along cells links) fs v w a b =
    of_cells_one at cells (λ xs u. u ≡ number (sum_of_numbers (with_links xs links)))
    (λ xs. equal_one (number (sum_of_numbers (with_links xs links))))
    v w a b
means_from_one at (delayed F links) fs v w a b =
    of_number_one (Means at F) (λ x u. u ≡ number (sum_of_numbers (with_links (x ∷ []) links))) (means_from_one at F [])
    (λ x. equal_one (number (sum_of_numbers (with_links (x ∷ []) links))))
    v w a b

pub means_one : (at : CellTable) (F : Formula) → IsOne (Means at F)
means_one at F = means_from_one at F []
