-- A formula that is answered by a value means that value.
use Rattle.std.proofs.Common.{◌≡◌, ℕ, List, [], ◌∷◌, ◌++◌, ap, subst}
use Rattle.std.specs.Prelude.{Ok, Err, Result}
use Rattle.rational.specs.Extended.{Ext, min_ext}
use Rattle.upp_limits.specs.declared.op_kind.OpKind.{OpKind}
use Rattle.upp_limits.specs.declared.op_kind.OpKind.TheVariants.{Sum, Min, Shift, FifoLeft, Horizontal, Vertical}
use Rattle.upp_limits.specs.declared.op_kind.OpFault.{OpFault}
use Rattle.upp_curve.specs.Curve.{SpecCurve, value_at}
use Rattle.upp_curve.specs.Curves.{IsCurve}
use Rattle.upp_curve.specs.Kinds.{bucket}
use Rattle.run_laws.specs.Cards.{whole}
use Rattle.min_plus.specs.Deviations.{IsHorizontalDeviation, IsVerticalDeviation}
use Rattle.residuals.specs.CurveCalls.{IsAgain, IsMadeBy, Applies, AppliesTo}
use Rattle.outcomes.specs.Calls.{goes_on, stops}
use Rattle.residuals.specs.calls.PriorityCalls.{MakesPriority}
use Rattle.residuals.proofs.calls.PriorityCalls as priority_calls
use Rattle.residuals.specs.calls.DrrCalls.{MakesDrr}
use Rattle.residuals.proofs.calls.DrrCalls as drr_calls
use Rattle.net_cells.specs.Numbered.{zero_curve}
use Rattle.net_cells.specs.Meanings.{Meaning, curve, number, CellTable, IsCurveIn, IsNumberIn}
use Rattle.net_cells.specs.NumberSums.{Sums, sum_of_numbers}
use Rattle.net_cells.specs.Formulas.{Formula, value_of, given, empty_sum, made, made_of, moved, cut, part, no_part, leftover, priority, deficit, horizontal, vertical, smaller, along, delayed}
use Rattle.net_cells.specs.Means.{Means, MeansFrom, IsSumOnto, IsSumOf, OfCurve, OfNumber, IsPriorityCurve, IsDrrCurve, with_links}
use Rattle.net_cells.specs.Answers.{Answer, Answers, AnswersFrom, SumsOnto, SumsOf, IsOnly, MakesCurve, MakesNumber, Deviates, ThenCurve, ThenNumber}

-- ---- one call
makes_curve : (P : Result SpecCurve OpFault → Type 0) (R : SpecCurve → Type 0) (v : Meaning)
    → ((h : SpecCurve) → P (Ok h) → R h)
    → MakesCurve P (Ok v) → IsCurveIn R v
makes_curve P R (curve h) p a = p h a
makes_curve P R (number x) p a = absurd a

makes_number : (P : Result Ext OpFault → Type 0) (R : Ext → Type 0) (v : Meaning) → ((x : Ext) → P (Ok x) → R x)
    → MakesNumber P (Ok v) → IsNumberIn R v
makes_number P R (curve h) p a = absurd a
makes_number P R (number x) p a = p x a

again : (f : SpecCurve) (v : Meaning) → MakesCurve (IsAgain f) (Ok v) → v ≡ curve f
again f (curve g) a = ap curve a
again f (number x) a = absurd a

sums : (xs : List Ext) (v : Meaning) → MakesNumber (Sums xs) (Ok v) → v ≡ number (sum_of_numbers xs)
sums xs (curve g) a = absurd a
sums xs (number x) a = ap number a.1

-- ---- on operands
on_curve : (P : Answer → Type 0) (Q : SpecCurve → Answer → Type 0) (M : Meaning → Type 0)
    (R : SpecCurve → Meaning → Type 0)
    (v : Meaning) → ((x : Meaning) → P (Ok x) → M x) → ((f : SpecCurve) → Q f (Ok v) → R f v)
    → ThenCurve P Q (Ok v) → OfCurve M R v
on_curve P Q M R v p q (goes_on (curve f) a b) = record { operand = f; is = p (curve f) a; gives = q f b }
on_curve P Q M R v p q (goes_on (number x) a b) = absurd b
on_curve P Q M R v p q (stops fault a b) = absurd (let e : Ok v ≡ Err fault = b in cc)

on_number : (P : Answer → Type 0) (Q : Ext → Answer → Type 0) (M : Meaning → Type 0) (R : Ext → Meaning → Type 0)
    (v : Meaning) → ((x : Meaning) → P (Ok x) → M x) → ((x : Ext) → Q x (Ok v) → R x v)
    → ThenNumber P Q (Ok v) → OfNumber M R v
on_number P Q M R v p q (goes_on (curve f) a b) = absurd b
on_number P Q M R v p q (goes_on (number x) a b) = record { operand = x; is = p (number x) a; gives = q x b }
on_number P Q M R v p q (stops fault a b) = absurd (let e : Ok v ≡ Err fault = b in cc)

-- ---- services of queues
priority_curve : (f g : SpecCurve) (lower : ℕ) (h : SpecCurve) → MakesPriority f g lower (Ok h)
    → IsPriorityCurve f g lower h
priority_curve f g lower h a = record { curve = is_curve a; serves = priority_calls.service_is f g h lower a }
  where
    is_curve : MakesPriority f g lower (Ok h) → IsCurve h
    is_curve (goes_on left first second) = second.made.curve
    is_curve (stops fault x y) = absurd (let e : Ok h ≡ Err fault = y in cc)

drr_curve : (f : SpecCurve) (quanta longest : List ℕ) (queue : ℕ) (h : SpecCurve)
    → MakesDrr f quanta longest queue (Ok h)
    → IsDrrCurve f quanta longest queue h
drr_curve f quanta longest queue h a =
    record { curve = is_curve a; serves = drr_calls.service_is f h quanta longest queue a }
  where
    is_curve : MakesDrr f quanta longest queue (Ok h) → IsCurve h
    is_curve (goes_on left first second) = second.made.curve
    is_curve (stops fault x y) = absurd (let e : Ok h ≡ Err fault = y in cc)

-- ---- formulas
made_curve : (op : OpKind) (f g : SpecCurve) (v : Meaning) → MakesCurve (Applies op f g) (Ok v)
    → IsCurveIn (IsMadeBy op f g) v
made_curve op f g v a = makes_curve (Applies op f g) (IsMadeBy op f g) v (λ h b. b.made) a

-- the lesser of a curve and one that is made again
cut_curve : (f B : SpecCurve) (v : Meaning) → ThenCurve (MakesCurve (IsAgain B)) (λ g. MakesCurve (Applies Min f g)) (Ok v)
    → IsCurveIn (IsMadeBy Min f B) v
cut_curve f B v (goes_on (curve g) same a) = made_curve Min f B v (subst (λ k. MakesCurve (Applies Min f k) (Ok v)) same a)
cut_curve f B v (goes_on (number x) same a) = absurd same
cut_curve f B v (stops fault same a) = absurd (let e : Ok v ≡ Err fault = a in cc)

sum_onto_means : (f : SpecCurve) (fs : List SpecCurve) (v : Meaning) → SumsOnto f fs (Ok v) → IsSumOnto f fs v
sum_onto_means f [] v a = again f v a
sum_onto_means f (g ∷ gs) v a =
    on_curve (MakesCurve (Applies Sum f g)) (λ h. SumsOnto h gs) (IsCurveIn (IsMadeBy Sum f g)) (λ h. IsSumOnto h gs) v
    (λ x. made_curve Sum f g x) (λ h. sum_onto_means h gs v) a

sum_means : (fs : List SpecCurve) (v : Meaning) → SumsOf fs (Ok v) → IsSumOf fs v
sum_means [] v a = again zero_curve v a
sum_means (f ∷ fs) v a = sum_onto_means f fs v a

answers_from_mean : (at : CellTable) (F : Formula) (fs : List SpecCurve) (v : Meaning) → AnswersFrom at F fs (Ok v) → MeansFrom at F fs v
answers_from_mean at (value_of c) fs v a = a
answers_from_mean at (given f) fs v a = again f v a
answers_from_mean at empty_sum fs v a = again zero_curve v a
answers_from_mean at (made op F G) fs v a =
    on_curve (Answers at F) (λ f. ThenCurve (Answers at G) (λ g. MakesCurve (Applies op f g)))
    (Means at F) (λ f. OfCurve (Means at G) (λ g. IsCurveIn (IsMadeBy op f g))) v (answers_from_mean at F [])
    (λ f. on_curve (Answers at G) (λ g. MakesCurve (Applies op f g))
    (Means at G) (λ g. IsCurveIn (IsMadeBy op f g)) v (answers_from_mean at G []) (λ g. made_curve op f g v)) a
answers_from_mean at (made_of op F) fs v a =
    on_curve (Answers at F) (λ f. MakesCurve (AppliesTo op f)) (Means at F) (λ f. IsCurveIn (IsMadeBy op f f)) v
    (answers_from_mean at F []) (λ f. made_curve op f f v) a
answers_from_mean at (moved F T) fs v a =
    on_curve (Answers at F) (λ f. ThenNumber (Answers at T) (λ x. MakesCurve (AppliesTo (Shift x) f)))
    (Means at F) (λ f. OfNumber (Means at T) (λ x. IsCurveIn (IsMadeBy (Shift x) f f))) v (answers_from_mean at F [])
    (λ f. on_number (Answers at T) (λ x. MakesCurve (AppliesTo (Shift x) f))
    (Means at T) (λ x. IsCurveIn (IsMadeBy (Shift x) f f)) v (answers_from_mean at T []) (λ x. made_curve (Shift x) f f v)) a
answers_from_mean at (cut F server bits rate) fs v a =
    let B = bucket (whole bits) rate in
    on_curve (Answers at F) (λ f. ThenCurve (MakesCurve (IsAgain B)) (λ g. MakesCurve (Applies Min f g)))
    (Means at F) (λ f. IsCurveIn (IsMadeBy Min f B)) v
    (answers_from_mean at F []) (λ f. cut_curve f B v) a
answers_from_mean at (part F G) fs v a =
    on_curve (Answers at F) (λ f. AnswersFrom at G (fs ++ f ∷ [])) (Means at F) (λ f. MeansFrom at G (fs ++ f ∷ [])) v
    (answers_from_mean at F []) (λ f. answers_from_mean at G (fs ++ f ∷ []) v) a
answers_from_mean at no_part fs v a = sum_means fs v a
answers_from_mean at (leftover F G T) fs v a =
    on_curve (Answers at F)
    (λ f. ThenCurve (Answers at G) (λ g. ThenNumber (Answers at T) (λ x. MakesCurve (Applies (FifoLeft x) f g))))
    (Means at F) (λ f. OfCurve (Means at G) (λ g. OfNumber (Means at T) (λ x. IsCurveIn (IsMadeBy (FifoLeft x) f g)))) v
    (answers_from_mean at F [])
    (λ f. on_curve (Answers at G) (λ g. ThenNumber (Answers at T) (λ x. MakesCurve (Applies (FifoLeft x) f g)))
    (Means at G) (λ g. OfNumber (Means at T) (λ x. IsCurveIn (IsMadeBy (FifoLeft x) f g))) v (answers_from_mean at G [])
    (λ g. on_number (Answers at T) (λ x. MakesCurve (Applies (FifoLeft x) f g))
    (Means at T) (λ x. IsCurveIn (IsMadeBy (FifoLeft x) f g)) v (answers_from_mean at T [])
    (λ x. made_curve (FifoLeft x) f g v))) a
answers_from_mean at (priority f F lower) fs v a =
    on_curve (Answers at F) (λ g. MakesCurve (MakesPriority f g lower))
    (Means at F) (λ g. IsCurveIn (IsPriorityCurve f g lower)) v (answers_from_mean at F [])
    (λ g. makes_curve (MakesPriority f g lower) (IsPriorityCurve f g lower) v (priority_curve f g lower)) a
answers_from_mean at (deficit f quanta longest queue) fs v a =
    makes_curve (MakesDrr f quanta longest queue) (IsDrrCurve f quanta longest queue) v
    (drr_curve f quanta longest queue) a
answers_from_mean at (horizontal F G) fs v a =
    on_curve (Answers at F)
    (λ f. ThenCurve (Answers at G) (λ g. MakesNumber (Deviates Horizontal IsHorizontalDeviation f g)))
    (Means at F) (λ f. OfCurve (Means at G) (λ g. IsNumberIn (IsHorizontalDeviation (value_at f) (value_at g)))) v
    (answers_from_mean at F [])
    (λ f. on_curve (Answers at G) (λ g. MakesNumber (Deviates Horizontal IsHorizontalDeviation f g))
    (Means at G) (λ g. IsNumberIn (IsHorizontalDeviation (value_at f) (value_at g))) v (answers_from_mean at G [])
    (λ g. makes_number (Deviates Horizontal IsHorizontalDeviation f g)
    (IsHorizontalDeviation (value_at f) (value_at g)) v (λ x b. b.1))) a
answers_from_mean at (vertical F G) fs v a =
    on_curve (Answers at F)
    (λ f. ThenCurve (Answers at G) (λ g. MakesNumber (Deviates Vertical IsVerticalDeviation f g)))
    (Means at F) (λ f. OfCurve (Means at G) (λ g. IsNumberIn (IsVerticalDeviation (value_at f) (value_at g)))) v
    (answers_from_mean at F [])
    (λ f. on_curve (Answers at G) (λ g. MakesNumber (Deviates Vertical IsVerticalDeviation f g))
    (Means at G) (λ g. IsNumberIn (IsVerticalDeviation (value_at f) (value_at g))) v (answers_from_mean at G [])
    (λ g. makes_number (Deviates Vertical IsVerticalDeviation f g)
    (IsVerticalDeviation (value_at f) (value_at g)) v (λ x b. b.1))) a
answers_from_mean at (smaller F G) fs v a =
    on_number (Answers at F) (λ x. ThenNumber (Answers at G) (λ y. IsOnly (λ w. w ≡ number (min_ext x y))))
    (Means at F) (λ x. OfNumber (Means at G) (λ y w. w ≡ number (min_ext x y))) v (answers_from_mean at F [])
    (λ x. on_number (Answers at G) (λ y. IsOnly (λ w. w ≡ number (min_ext x y)))
    (Means at G) (λ y w. w ≡ number (min_ext x y)) v (answers_from_mean at G []) (λ y b. b)) a
answers_from_mean at (along cells links) fs v a =
    record { numbers = a.numbers; are = a.are; gives = sums (with_links a.numbers links) v a.answers }
answers_from_mean at (delayed F links) fs v a =
    on_number (Answers at F) (λ x. MakesNumber (Sums (with_links (x ∷ []) links)))
    (Means at F) (λ x w. w ≡ number (sum_of_numbers (with_links (x ∷ []) links))) v (answers_from_mean at F [])
    (λ x. sums (with_links (x ∷ []) links) v) a

pub answers_mean : (at : CellTable) (F : Formula) (v : Meaning) → Answers at F (Ok v) → Means at F v
answers_mean at F v a = answers_from_mean at F [] v a
