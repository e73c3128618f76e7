-- A formula reads its own cells alone: two tables that agree on them give it the same meaning and the same answers.
use Rattle.std.proofs.Common.{◌≡◌, List, [], ◌∷◌, ◌++◌, refl, sym, ◌∙◌, inl, inr}
use Rattle.std.specs.Prelude.{Ok, Err}
use Rattle.rational.specs.Extended.{Ext, min_ext}
use Rattle.upp_limits.specs.declared.op_kind.OpKind.TheVariants.{Min, Shift, FifoLeft, Horizontal, Vertical}
use Rattle.upp_curve.specs.Curve.{SpecCurve, value_at}
use Rattle.upp_curve.specs.Kinds.{bucket}
use Rattle.run_laws.specs.Cards.{whole}
use Rattle.min_plus.specs.Deviations.{IsHorizontalDeviation, IsVerticalDeviation}
use Rattle.residuals.specs.CurveCalls.{IsAgain, IsMadeBy, Applies, AppliesTo}
use Rattle.outcomes.specs.Calls.{goes_on, stops}
use Rattle.residuals.specs.calls.PriorityCalls.{MakesPriority}
use Rattle.net_cells.specs.declared.cell.Cell.{Cell}
use Rattle.net_cells.specs.Meanings.{Meaning, curve, number, CellTable, IsCurveIn, IsNumberIn}
use Rattle.net_cells.specs.NumberSums.{Sums, sum_of_numbers}
use Rattle.net_cells.specs.Formulas.{Formula, leaves, value_of, given, empty_sum, made, made_of, moved, cut, part, no_part, leftover, priority, deficit, horizontal, vertical, smaller, along, delayed}
use Rattle.net_cells.specs.Means.{Means, MeansFrom, OfCurve, OfNumber, HaveNumbers, IsPriorityCurve, with_links}
use Rattle.net_cells.specs.Answers.{Answer, Answers, AnswersFrom, IsOnly, MakesCurve, MakesNumber, Deviates, ThenCurve, ThenNumber}
use Rattle.run_laws.proofs.Members.{Has, has_left, has_right}

-- two tables have the same values at some cells
abbrev pub AgreeOn : List Cell → CellTable → CellTable → Type 0
AgreeOn cells at other = (c : Cell) → Has cells c → at c ≡ other c

on_left : (cs ds : List Cell) (at other : CellTable) → AgreeOn (cs ++ ds) at other → AgreeOn cs at other
on_left cs ds at other same c h = same c (has_left cs ds c h)

on_right : (cs ds : List Cell) (at other : CellTable) → AgreeOn (cs ++ ds) at other → AgreeOn ds at other
on_right cs ds at other same c h = same c (has_right cs ds c h)

-- ---- numbers of cells
pub numbers_same : (at other : CellTable) (cells : List Cell) (xs : List Ext) → AgreeOn cells at other
    → HaveNumbers at cells xs
    → HaveNumbers other cells xs
numbers_same at other [] [] same h = h
numbers_same at other [] (x ∷ xs) same h = h
numbers_same at other (c ∷ cs) [] same h = h
numbers_same at other (c ∷ cs) (x ∷ xs) same h =
    (sym (same c (inl refl)) ∙ h.0, numbers_same at other cs xs (λ d k. same d (inr k)) h.1)

-- ---- meanings
of_curve : (P M : Meaning → Type 0) (R S : SpecCurve → Meaning → Type 0) (v : Meaning) → ((x : Meaning) → P x → M x)
    → ((f : SpecCurve) → R f v → S f v) → OfCurve P R v → OfCurve M S v
of_curve P M R S v p r a = record { operand = a.operand; is = p (curve a.operand) a.is; gives = r a.operand a.gives }

of_number : (P M : Meaning → Type 0) (R S : Ext → Meaning → Type 0) (v : Meaning) → ((x : Meaning) → P x → M x)
    → ((x : Ext) → R x v → S x v) → OfNumber P R v → OfNumber M S v
of_number P M R S v p r a = record { operand = a.operand; is = p (number a.operand) a.is; gives = r a.operand a.gives }

of_curves : (P M Q N : Meaning → Type 0) (R : SpecCurve → SpecCurve → Meaning → Type 0) (v : Meaning)
    → ((x : Meaning) → P x → M x) → ((x : Meaning) → Q x → N x)
    → OfCurve P (λ f. OfCurve Q (R f)) v → OfCurve M (λ f. OfCurve N (R f)) v
of_curves P M Q N R v p q a =
    of_curve P M (λ f. OfCurve Q (R f)) (λ f. OfCurve N (R f)) v p (λ f b. of_curve Q N (R f) (R f) v q (λ g h. h) b) a

means_from_same : (at other : CellTable) (F : Formula) (fs : List SpecCurve) (v : Meaning) → AgreeOn (leaves F) at other → MeansFrom at F fs v
    → MeansFrom other F fs v
means_from_same at other (value_of c) fs v same a = sym (same c (inl refl)) ∙ a
means_from_same at other (given f) fs v same a = a
means_from_same at other empty_sum fs v same a = a
means_from_same at other (made op F G) fs v same a =
    of_curves (Means at F) (Means other F) (Means at G) (Means other G) (λ f g. IsCurveIn (IsMadeBy op f g)) v
    (λ x. means_from_same at other F [] x (on_left (leaves F) (leaves G) at other same))
    (λ x. means_from_same at other G [] x (on_right (leaves F) (leaves G) at other same)) a
means_from_same at other (made_of op F) fs v same a =
    of_curve (Means at F) (Means other F) (λ f. IsCurveIn (IsMadeBy op f f)) (λ f. IsCurveIn (IsMadeBy op f f)) v
    (λ x. means_from_same at other F [] x same) (λ f b. b) a
means_from_same at other (moved F T) fs v same a =
    of_curve (Means at F) (Means other F) (λ f. OfNumber (Means at T) (λ x. IsCurveIn (IsMadeBy (Shift x) f f)))
    (λ f. OfNumber (Means other T) (λ x. IsCurveIn (IsMadeBy (Shift x) f f))) v
    (λ x. means_from_same at other F [] x (on_left (leaves F) (leaves T) at other same))
    (λ f. of_number (Means at T) (Means other T) (λ x. IsCurveIn (IsMadeBy (Shift x) f f))
    (λ x. IsCurveIn (IsMadeBy (Shift x) f f)) v
    (λ x. means_from_same at other T [] x (on_right (leaves F) (leaves T) at other same)) (λ x b. b)) a
means_from_same at other (cut F server bits rate) fs v same a =
    let R : SpecCurve → Meaning → Type 0 = λ f. IsCurveIn (IsMadeBy Min f (bucket (whole bits) rate)) in
    of_curve (Means at F) (Means other F) R R v (λ x. means_from_same at other F [] x same) (λ f b. b) a
means_from_same at other (part F G) fs v same a =
    of_curve (Means at F) (Means other F) (λ f. MeansFrom at G (fs ++ f ∷ [])) (λ f. MeansFrom other G (fs ++ f ∷ [])) v
    (λ x. means_from_same at other F [] x (on_left (leaves F) (leaves G) at other same))
    (λ f b. means_from_same at other G (fs ++ f ∷ []) v (on_right (leaves F) (leaves G) at other same) b) a
means_from_same at other no_part fs v same a = a
means_from_same at other (leftover F G T) fs v same a =
    of_curve (Means at F) (Means other F)
    (λ f. OfCurve (Means at G) (λ g. OfNumber (Means at T) (λ x. IsCurveIn (IsMadeBy (FifoLeft x) f g))))
    (λ f. OfCurve (Means other G) (λ g. OfNumber (Means other T) (λ x. IsCurveIn (IsMadeBy (FifoLeft x) f g)))) v
    (λ x. means_from_same at other F [] x (on_left (leaves F) (leaves G ++ leaves T) at other same))
    (λ f. of_curve (Means at G) (Means other G)
    (λ g. OfNumber (Means at T) (λ x. IsCurveIn (IsMadeBy (FifoLeft x) f g)))
    (λ g. OfNumber (Means other T) (λ x. IsCurveIn (IsMadeBy (FifoLeft x) f g))) v
    (λ x. means_from_same at other G [] x
    (on_left (leaves G) (leaves T) at other (on_right (leaves F) (leaves G ++ leaves T) at other same)))
    (λ g. of_number (Means at T) (Means other T) (λ x. IsCurveIn (IsMadeBy (FifoLeft x) f g))
    (λ x. IsCurveIn (IsMadeBy (FifoLeft x) f g)) v
    (λ x. means_from_same at other T [] x
    (on_right (leaves G) (leaves T) at other (on_right (leaves F) (leaves G ++ leaves T) at other same))) (λ x b. b))) a
means_from_same at other (priority f F lower) fs v same a =
    of_curve (Means at F) (Means other F) (λ g. IsCurveIn (IsPriorityCurve f g lower))
    (λ g. IsCurveIn (IsPriorityCurve f g lower)) v (λ x. means_from_same at other F [] x same) (λ g b. b) a
means_from_same at other (deficit f quanta longest queue) fs v same a = a
means_from_same at other (horizontal F G) fs v same a =
    of_curves (Means at F) (Means other F) (Means at G) (Means other G)
    (λ f g. IsNumberIn (IsHorizontalDeviation (value_at f) (value_at g))) v
    (λ x. means_from_same at other F [] x (on_left (leaves F) (leaves G) at other same))
    (λ x. means_from_same at other G [] x (on_right (leaves F) (leaves G) at other same)) a
means_from_same at other (vertical F G) fs v same a =
    of_curves (Means at F) (Means other F) (Means at G) (Means other G)
    (λ f g. IsNumberIn (IsVerticalDeviation (value_at f) (value_at g))) v
    (λ x. means_from_same at other F [] x (on_left (leaves F) (leaves G) at other same))
    (λ x. means_from_same at other G [] x (on_right (leaves F) (leaves G) at other same)) a
means_from_same at other (smaller F G) fs v same a =
    of_number (Means at F) (Means other F) (λ x. OfNumber (Means at G) (λ y w. w ≡ number (min_ext x y)))
    (λ x. OfNumber (Means other G) (λ y w. w ≡ number (min_ext x y))) v
    (λ x. means_from_same at other F [] x (on_left (leaves F) (leaves G) at other same))
    (λ x. of_number (Means at G) (Means other G) (λ y w. w ≡ number (min_ext x y)) (λ y w. w ≡ number (min_ext x y)) v
    (λ y. means_from_same at other G [] y (on_right (leaves F) (leaves G) at other same)) (λ y b. b)) a
means_from_same at other (along cells links) fs v same a =
    record { numbers = a.numbers; are = numbers_same at other cells a.numbers same a.are; gives = a.gives }
means_from_same at other (delayed F links) fs v same a =
    of_number (Means at F) (Means other F) (λ x w. w ≡ number (sum_of_numbers (with_links (x ∷ []) links)))
    (λ x w. w ≡ number (sum_of_numbers (with_links (x ∷ []) links))) v (λ x. means_from_same at other F [] x same) (λ x b. b) a

pub means_same : (at other : CellTable) (F : Formula) (v : Meaning) → AgreeOn (leaves F) at other → Means at F v
    → Means other F v
means_same at other F v same a = means_from_same at other F [] v same a

-- ---- answers
then_curve : (P M : Answer → Type 0) (Q N : SpecCurve → Answer → Type 0) (r : Answer) → ((s : Answer) → P s → M s)
    → ((f : SpecCurve) → Q f r → N f r) → ThenCurve P Q r → ThenCurve M N r
then_curve P M Q N r p q (goes_on (curve f) a b) = goes_on (curve f) (p (Ok (curve f)) a) (q f b)
then_curve P M Q N r p q (goes_on (number x) a b) = absurd b
then_curve P M Q N r p q (stops fault a b) = stops fault (p (Err fault) a) b

then_number : (P M : Answer → Type 0) (Q N : Ext → Answer → Type 0) (r : Answer) → ((s : Answer) → P s → M s)
    → ((x : Ext) → Q x r → N x r) → ThenNumber P Q r → ThenNumber M N r
then_number P M Q N r p q (goes_on (curve f) a b) = absurd b
then_number P M Q N r p q (goes_on (number x) a b) = goes_on (number x) (p (Ok (number x)) a) (q x b)
then_number P M Q N r p q (stops fault a b) = stops fault (p (Err fault) a) b

then_curves : (P M Q N : Answer → Type 0) (R : SpecCurve → SpecCurve → Answer → Type 0) (r : Answer)
    → ((s : Answer) → P s → M s) → ((s : Answer) → Q s → N s)
    → ThenCurve P (λ f. ThenCurve Q (R f)) r → ThenCurve M (λ f. ThenCurve N (R f)) r
then_curves P M Q N R r p q a =
    then_curve P M (λ f. ThenCurve Q (R f)) (λ f. ThenCurve N (R f)) r p
    (λ f b. then_curve Q N (R f) (R f) r q (λ g h. h) b) a

answers_from_same : (at other : CellTable) (F : Formula) (fs : List SpecCurve) (r : Answer) → AgreeOn (leaves F) at other → AnswersFrom at F fs r
    → AnswersFrom other F fs r
answers_from_same at other (value_of c) fs (Ok v) same a = sym (same c (inl refl)) ∙ a
answers_from_same at other (value_of c) fs (Err e) same a = a
answers_from_same at other (given f) fs r same a = a
answers_from_same at other empty_sum fs r same a = a
answers_from_same at other (made op F G) fs r same a =
    then_curves (Answers at F) (Answers other F) (Answers at G) (Answers other G) (λ f g. MakesCurve (Applies op f g)) r
    (λ x. answers_from_same at other F [] x (on_left (leaves F) (leaves G) at other same))
    (λ x. answers_from_same at other G [] x (on_right (leaves F) (leaves G) at other same)) a
answers_from_same at other (made_of op F) fs r same a =
    then_curve (Answers at F) (Answers other F) (λ f. MakesCurve (AppliesTo op f)) (λ f. MakesCurve (AppliesTo op f)) r
    (λ x. answers_from_same at other F [] x same) (λ f b. b) a
answers_from_same at other (moved F T) fs r same a =
    then_curve (Answers at F) (Answers other F)
    (λ f. ThenNumber (Answers at T) (λ x. MakesCurve (AppliesTo (Shift x) f)))
    (λ f. ThenNumber (Answers other T) (λ x. MakesCurve (AppliesTo (Shift x) f))) r
    (λ x. answers_from_same at other F [] x (on_left (leaves F) (leaves T) at other same))
    (λ f. then_number (Answers at T) (Answers other T) (λ x. MakesCurve (AppliesTo (Shift x) f))
    (λ x. MakesCurve (AppliesTo (Shift x) f)) r
    (λ x. answers_from_same at other T [] x (on_right (leaves F) (leaves T) at other same)) (λ x b. b)) a
answers_from_same at other (cut F server bits rate) fs r same a =
    let Q : SpecCurve → Answer → Type 0 =
    λ f. ThenCurve (MakesCurve (IsAgain (bucket (whole bits) rate))) (λ g. MakesCurve (Applies Min f g)) in
    then_curve (Answers at F) (Answers other F) Q Q r (λ x. answers_from_same at other F [] x same) (λ f b. b) a
answers_from_same at other (part F G) fs r same a =
    then_curve (Answers at F) (Answers other F) (λ f. AnswersFrom at G (fs ++ f ∷ [])) (λ f. AnswersFrom other G (fs ++ f ∷ [])) r
    (λ x. answers_from_same at other F [] x (on_left (leaves F) (leaves G) at other same))
    (λ f b. answers_from_same at other G (fs ++ f ∷ []) r (on_right (leaves F) (leaves G) at other same) b) a
answers_from_same at other no_part fs r same a = a
answers_from_same at other (leftover F G T) fs r same a =
    then_curve (Answers at F) (Answers other F)
    (λ f. ThenCurve (Answers at G) (λ g. ThenNumber (Answers at T) (λ x. MakesCurve (Applies (FifoLeft x) f g))))
    (λ f. ThenCurve (Answers other G)
    (λ g. ThenNumber (Answers other T) (λ x. MakesCurve (Applies (FifoLeft x) f g)))) r
    (λ x. answers_from_same at other F [] x (on_left (leaves F) (leaves G ++ leaves T) at other same))
    (λ f. then_curve (Answers at G) (Answers other G)
    (λ g. ThenNumber (Answers at T) (λ x. MakesCurve (Applies (FifoLeft x) f g)))
    (λ g. ThenNumber (Answers other T) (λ x. MakesCurve (Applies (FifoLeft x) f g))) r
    (λ x. answers_from_same at other G [] x
    (on_left (leaves G) (leaves T) at other (on_right (leaves F) (leaves G ++ leaves T) at other same)))
    (λ g. then_number (Answers at T) (Answers other T) (λ x. MakesCurve (Applies (FifoLeft x) f g))
    (λ x. MakesCurve (Applies (FifoLeft x) f g)) r
    (λ x. answers_from_same at other T [] x
    (on_right (leaves G) (leaves T) at other (on_right (leaves F) (leaves G ++ leaves T) at other same))) (λ x b. b))) a
answers_from_same at other (priority f F lower) fs r same a =
    then_curve (Answers at F) (Answers other F) (λ g. MakesCurve (MakesPriority f g lower))
    (λ g. MakesCurve (MakesPriority f g lower)) r (λ x. answers_from_same at other F [] x same) (λ g b. b) a
answers_from_same at other (deficit f quanta longest queue) fs r same a = a
answers_from_same at other (horizontal F G) fs r same a =
    then_curves (Answers at F) (Answers other F) (Answers at G) (Answers other G)
    (λ f g. MakesNumber (Deviates Horizontal IsHorizontalDeviation f g)) r
    (λ x. answers_from_same at other F [] x (on_left (leaves F) (leaves G) at other same))
    (λ x. answers_from_same at other G [] x (on_right (leaves F) (leaves G) at other same)) a
answers_from_same at other (vertical F G) fs r same a =
    then_curves (Answers at F) (Answers other F) (Answers at G) (Answers other G)
    (λ f g. MakesNumber (Deviates Vertical IsVerticalDeviation f g)) r
    (λ x. answers_from_same at other F [] x (on_left (leaves F) (leaves G) at other same))
    (λ x. answers_from_same at other G [] x (on_right (leaves F) (leaves G) at other same)) a
answers_from_same at other (smaller F G) fs r same a =
    then_number (Answers at F) (Answers other F)
    (λ x. ThenNumber (Answers at G) (λ y. IsOnly (λ w. w ≡ number (min_ext x y))))
    (λ x. ThenNumber (Answers other G) (λ y. IsOnly (λ w. w ≡ number (min_ext x y)))) r
    (λ x. answers_from_same at other F [] x (on_left (leaves F) (leaves G) at other same))
    (λ x. then_number (Answers at G) (Answers other G) (λ y. IsOnly (λ w. w ≡ number (min_ext x y)))
    (λ y. IsOnly (λ w. w ≡ number (min_ext x y))) r
    (λ y. answers_from_same at other G [] y (on_right (leaves F) (leaves G) at other same)) (λ y b. b)) a
answers_from_same at other (along cells links) fs r same a =
    record { numbers = a.numbers; are = numbers_same at other cells a.numbers same a.are; answers = a.answers }
answers_from_same at other (delayed F links) fs r same a =
    then_number (Answers at F) (Answers other F) (λ x. MakesNumber (Sums (with_links (x ∷ []) links)))
    (λ x. MakesNumber (Sums (with_links (x ∷ []) links))) r (λ x. answers_from_same at other F [] x same) (λ x b. b) a

pub answers_same : (at other : CellTable) (F : Formula) (r : Answer) → AgreeOn (leaves F) at other → Answers at F r
    → Answers other F r
answers_same at other F r same a = answers_from_same at other F [] r same a
