-- Parts of formulas whose calls have answers, and of which sort their values are.
use Rattle.std.specs.Prelude.{◌≡◌, ℕ, Some, Result, Ok, Err, []}
use Rattle.std.proofs.Common.{sym, ◌∙◌, subst}
use Rattle.rational.specs.Rational.{ℚ}
use Rattle.rational.specs.Extended.{Ext}
use Rattle.min_plus.specs.Deviations.{IsHorizontalDeviation, IsVerticalDeviation}
use Rattle.min_plus.specs.Functions.{IsFinite, IsRising}
use Rattle.upp_limits.specs.declared.op_kind.OpKind.{OpKind}
use Rattle.upp_limits.specs.declared.op_kind.OpKind.TheVariants.{PosMinus, Horizontal, Vertical}
use Rattle.upp_limits.specs.declared.op_kind.OpFault.{OpFault}
use Rattle.upp_limits.specs.declared.op_kind.OpFault.TheVariants.{NoMemory}
use Rattle.upp_curve.specs.Curve.{SpecCurve, value_at}
use Rattle.upp_curve.specs.Curves.{IsCurve}
use Rattle.run_laws.specs.Cards.{whole}
use Rattle.curve_call.specs.Answers.{IsMadeBy}
use Rattle.curve_call.specs.Calls.{Applies, AppliesTo}
use Rattle.residuals.proofs.calls.PriorityCalls.{above_finite}
use Rattle.net_bounds.proofs.Cells.{curve_map}
use Rattle.net_bounds.proofs.FormulaParts.{number_map}
use Rattle.net_cells.specs.declared.cell.Cell.{Cell}
use Rattle.net_cells.specs.Meanings.{Meaning, curve, number, CellTable, IsCurveIn, IsNumberIn}
use Rattle.net_cells.specs.TableValues.{HasCurve, HasNumber}
use Rattle.net_cells.specs.Formulas.{Formula, value_of, made, horizontal, vertical}
use Rattle.net_cells.specs.CellFormulas.{less}
use Rattle.net_cells.specs.Means.{Means}
use Rattle.net_cells.specs.Answers.{AnswersFrom, Deviates}
use Rattle.net_cells.proofs.AnswersMean.{answers_mean}
use Rattle.existence.specs.curves.Answered.{HasAnswer}
use Rattle.existence.proofs.curves.Verticals.{vertical_answered}
use Rattle.existence.proofs.curves.Levels.{minus_answered}
use Rattle.existence.proofs.curves.Horizontals.{horizontal_answered}
use Rattle.existence.specs.tables.Formulas.{GivesCurve, GivesNumber, CallsAreFound}

-- ---- sorts of curves
abbrev pub IsArriving : SpecCurve → Type 0
IsArriving f = IsCurve f × IsRising (value_at f)

abbrev pub IsFiniteCurve : SpecCurve → Type 0
IsFiniteCurve f = IsCurve f × IsFinite (value_at f)

abbrev pub IsServing : SpecCurve → Type 0
IsServing f = IsFiniteCurve f × IsRising (value_at f)

-- ---- a part of a formula
-- its calls have answers, and what it means is of a sort
pub record CurveIsFound (at : CellTable) (F : Formula) (Q : SpecCurve → Type 0) : Type 0 where
  pub calls : CallsAreFound at F []
  pub means : (v : Meaning) → Means at F v → IsCurveIn Q v

pub record NumberIsFound (at : CellTable) (F : Formula) (Q : Ext → Type 0) : Type 0 where
  pub calls : CallsAreFound at F []
  pub means : (v : Meaning) → Means at F v → IsNumberIn Q v

-- so is what it answers, and what is then called on that has an answer
pub then_found : (at : CellTable) (F : Formula) (Q T : SpecCurve → Type 0) → CurveIsFound at F Q → ((f : SpecCurve) → Q f → T f)
    → GivesCurve (AnswersFrom at F []) T
then_found at F Q T h k v a = curve_map Q T v k (h.means v (answers_mean at F v a))

pub then_number_found : (at : CellTable) (F : Formula) (Q T : Ext → Type 0) → NumberIsFound at F Q → ((x : Ext) → Q x → T x)
    → GivesNumber (AnswersFrom at F []) T
then_number_found at F Q T h k v a = number_map Q T v k (h.means v (answers_mean at F v a))

pub then_both_found : (at : CellTable) (F G : Formula) (Q S : SpecCurve → Type 0) (T : SpecCurve → SpecCurve → Type 0) → CurveIsFound at F Q
    → CurveIsFound at G S → ((f g : SpecCurve) → Q f → S g → T f g) → GivesCurve (AnswersFrom at F []) (λ f. GivesCurve (AnswersFrom at G []) (T f))
then_both_found at F G Q S T first second k =
    then_found at F Q (λ f. GivesCurve (AnswersFrom at G []) (T f)) first (λ f q. then_found at G S (T f) second (λ g s. k f g q s))

-- ---- cells
module _ (at : CellTable) (c : Cell) where
  pub value_found : (Q : SpecCurve → Type 0) → HasCurve at c Q → CurveIsFound at (value_of c) Q
  value_found Q h = record { calls = (curve h.value, h.is); means = by }
    where
      by : (v : Meaning) → at c ≡ Some v → IsCurveIn Q v
      by v is =
          let both : Some (curve h.value) ≡ Some v = sym h.is ∙ is in
          let same : curve h.value ≡ v = cc in
          subst (IsCurveIn Q) same h.holds

  pub number_found : (Q : Ext → Type 0) → HasNumber at c Q → NumberIsFound at (value_of c) Q
  number_found Q h = record { calls = (number h.value, h.is); means = by }
    where
      by : (v : Meaning) → at c ≡ Some v → IsNumberIn Q v
      by v is =
          let both : Some (number h.value) ≡ Some v = sym h.is ∙ is in
          let same : number h.value ≡ v = cc in
          subst (IsNumberIn Q) same h.holds

-- ---- calls
pub made_found : (at : CellTable) (op : OpKind) (F G : Formula) (Q S : SpecCurve → Type 0) → CurveIsFound at F Q → CurveIsFound at G S
    → ((f g : SpecCurve) → Q f → S g → HasAnswer (Applies op f g)) → CurveIsFound at (made op F G) IsCurve
made_found at op F G Q S first second k = record {
  calls = (
    first.calls,
    second.calls,
    then_both_found at F G Q S (λ f g. HasAnswer (Applies op f g)) first second k,
  );
  means = λ v m. curve_map (IsMadeBy op m.operand m.gives.operand) IsCurve v (λ h b. b.curve) m.gives.gives;
}

-- a finite curve less one packet
pub less_found : (at : CellTable) (F : Formula) (bits : ℕ) → CurveIsFound at F IsFiniteCurve → CurveIsFound at (less F bits) IsFiniteCurve
less_found at F bits first = record {
  calls = (
    first.calls,
    then_found at F IsFiniteCurve (λ f. HasAnswer (AppliesTo (PosMinus (whole bits)) f)) first
        (λ f q. minus_answered (whole bits) f q.0 q.1),
  );
  means = λ v m.
      curve_map (IsMadeBy (PosMinus (whole bits)) m.operand m.operand) IsFiniteCurve v
      (λ h b. (b.curve, above_finite (whole bits) m.operand h (first.means (curve m.operand) m.is).1 b)) m.gives;
}

-- ---- deviations
measured : (op : OpKind) (D : (ℚ → Ext) → (ℚ → Ext) → Ext → Type 0) (f g : SpecCurve) (r : Result Ext OpFault) → Deviates op D f g r
    → HasAnswer (Deviates op D f g)
measured op D f g (Ok x) m = record { answer = Ok x; is = m; found = λ e. absurd (let bad : Ok x ≡ Err NoMemory = e in cc) }
measured op D f g (Err fault) m = record {
  answer = Err fault;
  is = m;
  found = λ e. m.1 (let both : Err fault ≡ Err NoMemory = e in cc);
}

pub horizontal_found : (at : CellTable) (F G : Formula) → CurveIsFound at F IsArriving → CurveIsFound at G IsServing
    → NumberIsFound at (horizontal F G) (λ x. Unit {0})
horizontal_found at F G first second = record {
  calls = (
    first.calls,
    second.calls,
    then_both_found at F G IsArriving IsServing (λ f g. HasAnswer (Deviates Horizontal IsHorizontalDeviation f g)) first second
        (λ f g q s. let r = horizontal_answered f g q.0 s.0.0 s.0.1 q.1 s.1 in measured Horizontal IsHorizontalDeviation f g r.0 r.1),
  );
  means = λ v m. number_map (IsHorizontalDeviation (value_at m.operand) (value_at m.gives.operand)) (λ x. Unit {0}) v (λ x d. tt) m.gives.gives;
}

pub vertical_found : (at : CellTable) (F G : Formula) → CurveIsFound at F IsCurve → CurveIsFound at G IsFiniteCurve → CallsAreFound at (vertical F G) []
vertical_found at F G first second = (
  first.calls,
  second.calls,
  then_both_found at F G IsCurve IsFiniteCurve (λ f g. HasAnswer (Deviates Vertical IsVerticalDeviation f g)) first second
      (λ f g q s. let r = vertical_answered f g q s.0 s.1 in measured Vertical IsVerticalDeviation f g r.0 r.1),
)
