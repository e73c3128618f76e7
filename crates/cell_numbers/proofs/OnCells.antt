-- What calls on the values of cells answer: how far one cell's curve is behind another's, and the smaller of two numbers.
use Rattle.std.proofs.Common.{◌≡◌, refl, sym, ◌∙◌, subst}
use Rattle.std.specs.Prelude.{Some, Result, Ok, Err, IfOk, IfErr}
use Rattle.rational.specs.Rational.{ℚ}
use Rattle.rational.specs.Extended.{Ext, min_ext}
use Rattle.upp_limits.specs.declared.op_kind.OpKind.{OpKind}
use Rattle.upp_limits.specs.declared.op_kind.OpFault.{OpFault}
use Rattle.upp_limits.specs.declared.op_kind.OpFault.TheVariants.{NoMemory}
use Rattle.upp_limits.specs.Outcome.{KeepsLimits}
use Rattle.upp_curve.specs.Curve.{SpecCurve, value_at}
use Rattle.outcomes.specs.Calls.{goes_on, stops}
use Rattle.net_cells.specs.declared.cell.Cell.{Cell}
use Rattle.net_cells.specs.Meanings.{curve, number, CellTable}
use Rattle.net_cells.specs.Formulas.{Formula, value_of, smaller}
use Rattle.net_cells.specs.Answers.{Answer, Answers, IsOnly, MakesNumber, Deviates, ThenCurve}
use Rattle.net_cells.specs.cell_table.Values.{answer_of}
use Rattle.cell_numbers.specs.TableValues.{HasCurve, IsNumberAt}

-- ---- on curves of cells
pub curve_holds : (at : CellTable) (c : Cell) (Q : SpecCurve → Type 0) (f : SpecCurve) → HasCurve at c Q → at c ≡ Some (curve f) → Q f
curve_holds at c Q f h is =
    let both : Some (curve h.value) ≡ Some (curve f) = sym h.is ∙ is in
    let same : h.value ≡ f = cc in
    subst Q same h.holds

pub on_cell : (at : CellTable) (c : Cell) (f : SpecCurve) (Q : SpecCurve → Answer → Type 0) (r : Answer) → at c ≡ Some (curve f) → Q f r
    → ThenCurve (IsOnly (λ v. at c ≡ Some v)) Q r
on_cell at c f Q r is q = goes_on (curve f) is q

-- ---- deviations
pub deviates : (op : OpKind) (D : (ℚ → Ext) → (ℚ → Ext) → Ext → Type 0) (f g : SpecCurve) (r : Result Ext OpFault)
    → KeepsLimits op f g r → IfOk r (D (value_at f) (value_at g)) → IfErr r (λ e. ¬ (e ≡ NoMemory))
    → MakesNumber (Deviates op D f g) (answer_of number r)
deviates op D f g (Ok x) limits d memory = (limits, d)
deviates op D f g (Err fault) limits d memory = (limits, memory)

-- ---- the smaller of two numbers
pub smaller_answer : (at : CellTable) (c : Cell) (F : Formula) (x y : Ext) → at c ≡ Some (number x)
    → Answers at F (Ok (number y)) → Answers at (smaller (value_of c) F) (Ok (number (min_ext x y)))
smaller_answer at c F x y is a = goes_on (number x) is (goes_on (number y) a refl)

pub smaller_refused : (at : CellTable) (c : Cell) (F : Formula) (fault : OpFault) → IsNumberAt at c
    → Answers at F (Err fault) → Answers at (smaller (value_of c) F) (Err fault)
smaller_refused at c F fault has a = goes_on (number has.value) has.is (stops fault a refl)
