-- What calls answer once their curve is shared, and what operands of a formula add to that.
use Rattle.std.proofs.Common.{◌≡◌, ℕ, List, refl, sym, subst}
use Rattle.std.specs.Prelude.{Some, Result, Ok, Err, IfOk}
use Rattle.rational.specs.Rational.{ℚ}
use Rattle.rational.specs.Extended.{Ext}
use Rattle.upp_limits.specs.declared.op_kind.OpKind.{OpKind}
use Rattle.upp_limits.specs.declared.op_kind.OpFault.{OpFault}
use Rattle.upp_limits.specs.declared.op_kind.OpFault.TheVariants.{NoMemory}
use Rattle.upp_curve.specs.Curve.{SpecCurve, value_at}
use Rattle.upp_limits.specs.declared.op_kind.OpKind.TheVariants.{PosMinus, Vertical}
use Rattle.min_plus.specs.Functions.{IsFinite}
use Rattle.curve_call.specs.Again.{IsAgain}
use Rattle.curve_call.specs.Calls.{Applies, AppliesTo}
use Rattle.outcomes.specs.Calls.{Then, goes_on, stops}
use Rattle.residuals.specs.calls.PriorityCalls.{MakesPriority}
use Rattle.residuals.proofs.calls.PriorityCalls.{above_finite}
use Rattle.residuals.specs.calls.DrrCalls.{MakesDrr}
use Rattle.net_cells.specs.declared.cell.Cell.{Cell}
use Rattle.net_cells.specs.Meanings.{curve, number, CellTable}
use Rattle.min_plus.specs.Deviations.{IsVerticalDeviation}
use Rattle.net_cells.specs.Formulas.{Formula, value_of, vertical}
use Rattle.net_cells.specs.cell_table.Gives.{Gives}
use Rattle.net_cells.specs.Answers.{Answer, Answers, IsOnly, MakesCurve, MakesNumber, Deviates, ThenNumber}
use Rattle.cell_eval.specs.Sharing.{IsShared}

-- ---- calls that may want memory where they have an answer
abbrev pub MayRunOut : {A : Type 0} → (Result A OpFault → Type 0) → Type 0
MayRunOut {A} P = (x : A) → P (Ok x) → P (Err NoMemory)

pub again_out : (f : SpecCurve) → MayRunOut (IsAgain f)
again_out f g p = refl

pub applies_out : (op : OpKind) (f g : SpecCurve) → MayRunOut (Applies op f g)
applies_out op f g h p = p.within

then_out : {A B : Type 0} (P : Result A OpFault → Type 0) (Q : A → Result B OpFault → Type 0) → ((x : A) → MayRunOut (Q x))
    → MayRunOut (Then P Q)
then_out P Q q y (goes_on x p w) = goes_on x p (q x y w)
then_out P Q q y (stops fault p e) = absurd (let bad : Ok y ≡ Err fault = e in cc)

pub priority_out : (β higher : SpecCurve) (lower : ℕ) → MayRunOut (MakesPriority β higher lower)
priority_out β higher lower = then_out _ _ (λ c. applies_out _ c c)

pub drr_out : (β : SpecCurve) (quanta longest : List ℕ) (i : ℕ) → MayRunOut (MakesDrr β quanta longest i)
drr_out β quanta longest i = then_out _ _ (λ c. applies_out _ c c)

pub shared_makes : (P : Result SpecCurve OpFault → Type 0) (made : Result SpecCurve OpFault) (r : Answer) → MayRunOut P → P made
    → IsShared made r → MakesCurve P r
shared_makes P (Ok f) (Ok (curve g)) out p s = let same : curve g ≡ curve f = s in let one : f ≡ g = cc in subst (λ h. P (Ok h)) one p
shared_makes P (Ok f) (Ok (number x)) out p s = absurd (let same : number x ≡ curve f = s in cc)
shared_makes P (Ok f) (Err fault) out p s = subst (λ e. P (Err e)) (sym s) (out f p)
shared_makes P (Err e) (Ok v) out p s = absurd s
shared_makes P (Err e) (Err fault) out p s = subst (λ d. P (Err d)) (sym s) p

-- ---- on cells
pub on_number_cell : (at : CellTable) (c : Cell) (x : Ext) (Q : Ext → Answer → Type 0) (r : Answer) → at c ≡ Some (number x) → Q x r
    → ThenNumber (IsOnly (λ v. at c ≡ Some v)) Q r
on_number_cell at c x Q r is q = goes_on (number x) is q

-- ---- packets
pub packets_finite : (f : SpecCurve) (l : ℚ) (r : Result SpecCurve OpFault) → IsFinite (value_at f) → AppliesTo (PosMinus l) f r
    → IfOk r (λ c. IsFinite (value_at c))
packets_finite f l (Ok c) finite a = above_finite l f c finite a.made
packets_finite f l (Err e) finite a = tt

-- a deviation of a cell's curve from another formula's
module _ (at : CellTable) (from : Cell) (G : Formula) (f : SpecCurve) (is : at from ≡ Some (curve f)) where
  pub backlog_made : (k : SpecCurve) (r : Answer) → Answers at G (Ok (curve k)) → MakesNumber (Deviates Vertical IsVerticalDeviation f k) r
      → Answers at (vertical (value_of from) G) r
  backlog_made k r q a = goes_on (curve f) is (goes_on (curve k) q a)

  pub backlog_refused : (fault : OpFault) → Answers at G (Err fault) → Answers at (vertical (value_of from) G) (Err fault)
  backlog_refused fault q = goes_on (curve f) is (stops fault q refl)

-- ---- a curve once more
pub again_given : (at : CellTable) (c : Cell) (f : SpecCurve) (r : Answer) → at c ≡ Some (curve f) → MakesCurve (IsAgain f) r
    → Gives at (value_of c) r
again_given at c f r is a = goes_on (curve f) is a
