-- At which operator calls on the values of cells are refused.
use Rattle.std.proofs.Common.{◌≡◌, ℕ, ◌+◌, List, [], ◌∷◌, length, refl, sym, subst, arith}
use Rattle.std.specs.Prelude.{Some, Result, Ok, Err, IfOk, IfErr}
use Rattle.upp_limits.specs.declared.op_kind.OpKind.{OpKind}
use Rattle.upp_limits.specs.declared.op_kind.OpKind.TheVariants.{PosMinus, Vertical}
use Rattle.upp_limits.specs.declared.op_kind.OpFault.{OpFault}
use Rattle.upp_limits.specs.declared.op_kind.OpFault.TheVariants.{NoMemory}
use Rattle.upp_curve.specs.Curve.{SpecCurve}
use Rattle.min_plus.specs.Deviations.{IsVerticalDeviation}
use Rattle.run_laws.specs.Cards.{whole}
use Rattle.curve_call.specs.Calls.{Applies, AppliesTo}
use Rattle.outcomes.specs.Calls.{goes_on, stops}
use Rattle.residuals.specs.calls.PriorityCalls.{MakesPriority}
use Rattle.residuals.specs.calls.DrrCalls.{MakesDrr}
use Rattle.residuals.specs.calls.InTurn.{on_the_way, past, PriorityRefused, DrrRefused}
use Rattle.net_cells.specs.declared.cell.Cell.{Cell}
use Rattle.net_cells.specs.Meanings.{Meaning, curve, number, CellTable}
use Rattle.net_cells.specs.Formulas.{Formula, operators, value_of, made, vertical}
use Rattle.net_cells.specs.CellFormulas.{less}
use Rattle.net_cells.specs.Answers.{Answers, Deviates, SumsOnto, SumsOf}
use Rattle.net_cells.specs.Refusals.{RefusedAt, SumsOntoRefused, SumsRefused}
use Rattle.net_cells.specs.cell_table.Gives.{Gives}
use Rattle.net_cells.specs.cell_table.Values.{answer_of}
use Rattle.cell_eval.specs.Sharing.{IsShared}

-- ---- two operands
module _ (at : CellTable) (F G : Formula) (op : OpKind) where
  pub first_refused : (fault : OpFault) (n : ℕ) → RefusedAt at F fault n → RefusedAt at (made op F G) fault n
  first_refused fault n r = on_the_way r

  pub second_refused : (f : SpecCurve) (fault : OpFault) (n : ℕ) → Answers at F (Ok (curve f)) → RefusedAt at G fault n
      → RefusedAt at (made op F G) fault (operators F + n)
  second_refused f fault n p r = past (curve f) n p refl (on_the_way r)

  pub both_refused : (f g : SpecCurve) (fault : OpFault) → Answers at F (Ok (curve f)) → Answers at G (Ok (curve g))
      → Applies op f g (Err fault) → RefusedAt at (made op F G) fault (operators F + (operators G + 1))
  both_refused f g fault p q r = past (curve f) (operators G + 1) p refl (past (curve g) 1 q refl (refl, r))

-- ---- packets
module _ (at : CellTable) (c : Cell) (f : SpecCurve) (bits : ℕ) (is : at c ≡ Some (curve f)) where
  pub less_refused : (fault : OpFault) → AppliesTo (PosMinus (whole bits)) f (Err fault) → RefusedAt at (less (value_of c) bits) fault 1
  less_refused fault a = past (curve f) 1 is refl (refl, a)

  pub less_made : (k : SpecCurve) → AppliesTo (PosMinus (whole bits)) f (Ok k) → Answers at (less (value_of c) bits) (Ok (curve k))
  less_made k a = goes_on (curve f) is a

-- a deviation of a cell's curve from a service in whole packets
pub backlog_first : (at : CellTable) (from : Cell) (G : Formula) (f : SpecCurve) (fault : OpFault) (n : ℕ) → at from ≡ Some (curve f)
    → RefusedAt at G fault n → RefusedAt at (vertical (value_of from) G) fault n
backlog_first at from G f fault n is r = past (curve f) n is (omega arith) (on_the_way r)

pub backlog_second : (at : CellTable) (from : Cell) (G : Formula) (f g : SpecCurve) (fault : OpFault) → at from ≡ Some (curve f)
    → Answers at G (Ok (curve g)) → Deviates Vertical IsVerticalDeviation f g (Err fault)
    → RefusedAt at (vertical (value_of from) G) fault (operators G + 1)
backlog_second at from G f g fault is q r = past (curve f) (operators G + 1) is (omega arith) (past (curve g) 1 q refl (refl, r))

-- ---- services of queues
pub priority_full : (β higher : SpecCurve) (lower : ℕ) (c : SpecCurve) → MakesPriority β higher lower (Ok c)
    → PriorityRefused β higher lower NoMemory 3
priority_full β higher lower c (goes_on left a b) = past left 1 a refl (refl, b.within)
priority_full β higher lower c (stops fault a e) = absurd (let bad : Ok c ≡ Err fault = e in cc)

pub drr_full : (β : SpecCurve) (quanta longest : List ℕ) (i : ℕ) (c : SpecCurve) → MakesDrr β quanta longest i (Ok c)
    → DrrRefused β quanta longest i NoMemory 2
drr_full β quanta longest i c (goes_on left a b) = past left 1 a refl (refl, b.within)
drr_full β quanta longest i c (stops fault a e) = absurd (let bad : Ok c ≡ Err fault = e in cc)

-- ---- what holds of each refusal, of each value
pub err_map : {A : Type 0} (r : Result A OpFault) (P Q : OpFault → Type 0) → ((fault : OpFault) → P fault → Q fault) → IfErr r P → IfErr r Q
err_map {A} (Ok x) P Q to h = tt
err_map {A} (Err fault) P Q to h = to fault h

pub ok_map : {A : Type 0} (r : Result A OpFault) (P Q : Type 0) → (P → Q) → IfOk r (λ _. P) → IfOk r (λ _. Q)
ok_map {A} (Ok x) P Q to h = to h
ok_map {A} (Err fault) P Q to h = tt

-- ---- curves that are shared once they are made
pub shared_refused : {V : Type 0} (meaning : V → Meaning) (P : Result SpecCurve OpFault → Type 0) (R : OpFault → ℕ → Type 0)
    (made : Result SpecCurve OpFault) (s : Result V OpFault) (n k : ℕ)
    → ((c : SpecCurve) → P (Ok c) → R NoMemory k) → P made → IfErr made (λ fault. R fault n) → IfOk made (λ _. n ≡ k)
    → IsShared made (answer_of meaning s) → IfErr s (λ fault. R fault n)
shared_refused {V} meaning P R (Ok c) (Ok v) n k full p refused all is = tt
shared_refused {V} meaning P R (Ok c) (Err e) n k full p refused all is =
    subst (λ d. R d n) (sym is) (subst (λ m. R NoMemory m) (sym all) (full c p))
shared_refused {V} meaning P R (Err d) (Ok v) n k full p refused all is = tt
shared_refused {V} meaning P R (Err d) (Err e) n k full p refused all is = subst (λ x. R x n) (sym is) refused

-- ---- sums
onto_full : (f : SpecCurve) (gs : List SpecCurve) (v : Meaning) → SumsOnto f gs (Ok v) → SumsOntoRefused f gs NoMemory (length gs)
onto_full f [] v a = (refl, refl)
onto_full f (g ∷ gs) v (goes_on (curve h) a b) = past (curve h) (length gs) a (omega arith) (onto_full h gs v b)
onto_full f (g ∷ gs) v (goes_on (number x) a b) = absurd b
onto_full f (g ∷ gs) v (stops fault a e) = absurd (let bad : Ok v ≡ Err fault = e in cc)

pub sums_full : (fs : List SpecCurve) (k : ℕ) (v : Meaning) → length fs ≡ k + 1 → SumsOf fs (Ok v) → SumsRefused fs NoMemory k
sums_full [] k v e a = absurd (omega (arith, e))
sums_full (f ∷ fs) k v e a =
    let same : length fs ≡ k = omega (arith, e) in
    subst (λ n. SumsOntoRefused f fs NoMemory n) same (onto_full f fs v a)

-- ---- a cell's curve, shared once more
pub again_memory : (at : CellTable) (c : Cell) (fault : OpFault) → Gives at (value_of c) (Err fault) → fault ≡ NoMemory
again_memory at c fault (goes_on (curve f) is a) = a
again_memory at c fault (goes_on (number x) is a) = absurd a
again_memory at c fault (stops e a is) = absurd a
