-- Services of hops after one another.
use Rattle.std.proofs.Common.{◌≡◌, ℕ, zero, suc, ◌+◌, ◌-◌, ◌*◌, ◌≤◌, refl, sym, ◌∙◌, subst, arith, inl, inr}
use Rattle.std.specs.Prelude.{Some, Result, Ok, Err}
use Rattle.std.proofs.lemmas.Bool.{cases_lt}
use Rattle.upp_limits.specs.declared.op_kind.OpKind.{OpKind}
use Rattle.upp_limits.specs.declared.op_kind.OpKind.TheVariants.{PosMinus, Convolve}
use Rattle.upp_limits.specs.declared.op_kind.OpFault.{OpFault}
use Rattle.upp_curve.specs.Curve.{SpecCurve}
use Rattle.run_laws.specs.Cards.{whole}
use Rattle.curve_call.specs.Calls.{Applies, AppliesTo}
use Rattle.outcomes.specs.Calls.{goes_on, stops}
use Rattle.net_model.specs.Networks.{Net}
use Rattle.net_cells.specs.declared.cell.Cell.{Cell}
use Rattle.net_cells.specs.declared.cell.Kind.TheVariants.{Residual}
use Rattle.net_cells.specs.Numbered.{packet}
use Rattle.net_cells.specs.Cells.{cell_of}
use Rattle.net_cells.specs.Meanings.{curve, CellTable}
use Rattle.net_cells.specs.Formulas.{Formula, operators, value_of, made}
use Rattle.net_cells.specs.CellFormulas.{less, packets_to, served_to}
use Rattle.net_cells.specs.Answers.{Answer, Answers, MakesCurve}
use Rattle.net_cells.specs.Refusals.{RefusedAt}
use Rattle.residuals.specs.calls.InTurn.{on_the_way}
use Rattle.net_cells.specs.cell_table.Gives.{Gives}
use Rattle.net_cells.specs.cell_table.Values.{answer_of}

pub made_answer : (P : Result SpecCurve OpFault → Type 0) (r : Result SpecCurve OpFault) → P r → MakesCurve P (answer_of curve r)
made_answer P (Ok f) p = p
made_answer P (Err e) p = p

-- a cell's service less one packet
pub less_answer : (at : CellTable) (c : Cell) (f : SpecCurve) (bits : ℕ) (r : Result SpecCurve OpFault) → at c ≡ Some (curve f)
    → AppliesTo (PosMinus (whole bits)) f r → Answers at (less (value_of c) bits) (answer_of curve r)
less_answer at c f bits r is a = goes_on (curve f) is (made_answer (AppliesTo (PosMinus (whole bits)) f) r a)

pub joined_answer : (at : CellTable) (F G : Formula) (op : OpKind) (f g : SpecCurve) (r : Answer) → Answers at F (Ok (curve f))
    → Answers at G (Ok (curve g)) → MakesCurve (Applies op f g) r → Answers at (made op F G) r
joined_answer at F G op f g r p q a = goes_on (curve f) p (goes_on (curve g) q a)

pub second_fails : (at : CellTable) (F G : Formula) (op : OpKind) (f : SpecCurve) (fault : OpFault) → Answers at F (Ok (curve f))
    → Answers at G (Err fault) → Answers at (made op F G) (Err fault)
second_fails at F G op f fault p q = goes_on (curve f) p (stops fault q refl)

pub first_fails : (at : CellTable) (F G : Formula) (fault : OpFault) → Answers at F (Err fault) → Answers at (made Convolve F G) (Err fault)
first_fails at F G fault p = stops fault p refl

pub packets_fail : (at : CellTable) (net : Net) (i k n : ℕ) (fault : OpFault) → k ≤ n → Answers at (packets_to net i k) (Err fault)
    → Answers at (packets_to net i n) (Err fault)
packets_fail at net i k zero fault h a =
    let e : k ≡ 0 = omega arith in subst (λ j. Answers at (packets_to net i j) (Err fault)) e a
packets_fail at net i k (suc n) fault h a =
    elim (cases_lt n k) [
      | inl l ↦ let e : k ≡ suc n = omega arith in subst (λ j. Answers at (packets_to net i j) (Err fault)) e a
      | inr l ↦ stops fault (packets_fail at net i k n fault l a) refl
    ]

pub packets_refused : (at : CellTable) (net : Net) (i k n : ℕ) (fault : OpFault) (m : ℕ) → k ≤ n → RefusedAt at (packets_to net i k) fault m
    → RefusedAt at (packets_to net i n) fault m
packets_refused at net i k zero fault m h a =
    let e : k ≡ 0 = omega arith in subst (λ j. RefusedAt at (packets_to net i j) fault m) e a
packets_refused at net i k (suc n) fault m h a =
    elim (cases_lt n k) [
      | inl l ↦ let e : k ≡ suc n = omega arith in subst (λ j. RefusedAt at (packets_to net i j) fault m) e a
      | inr l ↦ on_the_way (packets_refused at net i k n fault m l a)
    ]

pub packets_operators : (net : Net) (i k : ℕ) → operators (packets_to net i k) ≡ 2 * k + 1
packets_operators net i zero = refl
packets_operators net i (suc k) = let e = packets_operators net i k in omega (arith, e)

-- ---- along a path
pub first_formula : (P : Formula → Type 0) (net : Net) (i bits : ℕ) → bits ≡ packet net i
    → P (less (value_of (cell_of Residual i 0)) bits) → P (packets_to net i 0)
first_formula P net i bits e p = subst (λ b. P (less (value_of (cell_of Residual i 0)) b)) e p

pub next_formula : (P : Formula → Type 0) (net : Net) (i n bits : ℕ) → bits ≡ packet net i
    → P (made Convolve (packets_to net i n) (less (value_of (cell_of Residual i (n + 1))) bits)) → P (packets_to net i (n + 1))
next_formula P net i n bits e p =
    let one : n + 1 ≡ suc n = omega arith in
    let step : P (packets_to net i (suc n)) =
    subst (λ m. P (made Convolve (packets_to net i n) (less (value_of (cell_of Residual i m)) (packet net i)))) one
    (subst (λ b. P (made Convolve (packets_to net i n) (less (value_of (cell_of Residual i (n + 1))) b))) e p) in
    subst (λ m. P (packets_to net i m)) (sym one) step

pub last_formula : (P : Formula → Type 0) (net : Net) (i n h : ℕ) → h - 1 ≡ n + 1
    → P (made Convolve (packets_to net i n) (value_of (cell_of Residual i (n + 1)))) → P (served_to net i (h - 1))
last_formula P net i n h e p =
    let one : n + 1 ≡ suc n = omega arith in
    let step : P (served_to net i (suc n)) =
    subst (λ m. P (made Convolve (packets_to net i n) (value_of (cell_of Residual i m)))) one p in
    subst (λ m. P (served_to net i m)) (sym (e ∙ one)) step

pub next_packets : (at : CellTable) (net : Net) (i n bits : ℕ) (r : Answer) → bits ≡ packet net i
    → Answers at (made Convolve (packets_to net i n) (less (value_of (cell_of Residual i (n + 1))) bits)) r
    → Answers at (packets_to net i (n + 1)) r
next_packets at net i n bits r e a = next_formula (λ F. Answers at F r) net i n bits e a

pub last_served : (at : CellTable) (net : Net) (i n h : ℕ) (r : Answer) → h - 1 ≡ n + 1
    → Answers at (made Convolve (packets_to net i n) (value_of (cell_of Residual i (n + 1)))) r → Gives at (served_to net i (h - 1)) r
last_served at net i n h r e a =
    let one : n + 1 ≡ suc n = omega arith in
    let step : Gives at (served_to net i (suc n)) r =
    subst (λ m. Answers at (made Convolve (packets_to net i n) (value_of (cell_of Residual i m))) r) one a in
    subst (λ m. Gives at (served_to net i m) r) (sym (e ∙ one)) step

pub only_served : (at : CellTable) (net : Net) (i h : ℕ) (r : Answer) → h ≡ 1 → Gives at (value_of (cell_of Residual i 0)) r
    → Gives at (served_to net i (h - 1)) r
only_served at net i h r e a =
    let zero_left : h - 1 ≡ 0 = omega (arith, e) in
    subst (λ m. Gives at (served_to net i m) r) (sym zero_left) a
