-- Cells that meet their equations, with all that they are made of, and what is found in a table.
use Rattle.std.proofs.Common.{◌≡◌, ℕ, zero, suc, ◌≤◌, List, [], ◌∷◌, refl, sym, ap, ◌∙◌, subst, arith, inl, inr}
use Rattle.std.specs.Prelude.{Some, Contains}
use Rattle.std.proofs.lemmas.Bool.{cases_lt}
use Rattle.rational.specs.Extended.{Ext}
use Rattle.upp_limits.specs.declared.op_kind.OpKind.TheVariants.{Sum}
use Rattle.upp_curve.specs.Curve.{SpecCurve}
use Rattle.net_model.specs.Networks.{Net}
use Rattle.net_cells.specs.declared.cell.Cell.{Cell}
use Rattle.net_cells.specs.declared.cell.Kind.TheVariants.{Residual}
use Rattle.net_cells.specs.Cells.{cell_of}
use Rattle.net_cells.specs.Meanings.{Meaning, curve, number, CellTable, IsCurveIn, IsNumberIn}
use Rattle.net_cells.specs.Formulas.{Formula, leaves, made, value_of}
use Rattle.net_cells.specs.CellFormulas.{formula, sum_of_cells, sum_from, packets_to, served_to}
use Rattle.net_cells.specs.Equations.{MeetsEquation, MeetsBelow}
use Rattle.cell_numbers.specs.TableValues.{HasCurve, HasNumber}
use Rattle.run_laws.proofs.Members.{Has, has_contains, has_left, has_right}
pub use Rattle.net_cells.proofs.TableValues.{has_number}

-- the cells of P meet their equations, and what they are made of is of P too
pub record Meets (net : Net) (at : CellTable) (P : Cell → Type 0) : Type 0 where
  pub closed : (d e : Cell) → P d → Has (leaves (formula net d)) e → P e
  pub meet : (d : Cell) → P d → MeetsEquation net at d

abbrev pub InList : List Cell → Cell → Type 0
InList cells c = Contains cells c

pub meets_below : (net : Net) (at : CellTable) (c : Cell) → (b : MeetsBelow net at c) → Meets net at (InList b.cells)
meets_below net at c b = record {
  closed = λ d e p h. b.closed d e p (has_contains (leaves (formula net d)) e h);
  meet = λ d p. b.meet d p;
}

pub operand : (net : Net) (at : CellTable) (c d : Cell) (b : MeetsBelow net at c) → Has (leaves (formula net c)) d → InList b.cells d
operand net at c d b h = b.operands d (has_contains (leaves (formula net c)) d h)

-- ---- values
pub curve_from : (Q : SpecCurve → Type 0) (v : Meaning) → IsCurveIn Q v → (f : SpecCurve) × (v ≡ curve f) × Q f
curve_from Q (curve f) q = (f, refl, q)
curve_from Q (number x) q = absurd q

pub number_from : (Q : Ext → Type 0) (v : Meaning) → IsNumberIn Q v → (x : Ext) × (v ≡ number x) × Q x
number_from Q (curve f) q = absurd q
number_from Q (number x) q = (x, refl, q)

pub has_curve : (at : CellTable) (c : Cell) (Q : SpecCurve → Type 0) (v : Meaning) → at c ≡ Some v → IsCurveIn Q v → HasCurve at c Q
has_curve at c Q (curve f) is q = record { value = f; is = is; holds = q }
has_curve at c Q (number x) is q = absurd q

pub number_holds : (at : CellTable) (c : Cell) (Q : Ext → Type 0) (x : Ext) → HasNumber at c Q → at c ≡ Some (number x) → Q x
number_holds at c Q x h is =
    let both : Some (number h.value) ≡ Some (number x) = sym h.is ∙ is in
    let same : h.value ≡ x = cc in
    subst Q same h.holds

pub curve_map : (at : CellTable) (c : Cell) (Q R : SpecCurve → Type 0) → HasCurve at c Q → ((f : SpecCurve) → Q f → R f) → HasCurve at c R
curve_map at c Q R h to = record { value = h.value; is = h.is; holds = to h.value h.holds }

pub number_map : (at : CellTable) (c : Cell) (Q R : Ext → Type 0) → HasNumber at c Q → ((x : Ext) → Q x → R x) → HasNumber at c R
number_map at c Q R h to = record { value = h.value; is = h.is; holds = to h.value h.holds }

-- ---- what sums are made of
sum_first : (F : Formula) (cs : List Cell) (d : Cell) → Has (leaves F) d → Has (leaves (sum_from F cs)) d
sum_first F [] d h = h
sum_first F (c ∷ cs) d h = sum_first (made Sum F (value_of c)) cs d (has_left (leaves F) (c ∷ []) d h)

sum_later : (F : Formula) (cs : List Cell) (d : Cell) → Has cs d → Has (leaves (sum_from F cs)) d
sum_later F [] d h = absurd h
sum_later F (c ∷ cs) d (inl e) =
    sum_first (made Sum F (value_of c)) cs d (has_right (leaves F) (c ∷ []) d (inl e))
sum_later F (c ∷ cs) d (inr h) = sum_later (made Sum F (value_of c)) cs d h

pub sum_leaf : (cs : List Cell) (d : Cell) → Has cs d → Has (leaves (sum_of_cells cs)) d
sum_leaf [] d h = absurd h
sum_leaf (c ∷ cs) d (inl e) = sum_first (value_of c) cs d (inl e)
sum_leaf (c ∷ cs) d (inr h) = sum_later (value_of c) cs d h

-- ---- what paths are made of
pub packets_leaf : (net : Net) (i k j : ℕ) → j ≤ k → Has (leaves (packets_to net i k)) (cell_of Residual i j)
packets_leaf net i zero j h = let e : 0 ≡ j = omega arith in inl (ap (cell_of Residual i) e)
packets_leaf net i (suc k) j h =
    elim (cases_lt k j) [
      | inl l ↦
          let e : suc k ≡ j = omega arith in
          has_right (leaves (packets_to net i k)) (cell_of Residual i (suc k) ∷ []) (cell_of Residual i j) (inl (ap (cell_of Residual i) e))
      | inr l ↦ has_left (leaves (packets_to net i k)) (cell_of Residual i (suc k) ∷ []) (cell_of Residual i j) (packets_leaf net i k j l)
    ]

pub served_leaf : (net : Net) (i k j : ℕ) → j ≤ k → Has (leaves (served_to net i k)) (cell_of Residual i j)
served_leaf net i zero j h = let e : 0 ≡ j = omega arith in inl (ap (cell_of Residual i) e)
served_leaf net i (suc k) j h =
    elim (cases_lt k j) [
      | inl l ↦
          let e : suc k ≡ j = omega arith in
          has_right (leaves (packets_to net i k)) (cell_of Residual i (suc k) ∷ []) (cell_of Residual i j) (inl (ap (cell_of Residual i) e))
      | inr l ↦ has_left (leaves (packets_to net i k)) (cell_of Residual i (suc k) ∷ []) (cell_of Residual i j) (packets_leaf net i k j l)
    ]
