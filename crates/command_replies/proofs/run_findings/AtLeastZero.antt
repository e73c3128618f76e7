-- No bound of a table that meets the equations is below 0.
use Rattle.std.proofs.Common.{◌≡◌, ℕ, suc, List, [], ◌∷◌, map, inl, inr, refl, sym, subst, arith}
use Rattle.std.specs.Prelude.{◌==◌, ◌&&◌, Some, IsTrue, Contains, true}
use Rattle.std.specs.List.{range_with_len}
use Rattle.std.proofs.lemmas.Bool.{and_from}
use Rattle.rational.specs.Rational.{ℚ}
use Rattle.rational.specs.Extended.{Ext, ◌≤ₑ◌, ◌+ₑ◌}
use Rattle.rational.specs.declared.Extended.TheVariants.{Fin}
use Rattle.rational.proofs.ExtendedOrder.{le_ext_trans, le_or_lt_ext, add_le_ext, zero_add_ext, min_greatest}
use Rattle.rational.proofs.Laws.{le_refl, le_lt_trans, lt_irrefl}
use Rattle.min_plus.specs.Deviations.{IsLag, IsHorizontalDeviation}
use Rattle.min_plus.specs.Functions.{IsNonneg, zero_q, Time}
use Rattle.upp_curve.specs.Curve.{value_at}
use Rattle.net_model.specs.Accepted.{IsAccepted}
use Rattle.net_model.specs.Networks.{Net}
use Rattle.net_model.specs.Orders.{IsOrder}
use Rattle.net_cells.specs.declared.cell.Cell.{Cell}
use Rattle.net_cells.specs.declared.cell.Kind.TheVariants.{QueueDelay, HopDelay, Tfa, Sfa, Bound}
use Rattle.net_cells.specs.Cells.{cell_of, has_cell}
use Rattle.net_cells.specs.Equations.{MeetsEquations}
use Rattle.net_cells.specs.Means.{HaveNumbers, with_links, OfCurves}
use Rattle.net_cells.specs.Meanings.{Meaning, number, CellTable, IsNumberIn}
use Rattle.net_cells.specs.Numbered.{hops, is_live, link, path, server_of_hop, queue_of_hop}
use Rattle.net_cells.specs.NumberSums.{sum_of_numbers}
use Rattle.net_cells.specs.TableValues.{HasNumber}
use Rattle.net_cells.proofs.Precedes.{operands_are_cells}
use Rattle.net_cells.proofs.TableValues.{has_number, same_number}
use Rattle.net_bounds.proofs.FormulaParts.{number_map}
use Rattle.net_bounds.proofs.Routed.{link_nonneg}

-- ---- numbers
lag_nonneg : (f g : ℚ → Ext) (t : ℚ) (x : Ext) → IsLag f g t x → IsNonneg x
lag_nonneg f g t x is = elim (le_or_lt_ext (Fin zero_q) x) [
  | inl h ↦ h
  | inr less ↦
      let found = is.near zero_q less in
      absurd (lt_irrefl zero_q (le_lt_trans found.0.nonneg found.1))
]

horizontal_nonneg : (f g : ℚ → Ext) (h : Ext) → IsHorizontalDeviation f g h → IsNonneg h
horizontal_nonneg f g h d =
    let start : Time = record { at = zero_q; nonneg = le_refl zero_q } in
    le_ext_trans (Fin zero_q) (d.lag start) h (lag_nonneg f g zero_q (d.lag start) (d.is_lag start)) (d.is.above start)

sum_nonneg : (x y : Ext) → IsNonneg x → IsNonneg y → IsNonneg (x +ₑ y)
sum_nonneg x y h k =
    subst (λ z. z ≤ₑ (x +ₑ y)) (zero_add_ext (Fin zero_q)) (add_le_ext (Fin zero_q) x (Fin zero_q) y h k)

links_nonneg : (net : Net) (ss : List ℕ) → IsAccepted net → IsNonneg (sum_of_numbers (map Fin (map (link net) ss)))
links_nonneg net [] a = le_refl zero_q
links_nonneg net (s ∷ ss) a =
    sum_nonneg (Fin (link net s)) (sum_of_numbers (map Fin (map (link net) ss))) (link_nonneg net s a)
    (links_nonneg net ss a)

-- ---- cells
-- a horizontal deviation of two cells' curves
deviation_nonneg : (P Q : Meaning → Type 0) (v : Meaning)
    → OfCurves P Q (λ f g. IsNumberIn (IsHorizontalDeviation (value_at f) (value_at g))) v → IsNumberIn IsNonneg v
deviation_nonneg P Q v m =
    let f = value_at m.operand in
    let g = value_at m.gives.operand in
    number_map (IsHorizontalDeviation f g) IsNonneg v (λ x d. horizontal_nonneg f g x d) m.gives.gives

-- where a table has a number that is at least 0, any number that it has there is
known : (at : CellTable) (c : Cell) (x : Ext) → HasNumber at c IsNonneg → at c ≡ Some (number x) → IsNonneg x
known at c x h is = subst IsNonneg (same_number at c h.value x h.is is) h.holds

pub record Given (net : Net) (order : List ℕ) (at : CellTable) : Type 0 where
  pub accepted : IsAccepted net
  pub ordered : IsOrder net order
  pub meets : MeetsEquations net at

queue_delay : (net : Net) (order : List ℕ) (at : CellTable) (s q : ℕ) → Given net order at
    → IsTrue (has_cell net (cell_of QueueDelay s q)) → HasNumber at (cell_of QueueDelay s q) IsNonneg
queue_delay net order at s q g has =
    let e = g.meets (cell_of QueueDelay s q) has in
    has_number at (cell_of QueueDelay s q) IsNonneg e.value e.is (deviation_nonneg _ _ e.value e.means)

hop_delay : (net : Net) (order : List ℕ) (at : CellTable) (i k : ℕ) → Given net order at
    → IsTrue (has_cell net (cell_of HopDelay i k)) → HasNumber at (cell_of HopDelay i k) IsNonneg
hop_delay net order at i k g has =
    let c = cell_of HopDelay i k in
    let s = server_of_hop net i k in
    let q = queue_of_hop net i k in
    let e = g.meets c has in
    let m = e.means in
    let here =
    operands_are_cells net order g.accepted g.ordered c (cell_of QueueDelay s q) has (0, omega arith, refl) in
    let x : IsNonneg m.operand =
    known at (cell_of QueueDelay s q) m.operand (queue_delay net order at s q g here) m.is in
    let y : IsNonneg m.gives.operand = deviation_nonneg _ _ (number m.gives.operand) m.gives.is in
    has_number at c IsNonneg e.value e.is
    (subst (IsNumberIn IsNonneg) (sym m.gives.gives)
    (min_greatest m.operand m.gives.operand (Fin zero_q) x y))

-- the sum of these hops' delays and the links
hops_nonneg : (net : Net) (order : List ℕ) (at : CellTable) (i : ℕ) (ks : List ℕ) (xs : List Ext) (ss : List ℕ)
    → Given net order at
    → ((d : Cell) → Contains (map (cell_of HopDelay i) ks) d → IsTrue (has_cell net d))
    → HaveNumbers at (map (cell_of HopDelay i) ks) xs → IsNonneg (sum_of_numbers (with_links xs (map (link net) ss)))
hops_nonneg net order at i [] [] ss g has are = links_nonneg net ss g.accepted
hops_nonneg net order at i [] (x ∷ xs) ss g has are = absurd are
hops_nonneg net order at i (k ∷ ks) [] ss g has are = absurd are
hops_nonneg net order at i (k ∷ ks) (x ∷ xs) ss g has are =
    let c = cell_of HopDelay i k in
    sum_nonneg x (sum_of_numbers (with_links xs (map (link net) ss)))
    (known at c x (hop_delay net order at i k g (has c (0, omega arith, refl))) are.0)
    (hops_nonneg net order at i ks xs ss g
    (λ d there. let l = there.1 in has d (suc there.0, omega arith, there.2)) are.1)

-- ---- a flow
of_path : (net : Net) (i : ℕ) → IsTrue (is_live net i) → (is_live net i && (0 == 0)) ≡ true
of_path net i live = and_from (is_live net i) (0 == 0) live refl

by_hops : (net : Net) (order : List ℕ) (at : CellTable) (i : ℕ) → Given net order at → IsTrue (is_live net i)
    → HasNumber at (cell_of Tfa i 0) IsNonneg
by_hops net order at i g live =
    let c = cell_of Tfa i 0 in
    let has = of_path net i live in
    let e = g.meets c has in
    has_number at c IsNonneg e.value e.is
    (subst (IsNumberIn IsNonneg) (sym e.means.gives)
    (hops_nonneg net order at i (range_with_len 0 (hops net i)) e.means.numbers (path net i) g
    (λ d there. operands_are_cells net order g.accepted g.ordered c d has there) e.means.are))

by_service : (net : Net) (order : List ℕ) (at : CellTable) (i : ℕ) → Given net order at → IsTrue (is_live net i)
    → HasNumber at (cell_of Sfa i 0) IsNonneg
by_service net order at i g live =
    let c = cell_of Sfa i 0 in
    let e = g.meets c (of_path net i live) in
    let m = e.means in
    let x : IsNonneg m.operand = deviation_nonneg _ _ (number m.operand) m.is in
    has_number at c IsNonneg e.value e.is
    (subst (IsNumberIn IsNonneg) (sym m.gives)
    (sum_nonneg m.operand (sum_of_numbers (map Fin (map (link net) (path net i)))) x
    (links_nonneg net (path net i) g.accepted)))

pub bound_nonneg : (net : Net) (order : List ℕ) (at : CellTable) (i : ℕ) → Given net order at → IsTrue (is_live net i)
    → HasNumber at (cell_of Bound i 0) IsNonneg
bound_nonneg net order at i g live =
    let c = cell_of Bound i 0 in
    let e = g.meets c (of_path net i live) in
    let m = e.means in
    let x : IsNonneg m.operand = known at (cell_of Tfa i 0) m.operand (by_hops net order at i g live) m.is in
    let y : IsNonneg m.gives.operand =
    known at (cell_of Sfa i 0) m.gives.operand (by_service net order at i g live) m.gives.is in
    has_number at c IsNonneg e.value e.is
    (subst (IsNumberIn IsNonneg) (sym m.gives.gives)
    (min_greatest m.operand m.gives.operand (Fin zero_q) x y))
