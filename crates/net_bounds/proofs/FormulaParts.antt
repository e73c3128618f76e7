-- What parts of formulas mean: a curve less one packet, and deviations of two cells' curves.
use Rattle.std.specs.Prelude.{◌≡◌, ℕ, Some}
use Rattle.std.proofs.Common.{sym, ◌∙◌}
use Rattle.rational.specs.Rational.{ℚ}
use Rattle.rational.specs.Extended.{Ext}
use Rattle.upp_limits.specs.declared.op_kind.OpKind.TheVariants.{PosMinus}
use Rattle.upp_curve.specs.Curve.{value_at}
use Rattle.min_plus.specs.Functions.{FiniteTime}
use Rattle.min_plus.specs.Pointwise.{packetised}
use Rattle.min_plus.specs.Convolution.{IsDeconvolution}
use Rattle.min_plus.specs.Deviations.{IsVerticalDeviation}
use Rattle.curve_call.specs.Answers.{IsMadeBy}
use Rattle.run_laws.specs.Cards.{whole}
use Rattle.net_cells.specs.declared.cell.Cell.{Cell}
use Rattle.net_cells.specs.Meanings.{Meaning, curve, number, CellTable, IsCurveIn, IsNumberIn}
use Rattle.net_cells.specs.Formulas.{value_of}
use Rattle.net_cells.specs.CellFormulas.{less}
use Rattle.net_cells.specs.Means.{Means, OfCurves}
use Rattle.net_bounds.proofs.Cells.{values, of_values, curve_map, HasValues}

-- ---- functions with one value at each time from 0 on have the same deviations
abbrev finite_there : (g h : ℚ → Ext) → HasValues h g → FiniteTime h → FiniteTime g
finite_there g h same u = record { at = u.at; nonneg = u.nonneg; level = u.level; is = same u.at u.nonneg ∙ u.is }

abbrev finite_here : (g h : ℚ → Ext) → HasValues h g → FiniteTime g → FiniteTime h
finite_here g h same u = record { at = u.at; nonneg = u.nonneg; level = u.level; is = sym (same u.at u.nonneg) ∙ u.is }

pub vertical_same : (f g h : ℚ → Ext) (v : Ext) → HasValues h g → IsVerticalDeviation f g v → IsVerticalDeviation f h v
vertical_same f g h v same d = record {
  above = λ u. d.above (finite_there g h same u);
  near = λ y l. let (u, m) = d.near y l in (finite_here g h same u, m);
}

pub deconvolution_same : (f g h : ℚ → Ext) (t : ℚ) (v : Ext) → HasValues h g → IsDeconvolution f g t v
    → IsDeconvolution f h t v
deconvolution_same f g h t v same d = record {
  above = λ u. d.above (finite_there g h same u);
  near = λ y l. let (u, m) = d.near y l in (finite_here g h same u, m);
}

-- ---- parts of formulas
abbrev pub a_curve : (ℚ → Ext) → Type 0
a_curve f = Unit {0}

-- a curve less one packet
pub less_reads : (at : CellTable) (c : Cell) (bits : ℕ) (w : Meaning) → Means at (less (value_of c) bits) w
    → IsCurveIn (λ h. HasValues (packetised (values at c) (whole bits)) (value_at h)) w
less_reads at c bits w m =
    let f = m.operand in
    curve_map (IsMadeBy (PosMinus (whole bits)) f f)
    (λ h. HasValues (packetised (values at c) (whole bits)) (value_at h)) w
    (λ h made t p. of_values at c f (λ (a : ℚ → Ext). value_at h t ≡ packetised a (whole bits) t) m.is
    (made.answers t p))
    m.gives

pub number_map : (P Q : Ext → Type 0) (v : Meaning) → ((x : Ext) → P x → Q x) → IsNumberIn P v → IsNumberIn Q v
number_map P Q (curve f) m h = absurd h
number_map P Q (number x) m h = m x h

-- a deviation of two cells' curves
pub deviation_reads : (at : CellTable) (c d : Cell) (D : (ℚ → Ext) → (ℚ → Ext) → Ext → Type 0) (v : Meaning)
    → OfCurves (λ w. at c ≡ Some w) (λ w. at d ≡ Some w) (λ f g. IsNumberIn (D (value_at f) (value_at g))) v
    → IsNumberIn (D (values at c) (values at d)) v
deviation_reads at c d D v m =
    let f = m.operand in
    let g = m.gives.operand in
    number_map (D (value_at f) (value_at g)) (D (values at c) (values at d)) v
    (λ x h. of_values at c f (λ (a : ℚ → Ext). D a (values at d) x) m.is
    (of_values at d g (λ (b : ℚ → Ext). D (value_at f) b x) m.gives.is h))
    m.gives.gives
