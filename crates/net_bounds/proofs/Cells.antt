-- The curve and the number that a table has in a cell, as functions; and what a formula's meaning says of them.
use Rattle.std.specs.Prelude.{◌≡◌, List, [], ◌∷◌, Option, Some, None}
use Rattle.std.proofs.Common.{sym, ap, ◌∙◌, subst}
use Rattle.rational.specs.Rational.{ℚ, ◌+ℚ◌, ◌*ℚ◌, ◌≤ℚ◌}
use Rattle.rational.specs.Extended.{Ext, ◌+ₑ◌}
use Rattle.rational.specs.declared.Extended.TheVariants.{Fin, Inf}
use Rattle.rational.proofs.ExtendedOrder.{add_zero_ext, add_ext_assoc}
use Rattle.rational.proofs.Laws.{mul_zero, mul_comm, add_zero}
use Rattle.upp_limits.specs.declared.op_kind.OpKind.{OpKind}
use Rattle.upp_limits.specs.declared.op_kind.OpKind.TheVariants.{Sum}
use Rattle.upp_curve.specs.Curve.{SpecCurve, value_at}
use Rattle.min_plus.specs.Functions.{zero_q}
use Rattle.upp_curve.proofs.KindValues.{bucket_is}
use Rattle.curve_call.specs.Answers.{IsAnswer, IsMadeBy}
use Rattle.net_cells.specs.declared.cell.Cell.{Cell}
use Rattle.net_cells.specs.Numbered.{zero_curve}
use Rattle.net_cells.specs.Meanings.{Meaning, curve, number, CellTable, IsCurveIn}
use Rattle.net_cells.specs.Formulas.{Formula, value_of, made}
use Rattle.net_cells.specs.CellFormulas.{sum_from, sum_of_cells}
use Rattle.net_cells.specs.Means.{Means}
use Rattle.net_bounds.specs.TableValues.{HasFunction, HasNumber}
use Rattle.net_bounds.proofs.ListSums.{sum_over}

-- ---- what is in a cell; zero where there is no curve, and infinity where there is no number
pub curve_in : Option Meaning → SpecCurve
curve_in None = zero_curve
curve_in (Some (curve f)) = f
curve_in (Some (number x)) = zero_curve

pub number_in : Option Meaning → Ext
number_in None = Inf
number_in (Some (curve f)) = Inf
number_in (Some (number x)) = x

abbrev pub values : CellTable → Cell → ℚ → Ext
values at c = value_at (curve_in (at c))

abbrev pub size_in : CellTable → Cell → Ext
size_in at c = number_in (at c)

pub values_are : (at : CellTable) (c : Cell) (f : SpecCurve) → at c ≡ Some (curve f) → values at c ≡ value_at f
unfolding curve_in
values_are at c f e = ap (λ (o : Option Meaning). value_at (curve_in o)) e

pub number_is : (at : CellTable) (c : Cell) (x : Ext) → at c ≡ Some (number x) → size_in at c ≡ x
unfolding number_in
number_is at c x e = ap number_in e

pub of_values : (at : CellTable) (c : Cell) (f : SpecCurve) (P : (ℚ → Ext) → Type 0) → at c ≡ Some (curve f)
    → P (value_at f) → P (values at c)
of_values at c f P e h = subst P (sym (values_are at c f e)) h

pub of_number : (at : CellTable) (c : Cell) (x : Ext) (P : Ext → Type 0) → at c ≡ Some (number x) → P x
    → P (size_in at c)
of_number at c x P e h = subst P (sym (number_is at c x e)) h

-- ---- from what the table has, and to it
pub curve_holds : (at : CellTable) (c : Cell) (P : (ℚ → Ext) → Type 0) → HasFunction at c P → P (values at c)
curve_holds at c P h = of_values at c h.value P h.is h.holds

pub number_holds : (at : CellTable) (c : Cell) (P : Ext → Type 0) → HasNumber at c P → P (size_in at c)
number_holds at c P h = of_number at c h.value P h.is h.holds

pub curve_has : (at : CellTable) (c : Cell) (P Q : (ℚ → Ext) → Type 0) → HasFunction at c P → Q (values at c)
    → HasFunction at c Q
curve_has at c P Q h k = record { value = h.value; is = h.is; holds = subst Q (values_are at c h.value h.is) k }

pub number_has : (at : CellTable) (c : Cell) (P Q : Ext → Type 0) → HasNumber at c P → Q (size_in at c)
    → HasNumber at c Q
number_has at c P Q h k = record { value = h.value; is = h.is; holds = subst Q (number_is at c h.value h.is) k }

pub curve_from : (at : CellTable) (c : Cell) (P : (ℚ → Ext) → Type 0) (v : Meaning) → at c ≡ Some v
    → IsCurveIn (λ f. P (value_at f)) v → HasFunction at c P
curve_from at c P (curve f) e h = record { value = f; is = e; holds = h }
curve_from at c P (number x) e h = absurd h

pub curve_map : (P Q : SpecCurve → Type 0) (v : Meaning) → ((f : SpecCurve) → P f → Q f) → IsCurveIn P v → IsCurveIn Q v
curve_map P Q (curve f) m h = m f h
curve_map P Q (number x) m h = absurd h

-- ---- a curve with given values at each time from 0 on
abbrev pub HasValues : (ℚ → Ext) → (ℚ → Ext) → Type 0
HasValues base f = (t : ℚ) → zero_q ≤ℚ t → f t ≡ base t

-- where the values of two curves in cells are put together
pub made_of_two : (at : CellTable) (op : OpKind) (c d : Cell) (v : Meaning)
    → Means at (made op (value_of c) (value_of d)) v
    → IsCurveIn (λ h. (t : ℚ) → zero_q ≤ℚ t → IsAnswer op (values at c) (values at d) t (value_at h t)) v
made_of_two at op c d v m =
    let f = m.operand in
    let g = m.gives.operand in
    curve_map (IsMadeBy op f g)
    (λ h. (t : ℚ) → zero_q ≤ℚ t → IsAnswer op (values at c) (values at d) t (value_at h t)) v
    (λ h made t p.
    of_values at c f (λ (a : ℚ → Ext). IsAnswer op a (values at d) t (value_at h t)) m.is
    (of_values at d g (λ (b : ℚ → Ext). IsAnswer op (value_at f) b t (value_at h t)) m.gives.is (made.answers t p)))
    m.gives.gives

-- ---- sums
zero_values : HasValues (λ t. Fin zero_q) (value_at zero_curve)
zero_values t p = (bucket_is zero_q zero_q).is t p ∙ ap Fin (add_zero_mul t)
  where
    add_zero_mul : (t : ℚ) → zero_q +ℚ zero_q *ℚ t ≡ zero_q
    add_zero_mul t = ap (λ (x : ℚ). zero_q +ℚ x) (mul_comm zero_q t ∙ mul_zero t) ∙ add_zero zero_q

one_more : (at : CellTable) (F : Formula) (c : Cell) (base : ℚ → Ext) (v : Meaning)
    → ((w : Meaning) → Means at F w → IsCurveIn (λ f. HasValues base (value_at f)) w)
    → Means at (made Sum F (value_of c)) v → IsCurveIn (λ f. HasValues (λ t. base t +ₑ values at c t) (value_at f)) v
one_more at F c base v reads m =
    let f = m.operand in
    let g = m.gives.operand in
    curve_map (IsMadeBy Sum f g) (λ h. HasValues (λ t. base t +ₑ values at c t) (value_at h)) v
    (λ h made t p.
    of_values at c g (λ (b : ℚ → Ext). value_at h t ≡ base t +ₑ b t) m.gives.is
    (made.answers t p ∙ ap (λ (x : Ext). x +ₑ value_at g t) (reads (curve f) m.is t p)))
    m.gives.gives

from_first : (at : CellTable) (F : Formula) (cs : List Cell) (base : ℚ → Ext) (v : Meaning)
    → ((w : Meaning) → Means at F w → IsCurveIn (λ f. HasValues base (value_at f)) w)
    → Means at (sum_from F cs) v → IsCurveIn (λ f. HasValues (λ t. base t +ₑ sum_over (values at) cs t) (value_at f)) v
from_first at F [] base v reads m =
    curve_map (λ f. HasValues base (value_at f)) (λ f. HasValues (λ t. base t +ₑ Fin zero_q) (value_at f)) v
    (λ f h t p. h t p ∙ sym (add_zero_ext (base t))) (reads v m)
from_first at F (c ∷ cs) base v reads m =
    curve_map (λ f. HasValues (λ t. (base t +ₑ values at c t) +ₑ sum_over (values at) cs t) (value_at f))
    (λ f. HasValues (λ t. base t +ₑ (values at c t +ₑ sum_over (values at) cs t)) (value_at f)) v
    (λ f h t p. h t p ∙ add_ext_assoc (base t) (values at c t) (sum_over (values at) cs t))
    (from_first at (made Sum F (value_of c)) cs (λ t. base t +ₑ values at c t) v
    (λ w k. one_more at F c base w reads k) m)

-- each cell has a curve
abbrev pub AllCurves : CellTable → List Cell → Type 0
AllCurves at [] = Unit {0}
AllCurves at (c ∷ cs) = HasFunction at c (λ f. Unit {0}) × AllCurves at cs

pub same_curve : (at : CellTable) (c : Cell) (w : Meaning) → HasFunction at c (λ f. Unit {0}) → at c ≡ Some w
    → IsCurveIn (λ f. value_at f ≡ values at c) w
same_curve at c (curve f) h e = sym (values_are at c f e)
same_curve at c (number x) h e = absurd (no (sym h.is ∙ e))
  where
    no : Some (curve h.value) ≡ Some (number x) → ⊥
    no k = cc

cell_reads : (at : CellTable) (c : Cell) (w : Meaning) → HasFunction at c (λ f. Unit {0}) → at c ≡ Some w
    → IsCurveIn (λ f. HasValues (values at c) (value_at f)) w
cell_reads at c w h e =
    curve_map (λ f. value_at f ≡ values at c) (λ f. HasValues (values at c) (value_at f)) w
    (λ f k t p. ap (λ (g : ℚ → Ext). g t) k) (same_curve at c w h e)

pub sum_reads : (at : CellTable) (cs : List Cell) (v : Meaning) → AllCurves at cs → Means at (sum_of_cells cs) v
    → IsCurveIn (λ f. HasValues (sum_over (values at) cs) (value_at f)) v
sum_reads at [] v all m = subst (IsCurveIn (λ f. HasValues (λ t. Fin zero_q) (value_at f))) (sym m) zero_values
sum_reads at (c ∷ cs) v all m = from_first at (value_of c) cs (values at c) v (λ w k. cell_reads at c w all.0 k) m
