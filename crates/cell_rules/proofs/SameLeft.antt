-- Whether the services of two queues are made of the same: of one curve, and of one of what is left.
use Rattle.std.proofs.Common.{◌≡◌, ◌≢◌, Bool, true, false, refl, sym, ap, ap₂, ◌∙◌}
use Rattle.upp_curve.specs.Curve.{SpecCurve}
use Rattle.residuals.specs.left.Left.{Left, all, above, share}
use Rattle.net_cells.specs.declared.cell.Cell.{Cell}
use Rattle.net_cells.specs.declared.cell.Kind.TheVariants.{Higher}
use Rattle.net_cells.specs.Numbered.{zero_curve}
use Rattle.net_cells.specs.Cells.{cell_of}
use Rattle.net_cells.specs.Formulas.{Formula, value_of, given, priority, deficit}
use Rattle.net_cells.specs.CellFormulas.{left_formula}
use Rattle.cell_rules.specs.Rules.{TellsSame}

-- ---- back from a service's formula
curve_in : Formula → SpecCurve
curve_in (given f) = f
curve_in (priority f F lower) = f
curve_in (deficit f quanta longest queue) = f
curve_in _ = zero_curve

cell_in : Formula → Cell
cell_in (value_of c) = c
cell_in _ = cell_of Higher 0 0

left_in : Formula → Left Cell
left_in (priority f F lower) = above (cell_in F) lower
left_in (deficit f quanta longest queue) = share quanta longest queue
left_in _ = all

curve_back : (f : SpecCurve) (l : Left Cell) → curve_in (left_formula f l) ≡ f
unfolding curve_in
curve_back f all = refl
curve_back f (above before lower) = refl
curve_back f (share quanta longest queue) = refl

left_back : (f : SpecCurve) (l : Left Cell) → left_in (left_formula f l) ≡ l
unfolding left_in cell_in
left_back f all = refl
left_back f (above before lower) = refl
left_back f (share quanta longest queue) = refl

-- ---- what tests tell
pub left_tells : (f g : SpecCurve) (l m : Left Cell) (b : Bool) → f ≡ g → TellsSame l m b
    → TellsSame (left_formula f l) (left_formula g m) b
left_tells f g l m true same alike = ap₂ left_formula same alike
left_tells f g l m false same differ = λ e. differ (sym (left_back f l) ∙ (ap left_in e ∙ left_back g m))

pub curves_tell : (f g : SpecCurve) (l m : Left Cell) → f ≢ g → left_formula f l ≢ left_formula g m
curves_tell f g l m differ e = differ (sym (curve_back f l) ∙ (ap curve_in e ∙ curve_back g m))
