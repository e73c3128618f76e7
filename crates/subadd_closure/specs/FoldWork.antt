-- How many calls on curves the fold of a closure counts: those on a star too that is not made, since it leaves the zero curve
-- as it is. Own choice.
use Rattle.std.specs.Prelude.{ℕ, ◌+◌, ◌-◌, Option, Some, None, List, length}
use Rattle.std.specs.List.{sum_by}
use Rattle.upp_curve.specs.Curve.{SpecCurve}
use Rattle.subadd_closure.specs.declared.part.Copies.{Copies}
use Rattle.subadd_closure.specs.declared.part.Part.{Part}
use Rattle.subadd_closure.specs.CurveParts.{parts_of}

-- the minimum with the point (0, 0), and of copies the convolution with their lattice
abbrev pub copies_work : Option Copies → ℕ
copies_work None = 1
copies_work (Some k) = 2

abbrev pub part_work : Part → ℕ
part_work p = copies_work p.copies

-- and for each part but the first the convolution with what the parts before it make
abbrev pub parts_work : List Part → ℕ
parts_work ps = sum_by part_work ps + (length ps - 1)

abbrev pub fold_work : SpecCurve → ℕ
fold_work f = parts_work (parts_of f)
