use Rattle.upp_curve.proofs.WorkedShifts.{shift_rows, scale_rows, minus_rows, difference_rows, left_over_rows}
use Rattle.upp_curve.proofs.worked_laws.worked_shifts.Goals as goal

pub returns-clause-shift : goal.returns-clause-shift
returns-clause-shift c = shift_rows

pub returns-clause-scale : goal.returns-clause-scale
returns-clause-scale c = scale_rows

pub returns-clause-minus : goal.returns-clause-minus
returns-clause-minus c = minus_rows

pub returns-clause-difference : goal.returns-clause-difference
returns-clause-difference c = difference_rows

pub returns-clause-left_over : goal.returns-clause-left_over
returns-clause-left_over c = left_over_rows
