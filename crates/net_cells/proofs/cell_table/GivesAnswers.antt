-- What making a cell's value answers is what its formula answers, want of memory apart.
use Rattle.std.proofs.Common.{◌≡◌, ◌≢◌, sym, ap, ◌∙◌}
use Rattle.std.specs.Prelude.{Some, Ok, Err}
use Rattle.upp_limits.specs.declared.op_kind.OpFault.{OpFault}
use Rattle.upp_limits.specs.declared.op_kind.OpFault.TheVariants.{NoMemory}
use Rattle.residuals.specs.CurveCalls.{IsAgain}
use Rattle.outcomes.specs.Calls.{goes_on, stops}
use Rattle.net_cells.specs.declared.cell.Cell.{Cell}
use Rattle.net_cells.specs.Meanings.{Meaning, curve, number, CellTable}
use Rattle.net_cells.specs.Formulas.{Formula, value_of, given, empty_sum, made, made_of, moved, cut, part, no_part, leftover, priority, deficit, horizontal, vertical, smaller, along, delayed}
use Rattle.net_cells.specs.Answers.{Answers, OnCurve, MakesCurve}
use Rattle.net_cells.specs.cell_table.Gives.{Gives}

-- ---- the value of another cell
ok_curve : (at : CellTable) (c : Cell) (w v : Meaning) → at c ≡ Some w → OnCurve (λ f. MakesCurve (IsAgain f)) w (Ok v) → at c ≡ Some v
ok_curve at c (curve f) (curve d) is same = is ∙ ap (λ k. Some (curve k)) (sym same)
ok_curve at c (curve f) (number x) is same = absurd same
ok_curve at c (number x) v is same = absurd same

err_curve : (w : Meaning) (fault : OpFault) → fault ≢ NoMemory → OnCurve (λ f. MakesCurve (IsAgain f)) w (Err fault) → ⊥
err_curve (curve f) fault other same = other same
err_curve (number x) fault other same = same

ok_cell : (at : CellTable) (c : Cell) (v : Meaning) → Gives at (value_of c) (Ok v) → at c ≡ Some v
ok_cell at c v (goes_on w is same) = ok_curve at c w v is same
ok_cell at c v (stops fault is same) = absurd is

err_cell : (at : CellTable) (c : Cell) (fault : OpFault) → fault ≢ NoMemory → Gives at (value_of c) (Err fault) → ⊥
err_cell at c fault other (goes_on w is same) = err_curve w fault other same
err_cell at c fault other (stops e is same) = is

-- ---- formulas
pub gives_ok : (at : CellTable) (F : Formula) (v : Meaning) → Gives at F (Ok v) → Answers at F (Ok v)
gives_ok at (value_of c) v g = ok_cell at c v g
gives_ok at (given f) v g = g
gives_ok at empty_sum v g = g
gives_ok at (made op F G) v g = g
gives_ok at (made_of op F) v g = g
gives_ok at (moved F T) v g = g
gives_ok at (cut F server bits rate) v g = g
gives_ok at (part F G) v g = g
gives_ok at no_part v g = g
gives_ok at (leftover F G T) v g = g
gives_ok at (priority f F lower) v g = g
gives_ok at (deficit f quanta longest queue) v g = g
gives_ok at (horizontal F G) v g = g
gives_ok at (vertical F G) v g = g
gives_ok at (smaller F G) v g = g
gives_ok at (along cells links) v g = g
gives_ok at (delayed F links) v g = g

pub gives_over : (at : CellTable) (F : Formula) (fault : OpFault) → fault ≢ NoMemory → Gives at F (Err fault) → Answers at F (Err fault)
gives_over at (value_of c) fault other g = absurd (err_cell at c fault other g)
gives_over at (given f) fault other g = g
gives_over at empty_sum fault other g = g
gives_over at (made op F G) fault other g = g
gives_over at (made_of op F) fault other g = g
gives_over at (moved F T) fault other g = g
gives_over at (cut F server bits rate) fault other g = g
gives_over at (part F G) fault other g = g
gives_over at no_part fault other g = g
gives_over at (leftover F G T) fault other g = g
gives_over at (priority f F lower) fault other g = g
gives_over at (deficit f quanta longest queue) fault other g = g
gives_over at (horizontal F G) fault other g = g
gives_over at (vertical F G) fault other g = g
gives_over at (smaller F G) fault other g = g
gives_over at (along cells links) fault other g = g
gives_over at (delayed F links) fault other g = g
