-- What making the value of a cell may answer. Own choice.
use Rattle.std.specs.Prelude.{◌≡◌, Some}
use Rattle.residuals.specs.CurveCalls.{IsAgain}
use Rattle.net_cells.specs.Meanings.{CellTable}
use Rattle.net_cells.specs.Formulas.{Formula, value_of, given, empty_sum, made, made_of, moved, cut, part, no_part, leftover, priority, deficit, horizontal, vertical, smaller, along, delayed}
use Rattle.net_cells.specs.Answers.{Answer, Answers, IsOnly, MakesCurve, ThenCurve}

-- what the formula answers; where the cell has the curve of another one, that is shared once more, for which there may
-- be no memory
abbrev pub Gives : CellTable → Formula → Answer → Type 0
Gives at (value_of c) r = ThenCurve (IsOnly (λ v. at c ≡ Some v)) (λ f. MakesCurve (IsAgain f)) r
Gives at (given f) r = Answers at (given f) r
Gives at empty_sum r = Answers at empty_sum r
Gives at (made op F G) r = Answers at (made op F G) r
Gives at (made_of op F) r = Answers at (made_of op F) r
Gives at (moved F T) r = Answers at (moved F T) r
Gives at (cut F server bits rate) r = Answers at (cut F server bits rate) r
Gives at (part F G) r = Answers at (part F G) r
Gives at no_part r = Answers at no_part r
Gives at (leftover F G T) r = Answers at (leftover F G T) r
Gives at (priority f F lower) r = Answers at (priority f F lower) r
Gives at (deficit f quanta longest queue) r = Answers at (deficit f quanta longest queue) r
Gives at (horizontal F G) r = Answers at (horizontal F G) r
Gives at (vertical F G) r = Answers at (vertical F G) r
Gives at (smaller F G) r = Answers at (smaller F G) r
Gives at (along cells links) r = Answers at (along cells links) r
Gives at (delayed F links) r = Answers at (delayed F links) r
