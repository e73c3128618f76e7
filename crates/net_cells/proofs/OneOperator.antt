-- Formulas of one operator on the values of cells: where memory may be wanting, and that deviations and sums of numbers
-- take none.
use Rattle.std.proofs.Common.{◌≡◌, List, refl, sym, subst}
use Rattle.std.specs.Prelude.{Err}
use Rattle.rational.specs.Rational.{ℚ}
use Rattle.upp_limits.specs.declared.op_kind.OpKind.{OpKind}
use Rattle.upp_limits.specs.declared.op_kind.OpFault.{OpFault}
use Rattle.upp_limits.specs.declared.op_kind.OpFault.TheVariants.{NoMemory}
use Rattle.outcomes.specs.Calls.{goes_on, stops}
use Rattle.residuals.specs.calls.InTurn.{past}
use Rattle.net_cells.specs.declared.cell.Cell.{Cell}
use Rattle.net_cells.specs.Meanings.{curve, number, CellTable}
use Rattle.net_cells.specs.Formulas.{value_of, made, moved, leftover, horizontal, delayed}
use Rattle.net_cells.specs.Answers.{Answer, Answers}
use Rattle.net_cells.specs.Refusals.{RefusedAt}

-- ---- one operator on the values of cells
pub made_stops : (at : CellTable) (op : OpKind) (c d : Cell) → Answers at (made op (value_of c) (value_of d)) (Err NoMemory)
    → RefusedAt at (made op (value_of c) (value_of d)) NoMemory 1
made_stops at op c d (goes_on (curve f) p (goes_on (curve g) q w)) = past (curve f) 1 p refl (past (curve g) 1 q refl (refl, w))
made_stops at op c d (goes_on (curve f) p (goes_on (number x) q w)) = absurd w
made_stops at op c d (goes_on (curve f) p (stops fault q w)) = absurd q
made_stops at op c d (goes_on (number x) p w) = absurd w
made_stops at op c d (stops fault p w) = absurd p

pub moved_stops : (at : CellTable) (c d : Cell) → Answers at (moved (value_of c) (value_of d)) (Err NoMemory)
    → RefusedAt at (moved (value_of c) (value_of d)) NoMemory 1
moved_stops at c d (goes_on (curve f) p (goes_on (number x) q w)) = past (curve f) 1 p refl (past (number x) 1 q refl (refl, w))
moved_stops at c d (goes_on (curve f) p (goes_on (curve g) q w)) = absurd w
moved_stops at c d (goes_on (curve f) p (stops fault q w)) = absurd q
moved_stops at c d (goes_on (number x) p w) = absurd w
moved_stops at c d (stops fault p w) = absurd p

pub leftover_stops : (at : CellTable) (c d e : Cell) → Answers at (leftover (value_of c) (value_of d) (value_of e)) (Err NoMemory)
    → RefusedAt at (leftover (value_of c) (value_of d) (value_of e)) NoMemory 1
leftover_stops at c d e (goes_on (curve f) p (goes_on (curve g) q (goes_on (number x) r w))) =
    past (curve f) 1 p refl (past (curve g) 1 q refl (past (number x) 1 r refl (refl, w)))
leftover_stops at c d e (goes_on (curve f) p (goes_on (curve g) q (goes_on (curve h) r w))) = absurd w
leftover_stops at c d e (goes_on (curve f) p (goes_on (curve g) q (stops fault r w))) = absurd r
leftover_stops at c d e (goes_on (curve f) p (goes_on (number x) q w)) = absurd w
leftover_stops at c d e (goes_on (curve f) p (stops fault q w)) = absurd q
leftover_stops at c d e (goes_on (number x) p w) = absurd w
leftover_stops at c d e (stops fault p w) = absurd p

-- ---- deviations and sums of numbers take no memory
pub horizontal_never : (at : CellTable) (c d : Cell) → ¬ (Answers at (horizontal (value_of c) (value_of d)) (Err NoMemory))
horizontal_never at c d (goes_on (curve f) p (goes_on (curve g) q w)) = w.1 refl
horizontal_never at c d (goes_on (curve f) p (goes_on (number x) q w)) = w
horizontal_never at c d (goes_on (curve f) p (stops fault q w)) = q
horizontal_never at c d (goes_on (number x) p w) = w
horizontal_never at c d (stops fault p w) = p

-- want of memory, as an answer
abbrev pub lack : Answer
lack = Err NoMemory

-- whatever a call would be refused for
pub horizontal_refused : (at : CellTable) (c d : Cell) (fault : OpFault) (P : Type 0)
    → Answers at (horizontal (value_of c) (value_of d)) (Err fault) → Err fault ≡ lack → P
horizontal_refused at c d fault P a is =
    let same : Err fault ≡ Err NoMemory = is in
    let one : fault ≡ NoMemory = cc in
    absurd (horizontal_never at c d (subst (λ e. Answers at (horizontal (value_of c) (value_of d)) (Err e)) one a))

pub delayed_never : (at : CellTable) (c d : Cell) (links : List ℚ)
    → ¬ (Answers at (delayed (horizontal (value_of c) (value_of d)) links) (Err NoMemory))
delayed_never at c d links (goes_on (curve f) p w) = w
delayed_never at c d links (goes_on (number x) p w) = w
delayed_never at c d links (stops fault p w) = horizontal_refused at c d fault ⊥ p (sym w)
