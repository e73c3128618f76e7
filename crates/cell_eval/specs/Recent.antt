-- A service of a priority queue that is shared, made now or before of the same. Own choice.
use Rattle.std.specs.Prelude.{ℕ, ◌-◌, Result, Ok, IfErr}
use Rattle.upp_limits.specs.declared.op_kind.OpFault.{OpFault}
use Rattle.upp_curve.specs.Curve.{SpecCurve}
use Rattle.outcomes.specs.Spending.{Counts}
use Rattle.residuals.specs.calls.PriorityCalls.{MakesPriority}
use Rattle.residuals.specs.calls.InTurn.{PriorityRefused}
use Rattle.net_cells.specs.Answers.{MakesCurve}
use Rattle.net_cells.specs.declared.cell_table.value.Value.{Value}
use Rattle.net_cells.specs.cell_table.Values.{answer_of, meaning_of}

-- c is what the three calls make of the server's curve, the higher queues' curve and the lower queues' longest packet
abbrev pub IsMadeOf : (β higher : SpecCurve) (lower : ℕ) (c : SpecCurve) → Type 0
IsMadeOf β higher lower c = MakesPriority β higher lower (Ok c)

-- r is what these calls answer, shared, with so many operators counted before and after
pub record ServesAbove (β higher : SpecCurve) (lower old new : ℕ) (r : Result Value OpFault) : Type 0 where
  pub answer : MakesCurve (MakesPriority β higher lower) (answer_of meaning_of r)
  pub refused : IfErr r (λ fault. PriorityRefused β higher lower fault (new - old))
  pub counts : Counts 3 old new (answer_of meaning_of r)
