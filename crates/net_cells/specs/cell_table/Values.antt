-- What values of cells stand for: one, and what makes one answers. Own choice.
use Rattle.std.specs.Prelude.{Result, Ok, Err}
use Rattle.upp_limits.specs.declared.op_kind.OpFault.{OpFault}
use Rattle.net_cells.specs.declared.cell.Cell.{Cell}
use Rattle.net_cells.specs.Meanings.{Meaning, curve, number}
use Rattle.net_cells.specs.Answers.{Answer}
use Rattle.net_cells.specs.declared.cell_table.value.Value.{Value}
use Rattle.net_cells.specs.declared.cell_table.value.Value.TheVariants.{Curve, Number}

abbrev pub meaning_of : Value → Meaning
meaning_of (Curve shared) = curve shared.value
meaning_of (Number x) = number x

abbrev pub answer_of : {V : Type 0} → (V → Meaning) → Result V OpFault → Answer
answer_of meaning (Ok v) = Ok (meaning v)
answer_of meaning (Err fault) = Err fault
