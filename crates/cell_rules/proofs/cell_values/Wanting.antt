-- Why there is no table, where that is why a cell has no value, and where memory is wanting.
use Rattle.std.proofs.Common.{◌≡◌, sym, refl, ◌∙◌}
use Rattle.upp_limits.specs.declared.op_kind.OpFault.{OpFault}
use Rattle.upp_limits.specs.declared.op_kind.OpFault.TheVariants as operator
use Rattle.net_cells.specs.declared.cell.Cell.{Cell}
use Rattle.net_cells.specs.declared.cell_table.fault.AnalysisFault.{AnalysisFault}
use Rattle.net_cells.specs.declared.cell_table.fault.AnalysisFault.TheVariants.{NoMemory}
use Rattle.net_cells.specs.cell_table.Refusals.{fault_at}

is_wanting : (c : Cell) (fault : OpFault) → fault_at c fault ≡ NoMemory → fault ≡ operator.NoMemory
is_wanting c operator.TooMany e = absurd (let bad : ⊥ = cc in bad)
is_wanting c operator.TooWide e = absurd (let bad : ⊥ = cc in bad)
is_wanting c operator.NoMemory e = refl

pub wants_memory : (P : Type 0) (c : Cell) (fault : OpFault) (why : AnalysisFault) → why ≡ fault_at c fault
    → (fault ≡ operator.NoMemory → P) → why ≡ NoMemory → P
wants_memory P c fault why e h w = h (is_wanting c fault (sym e ∙ w))
