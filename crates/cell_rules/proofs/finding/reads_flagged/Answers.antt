use Rattle.std.proofs.Common.{◌≡◌, ◌∙◌, sym, refl, List, [], ◌∷◌, length, arith}
use Rattle.std.proofs.lemmas.Bool.{eqb-true}
use Rattle.net_cells.specs.declared.cell.Cell.{Cell}
use Rattle.net_cells.specs.Formulas.{leaves}
use Rattle.net_cells.specs.CellFormulas.{formula}
use Rattle.cell_rules.specs.cell_changes.Slots.{slot}
use Rattle.cell_rules.specs.Finding.{flag_of}
use Rattle.cell_rules.proofs.Found.{none_any}
use Rattle.cell_rules.proofs.finding.reads_flagged.Goals as goal

empty : (cells : List Cell) → length cells ≡ 0 → cells ≡ []
empty [] e = refl
empty (x ∷ xs) e = absurd (omega (arith, e))

pub returns-then-is_empty : goal.returns-then-is_empty
returns-then-is_empty c =
    let cells = c.args.touched.now in
    let none : cells ≡ [] =
    empty cells (eqb-true (length cells) 0 (sym c.is_empty.ensures ∙ c.if-is_empty.true)) in
    sym (none_any (flag_of c.args.flags.now) (leaves (formula c.args.net.now c.args.cell)) (λ d. c.requires.none none (slot d)))
