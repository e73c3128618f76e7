use Rattle.std.proofs.Common.{length, refl, sym, ◌∙◌}
use Rattle.csv_rows.proofs.Cells.{no_bytes, tight}
use Rattle.csv_rows.proofs.rows.is_loose.Goals as goal

pub returns-then-is_empty : goal.returns-then-is_empty
returns-then-is_empty c = λ _. no_bytes c.args.cell.now (sym c.is_empty.ensures ∙ c.if-is_empty.true)

pub returns : goal.returns
returns c = λ back.
    tight c.args.cell.now (length c.args.cell.now) (sym c.is_empty.ensures ∙ c.if-is_empty.false) refl
    (sym c.is_white.ensures ∙ c.if-is_white.false) (sym c.is_white-2.ensures ∙ back)
