use Rattle.std.proofs.Common.{◌∙◌, ◌-◌, sym, arith, length, drop, length-drop}
use Rattle.std.proofs.lemmas.List.{take_all}
use Rattle.csv_rows.proofs.RowEnds.{short, marked, not_marked}
use Rattle.csv_rows.proofs.lines.without_mark.Goals as goal

pub returns-then-text-lt3 : goal.returns-then-text-lt3
returns-then-text-lt3 c = short c.args.text.now c.if-text-lt3.true

pub returns-then-is_mark : goal.returns-then-is_mark
returns-then-is_mark c =
    let text = c.args.text.now in
    rw (take_all (length text - 3) (drop 3 text) (omega (arith, length-drop 3 text)))
    (marked text c.if-text-lt3.false (sym c.is_mark.ensures ∙ c.if-is_mark.true))

pub returns : goal.returns
returns c = not_marked c.args.text.now c.if-text-lt3.false (sym c.is_mark.ensures ∙ c.if-is_mark.false)
