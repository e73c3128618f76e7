use Rattle.std.proofs.Common.{◌∙◌, sym, refl, ap, arith, rules, length, drop, length-drop, ◌-◌}
use Rattle.std.proofs.lemmas.List.{drop_all, take_all}
use Rattle.csv_rows.specs.Rows.{from_row}
use Rattle.csv_rows.proofs.RowEnds.{past_end, row_here, one_more, none_more}
use Rattle.csv_rows.proofs.lines.to_row.Goals as goal
use Rattle.csv_rows.proofs.lines.to_row.Goals.{in-10, in-13}

pub returns-in_default-clause-row : goal.returns-in_default-clause-row
returns-in_default-clause-row c =
    let left = row_here c.args.text.now c.loop-at.at c.loop-at-test.true (search rules) in
    rw (take_all (length c.args.text.now - c.loop-at.at) (drop c.loop-at.at c.args.text.now) (omega (arith, length-drop c.loop-at.at c.args.text.now)))
    (sym (c.loop-at.invariant.row ∙ left))

pub loop-at-preserved : goal.loop-at-preserved
loop-at-preserved c =
    let inv = c.loop-at.invariant in
    let more = one_more c.args.text.now c.loop-at.at c.loop-at-test.true in
    let same = none_more c.args.text.now c.loop-at.at c.loop-at-test.true in
    let over = past_end c.args.text.now c.loop-at.at c.loop-at-test.true in
    elim c.match-text-at.branch [
      | in-10 w ↦
          let ends = more (rw w.in-10.is refl) in
          record {
            row = inv.row ∙ over (rw w.in-10.is refl);
            counted = rw w.lines-is (omega (arith, ends, inv.counted));
            few = rw w.lines-is (omega (arith, inv.few));
          }
      | in-13 w ↦
          let ends = same (rw w.in-13.is refl) in
          record {
            row = inv.row ∙ over (rw w.in-13.is refl);
            counted = rw w.lines-is (omega (arith, ends, inv.counted));
            few = rw w.lines-is (omega (arith, inv.few));
          }
    ]

pub returns-clause-row : goal.returns-clause-row
unfolding from_row
returns-clause-row c =
    let none = drop_all c.loop-at.at c.args.text.now (omega (arith, c.loop-at-test.false)) in
    sym (c.loop-at.invariant.row ∙ ap from_row none)
