use Rattle.std.proofs.Common.{◌≡◌, ◌∙◌, ap, sym, true, false}
use Rattle.csv.specs.Records.{fields_of}
use Rattle.csv_rows.specs.Coming.{all_of}
use Rattle.csv_rows.specs.Rows.{is_blank, used}
use Rattle.csv_rows.proofs.Coming.{used_none, used_some}
use Rattle.csv_rows.proofs.reading.TableRows.next_row.Goals as goal

pub returns-then-not-is_blank : goal.returns-then-not-is_blank
returns-then-not-is_blank c =
    let r = rw c.if-branch.true at c.in_ok-read_row.ensures in
    let row = c.read_row.new.row in
    let some : is_blank (fields_of c.tighten.new.row) ≡ false = sym c.is_blank.ensures ∙ c.if-not-is_blank.true in (
      r.0,
      c.loop-row.invariant.rows
          ∙ used_some (all_of c.loop-row.self) (all_of c.read_row.new.self) row.line (fields_of row.cells) (fields_of c.tighten.new.row) r.1 c.in_ok-tighten.ensures some,
    )

pub loop-row-preserved : goal.loop-row-preserved
loop-row-preserved c =
    let r = rw c.if-branch.true at c.in_ok-read_row.ensures in
    let row = c.read_row.new.row in
    let none : is_blank (fields_of c.tighten.new.row) ≡ true = sym c.is_blank.ensures ∙ c.if-not-is_blank.false in
    record {
      stands = r.0;
      rows = c.loop-row.invariant.rows
          ∙ used_none (all_of c.loop-row.self) (all_of c.read_row.new.self) row.line (fields_of row.cells) (fields_of c.tighten.new.row) r.1 c.in_ok-tighten.ensures none;
    }

pub returns : goal.returns
unfolding used
returns c =
    let r = rw c.if-branch.false at c.in_ok-read_row.ensures in
    c.loop-row.invariant.rows ∙ ap used r
