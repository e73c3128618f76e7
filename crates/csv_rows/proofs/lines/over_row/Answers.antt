use Rattle.std.proofs.Common.{◌≡◌, ◌≢◌, ◌∙◌, false, sym, refl, arith, subst, rules, get_or, length, drop, length-drop, ◌-◌, ℕ}
use Rattle.std.proofs.lemmas.Bool.{false≢true}
use Rattle.std.proofs.lemmas.List.{take_all}
use Rattle.std.specs.Prelude.{◌==◌}
use Rattle.csv_rows.specs.Places.{Goes, state_of}
use Rattle.csv_rows.specs.Rows.{is_row_end}
use Rattle.csv_rows.specs.declared.lines.Place.TheVariants as places
use Rattle.csv_rows.proofs.RowEnds.{reads_first, reads_on, leaves_row, leaves_all, begins, one_more, none_more}
use Rattle.csv_rows.proofs.lines.over_row.Goals as goal
use Rattle.csv_rows.proofs.lines.over_row.Goals.{then-text-at-eq10, else-text-at-eq10}

is_false : (byte : ℕ) → byte ≢ 10 → (byte == 10) ≡ false
is_false byte h = search (rules, h)

pub loop-at-init : goal.loop-at-init
loop-at-init c = record { reads = reads_first c.args.text.now; first = λ e. refl; counted = omega arith; few = omega arith }

pub place_after-place-requires : goal.place_after-place-requires
place_after-place-requires c =
    λ between.
    let first = c.loop-at.invariant.first between in
    let text = c.args.text.now in
    subst (λ at. is_row_end (get_or text at 0) ≡ false) (sym first) (begins text (omega (arith, c.loop-at-test.true, first)) c.requires)

pub returns-then-eq-clause-left : goal.returns-then-eq-clause-left
returns-then-eq-clause-left c =
    let same : c.place_after-place.result ≡ places.Between = search (rules, c.eq.ensures, c.if-eq.true) in
    let left = leaves_row c.args.text.now (state_of c.loop-at.place) c.loop-at.at c.loop-at-test.true
    (subst (Goes (state_of c.loop-at.place) (get_or c.args.text.now c.loop-at.at 0)) same c.place_after-place.ensures)
    c.loop-at.invariant.reads in
    rw (take_all (length c.args.text.now - c.loop-at.at) (drop c.loop-at.at c.args.text.now) (omega (arith, length-drop c.loop-at.at c.args.text.now))) left

pub loop-at-preserved : goal.loop-at-preserved
loop-at-preserved c =
    let inv = c.loop-at.invariant in
    let text = c.args.text.now in
    let at = c.loop-at.at in
    let within = c.loop-at-test.true in
    let other : c.place_after-place.result ≢ places.Between =
    λ e. absurd (false≢true (sym c.if-eq.false ∙ (c.eq.ensures ∙ rw e refl))) in
    let reads = reads_on text (state_of c.loop-at.place) at c.place_after-place.result within other c.place_after-place.ensures inv.reads in
    elim c.if-text-at-eq10.branch [
      | then-text-at-eq10 w ↦
          let more = one_more text at within (rw w.if-text-at-eq10.true refl) in
          record {
            reads = reads;
            first = λ e. absurd (other e);
            counted = rw w.lines-is (omega (arith, more, inv.counted));
            few = rw w.lines-is (omega (arith, inv.few));
          }
      | else-text-at-eq10 w ↦
          let more = none_more text at within (is_false (get_or text at 0) w.if-text-at-eq10.false) in
          record {
            reads = reads;
            first = λ e. absurd (other e);
            counted = rw w.lines-is (omega (arith, more, inv.counted));
            few = rw w.lines-is (omega (arith, inv.few));
          }
    ]

pub returns-clause-left : goal.returns-clause-left
returns-clause-left c =
    leaves_all c.args.text.now c.loop-at.place c.loop-at.at (omega (arith, c.loop-at-test.false)) c.loop-at.invariant.reads
