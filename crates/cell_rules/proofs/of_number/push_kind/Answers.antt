use Rattle.std.proofs.Common.{◌≡◌, ◌++◌, ℕ, map, sym, ap, ◌∙◌, arith}
use Rattle.std.specs.List.{filter, range_with_len}
use Rattle.net_cells.specs.Cells.{cell_of, has_cell}
use Rattle.net_cells.proofs.Growing.{behind, still, kept_number, dropped_number}
use Rattle.cell_rules.proofs.of_number.push_kind.Goals as goal
use Rattle.cell_rules.proofs.of_number.push_kind.Goals.{then-has_cell+in_ok-push, else-has_cell}

pub loop-b-preserved : goal.loop-b-preserved
loop-b-preserved c =
    let p = has_cell c.args.net.now in
    let f = cell_of c.args.kind c.args.number in
    let n = c.loop-b.b in
    let old = c.args.cells.now.items in
    let items = c.loop-b.cells.items in
    elim c.if-has_cell.branch [
      | then-has_cell+in_ok-push w ↦ rw w.cells-is
          (behind old items w.push.new.self.items _ (filter p (map f (range_with_len 0 n))) _ c.loop-b.invariant
          w.in_ok-push.ensures.items
          (kept_number p f n (sym c.has_cell.ensures ∙ w.if-has_cell.true)))
      | else-has_cell w ↦ rw w.cells-is
          (still old items (filter p (map f (range_with_len 0 n))) _ c.loop-b.invariant
          (dropped_number p f n (sym c.has_cell.ensures ∙ w.if-has_cell.false)))
    ]

pub returns : goal.returns
returns c =
    let p = has_cell c.args.net.now in
    let f = cell_of c.args.kind c.args.number in
    let end : c.loop-b.b ≡ 16 = omega (arith, c.loop-b-test.false, c.loop-b.auto.b-end) in
    c.loop-b.invariant ∙ ap (λ (n : ℕ). c.args.cells.now.items ++ filter p (map f (range_with_len 0 n))) end
