use Rattle.std.proofs.Common.{◌+◌, ap, sym, ◌∙◌, arith}
use Rattle.net_cells.specs.Numbered.{is_live}
use Rattle.net_cells.proofs.Stored.{live_stored}
use Rattle.report_text.proofs.Counted.{count_more, count_still}
use Rattle.report_text.proofs.report.live_count.Goals as goal
use Rattle.report_text.proofs.report.live_count.Goals.{then-is_some, else-is_some}

pub loop-number-preserved : goal.loop-number-preserved
loop-number-preserved c =
    let net = c.args.net.now in
    let n = c.loop-number.number in
    let old = c.loop-number.invariant in
    let live = live_stored net c.flows-flows.result.now n c.index-flows-number.result c.flows-flows.ensures.flows
    c.loop-number-test.true c.index-flows-number.is in
    elim c.if-is_some.branch [
      | then-is_some w ↦ rw w.count-is (
        ap (λ k. k + 1) old.0 ∙ sym (count_more (is_live net) n (sym live ∙ sym c.is_some.ensures ∙ w.if-is_some.true)),
        omega (arith, old.1),
      )
      | else-is_some w ↦ rw w.count-is (
        old.0 ∙ sym (count_still (is_live net) n (sym live ∙ sym c.is_some.ensures ∙ w.if-is_some.false)),
        omega (arith, old.1),
      )
    ]
