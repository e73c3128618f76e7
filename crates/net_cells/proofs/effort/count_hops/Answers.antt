use Rattle.std.proofs.Common.{eqb, get_or, arith, sym, ◌∙◌}
use Rattle.std.specs.Prelude.{◌&&◌}
use Rattle.net_cells.specs.Visits.{Visit, visit}
use Rattle.net_cells.proofs.Counting.{one_more, no_more}
use Rattle.net_cells.proofs.effort.count_hops.Goals as goal
use Rattle.net_cells.proofs.effort.count_hops.Goals.{then-is_in, else-is_in}

pub loop-hop-preserved : goal.loop-hop-preserved
loop-hop-preserved c =
    let p = λ (v : Visit). eqb (get_or c.args.path.now v.hop 0) c.args.server && eqb
    (get_or c.args.lanes.now v.hop 0) c.args.queue in
    let n = c.loop-hop.hop in
    let old = c.loop-hop.invariant in
    elim c.if-is_in.branch [
      | then-is_in w ↦ rw w.count-is (record {
        is = λ i. one_more p (visit i) n c.loop-hop.count (old.is i) (sym c.is_in.ensures ∙ w.if-is_in.true);
        few = omega (arith, old.few);
      })
      | else-is_in w ↦ rw w.count-is (record {
        is = λ i. no_more p (visit i) n c.loop-hop.count (old.is i) (sym c.is_in.ensures ∙ w.if-is_in.false);
        few = omega (arith, old.few);
      })
    ]
