use Rattle.std.proofs.Common.{arith, sym, ◌∙◌}
use Rattle.net_cells.specs.Visits.{visit}
use Rattle.net_cells.specs.QueueParts.{is_there}
use Rattle.net_cells.proofs.Counting.{one_more, no_more}
use Rattle.net_cells.proofs.parts.count_flow.Goals as goal
use Rattle.net_cells.proofs.parts.count_flow.Goals.{then-is_there, else-is_there}

pub loop-hop-preserved : goal.loop-hop-preserved
loop-hop-preserved c =
    let p = is_there c.args.net.now c.args.place.0 c.args.place.1 c.args.part in
    let n = c.loop-hop.hop in
    let old = c.loop-hop.invariant in
    elim c.if-is_there.branch [
      | then-is_there w ↦ rw w.count-is (record {
        is = one_more p (visit c.args.flow) n c.loop-hop.count old.is (sym c.is_there.ensures ∙ w.if-is_there.true);
        few = omega (arith, old.few);
      })
      | else-is_there w ↦ rw w.count-is (record {
        is = no_more p (visit c.args.flow) n c.loop-hop.count old.is (sym c.is_there.ensures ∙ w.if-is_there.false);
        few = omega (arith, old.few);
      })
    ]
