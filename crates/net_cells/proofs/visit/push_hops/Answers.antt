use Rattle.std.proofs.Common.{eqb, get_or, map}
use Rattle.std.proofs.lemmas.Bool.{eq-eqb, ne_eqb}
use Rattle.std.specs.List.{filter, range_with_len}
use Rattle.net_cells.specs.Visits.{Visit, visit}
use Rattle.net_cells.proofs.Growing.{behind, still, kept_number, dropped_number}
use Rattle.net_cells.proofs.visit.push_hops.Goals as goal
use Rattle.net_cells.proofs.visit.push_hops.Goals.{then-path-hop+in_ok-push, else-path-hop}

pub loop-hop-preserved : goal.loop-hop-preserved
loop-hop-preserved c =
    let p = λ (v : Visit). eqb (get_or c.args.path.now v.hop 0) c.args.server in
    let f = visit c.args.flow in
    let n = c.loop-hop.hop in
    let items = c.loop-hop.found.items in
    let old = c.args.found.now.items in
    elim c.if-path-hop.branch [
      | then-path-hop+in_ok-push w ↦ rw w.found-is
          (behind old items w.push.new.self.items _ (filter p (map f (range_with_len 0 n))) _ c.loop-hop.invariant
          w.in_ok-push.ensures.items
          (kept_number p f n (eq-eqb _ _ w.if-path-hop.true)))
      | else-path-hop w ↦ rw w.found-is
          (still old items (filter p (map f (range_with_len 0 n))) _ c.loop-hop.invariant
          (dropped_number p f n (ne_eqb _ _ w.if-path-hop.false)))
    ]
