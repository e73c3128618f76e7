use Rattle.std.proofs.Common.{sym, ap, ◌∙◌, max}
use Rattle.net_cells.specs.Visits.{longest_of}
use Rattle.cell_numbers.specs.Chosen.{picked, all_picked}
use Rattle.cell_numbers.proofs.Choosing.{longest_append, all_picked_more}
use Rattle.cell_numbers.proofs.found.longest_at.Goals as goal

pub loop-flow-preserved : goal.loop-flow-preserved
loop-flow-preserved c =
    let net = c.args.net.now in
    let n = c.loop-flow.flow in
    c.longer-most.ensures
    ∙ ap (λ m. max m (longest_of net (picked net c.args.server c.args.pick n))) c.loop-flow.invariant
    ∙ sym (longest_append net (all_picked net c.args.server c.args.pick n) (picked net c.args.server c.args.pick n))
    ∙ ap (longest_of net) (sym (all_picked_more net c.args.server c.args.pick n))
