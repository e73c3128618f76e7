use Rattle.std.proofs.Common.{ap, ◌∙◌, arith}
use Rattle.net_cells.specs.Visits.{longest_of}
use Rattle.cell_numbers.specs.Chosen.{visit_list}
use Rattle.cell_numbers.proofs.found.longer.Goals as goal

pub returns-in-Some : goal.returns-in-Some
returns-in-Some c =
    let is = ap (longest_of c.args.net.now) (c.picked_at.ensures ∙ ap (visit_list c.args.flow) c.in-Some.is) in
    let bits = c.packet.ensures in
    omega (arith, is, bits)

pub returns-in-None : goal.returns-in-None
returns-in-None c =
    let is = ap (longest_of c.args.net.now) (c.picked_at.ensures ∙ ap (visit_list c.args.flow) c.in-None.is) in
    omega (arith, is)
