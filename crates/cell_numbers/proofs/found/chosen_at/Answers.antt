use Rattle.std.proofs.Common.{sym, ap, ◌∙◌}
use Rattle.net_cells.specs.Visits.{visit}
use Rattle.cell_numbers.specs.Chosen.{visit_list, is_other, picked}
use Rattle.cell_numbers.proofs.Choosing.{keep_one, drop_one, keep_none}
use Rattle.cell_numbers.proofs.found.chosen_at.Goals as goal

pub returns-then-is_other : goal.returns-then-is_other
returns-then-is_other c =
    keep_one (is_other c.args.except) (picked c.args.net.now c.args.server c.args.pick c.args.flow) (visit c.args.flow c.in-Some.hop)
    (c.picked_at.ensures ∙ ap (visit_list c.args.flow) c.in-Some.is) (sym (c.is_other.ensures c.in-Some.hop) ∙ c.if-is_other.true)

pub returns-else-is_other : goal.returns-else-is_other
returns-else-is_other c =
    drop_one (is_other c.args.except) (picked c.args.net.now c.args.server c.args.pick c.args.flow) (visit c.args.flow c.in-Some.hop)
    (c.picked_at.ensures ∙ ap (visit_list c.args.flow) c.in-Some.is) (sym (c.is_other.ensures c.in-Some.hop) ∙ c.if-is_other.false)

pub returns-in-None : goal.returns-in-None
returns-in-None c =
    keep_none (is_other c.args.except) (picked c.args.net.now c.args.server c.args.pick c.args.flow)
    (c.picked_at.ensures ∙ ap (visit_list c.args.flow) c.in-None.is)
