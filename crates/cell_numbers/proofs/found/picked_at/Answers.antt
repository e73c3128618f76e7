use Rattle.std.proofs.Common.{sym, ap, ◌∙◌}
use Rattle.net_cells.specs.Visits.{visit}
use Rattle.cell_numbers.specs.Chosen.{flow_visits, visit_list, picks}
use Rattle.cell_numbers.proofs.Choosing.{keep_one, drop_one, keep_none}
use Rattle.cell_numbers.proofs.found.picked_at.Goals as goal

pub returns-then-picks : goal.returns-then-picks
returns-then-picks c =
    keep_one (picks c.args.net.now c.args.pick) (flow_visits c.args.net.now c.args.server c.args.flow) (visit c.args.flow c.in-Some.hop)
    (c.hop_at.ensures ∙ ap (visit_list c.args.flow) c.in-Some.is) (sym c.picks.ensures ∙ c.if-picks.true)

pub returns-else-picks : goal.returns-else-picks
returns-else-picks c =
    drop_one (picks c.args.net.now c.args.pick) (flow_visits c.args.net.now c.args.server c.args.flow) (visit c.args.flow c.in-Some.hop)
    (c.hop_at.ensures ∙ ap (visit_list c.args.flow) c.in-Some.is) (sym c.picks.ensures ∙ c.if-picks.false)

pub returns-in-None : goal.returns-in-None
returns-in-None c =
    keep_none (picks c.args.net.now c.args.pick) (flow_visits c.args.net.now c.args.server c.args.flow)
    (c.hop_at.ensures ∙ ap (visit_list c.args.flow) c.in-None.is)
