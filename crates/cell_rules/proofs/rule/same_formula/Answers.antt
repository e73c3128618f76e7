use Rattle.net_cells.specs.declared.cell.Kind.TheVariants.{QueueBacklog, DeconvOut}
use Rattle.cell_rules.proofs.SameMade.{at_kind, backlog_tells, deconv_tells}
use Rattle.cell_rules.proofs.rule.same_formula.Goals as goal

pub returns-in-QueueBacklog : goal.returns-in-QueueBacklog
returns-in-QueueBacklog c =
    at_kind c.args.old.now c.args.new.now c.args.cell QueueBacklog c.same_longest.result c.in-QueueBacklog.is
    (backlog_tells c.args.old.now c.args.new.now c.args.cell.a c.args.cell.b c.same_longest.result c.same_longest.ensures)

pub returns-in-DeconvOut : goal.returns-in-DeconvOut
returns-in-DeconvOut c =
    at_kind c.args.old.now c.args.new.now c.args.cell DeconvOut c.same_packet.result c.in-DeconvOut.is
    (deconv_tells c.args.old.now c.args.new.now c.args.cell.a c.args.cell.b c.same_packet.result c.same_packet.ensures)
