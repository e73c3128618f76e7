use Rattle.std.proofs.Common.{◌∙◌}
use Rattle.command_replies.proofs.simulated_findings.Lawful.{lawful, sizes}
use Rattle.command_replies.proofs.simulated_findings.OpenServers.{open_are_kept}
use Rattle.command_replies.proofs.simulated_findings.finding.found_in.Goals as goal

pub first_breach-requires-clause-lawful : goal.first_breach-requires-clause-lawful
first_breach-requires-clause-lawful c =
    lawful c.args.net.now c.args.trace.now c.args.sim.run c.keeps.ensures c.packets.ensures.kept c.requires.named
    c.requires.measured.stated

pub first_breach-requires-clause-sizes : goal.first_breach-requires-clause-sizes
first_breach-requires-clause-sizes c =
    sizes c.args.net.now c.args.trace.now c.args.sim.run c.keeps.ensures c.requires.curves c.packets.ensures.kept
    c.requires.named c.requires.free c.requires.narrow c.requires.measured.stated

pub first_breach-requires-clause-kept : goal.first_breach-requires-clause-kept
first_breach-requires-clause-kept c =
    open_are_kept c.args.net.now c.args.trace.now c.args.sim.run c.deref.result.now c.keeps.ensures
    c.packets.ensures.kept c.requires.named c.requires.measured.stated (c.deref.ensures.value ∙ c.in_ok-kept.ensures)
