use Rattle.std.proofs.Common.{sym, arith}
use Rattle.cell_rules.proofs.SameMade.{path_tells}
use Rattle.cell_rules.proofs.rule.same_path.Goals as goal

pub returns : goal.returns
returns c =
    path_tells c.args.old.now c.args.new.now c.args.flow c.last_hop-last.result c.same_packet.result
    (sym c.last_hop-last.ensures) (omega (arith, c.last_hop-new_last.ensures, c.if-last-new_last.false))
    (λ e. omega (arith, e, c.if-last-eq0.false)) c.same_packet.ensures
