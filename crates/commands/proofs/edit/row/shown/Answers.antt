use Rattle.commands.proofs.edit.Naming.{never_hidden}
use Rattle.commands.proofs.edit.row.shown.Goals as goal

pub unreachable-requires : goal.unreachable-requires
unreachable-requires c =
    never_hidden c.args.store.now c.args.edit.now c.in-Err.fault c.requires c.in_default.not-NoMemory c.in-Err.ensures.hidden
