use Rattle.bounds_command.proofs.Short.{ends_there}
use Rattle.bounds_command.proofs.rows.branch_row.Goals as goal

pub bound_at-requires-clause-small : goal.bound_at-requires-clause-small
bound_at-requires-clause-small c =
    (ends_there c.args.document.now.network c.args.table.now c.args.end.now c.requires.network c.requires.table
    c.requires.end).short
