use Rattle.worked_tables.proofs.WrittenTables.{the_fork_is_written}
use Rattle.worked_tables.proofs.forked.a_written_run_is_kept.Goals as goal

pub returns : goal.returns
returns c = the_fork_is_written
