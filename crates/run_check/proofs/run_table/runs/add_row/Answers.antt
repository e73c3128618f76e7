use Rattle.std.proofs.Common.{subst}
use Rattle.csv.specs.Records.{fields_of}
use Rattle.run_check.specs.run_table.RunRows.{run_row, Gives}
use Rattle.run_check.proofs.run_table.runs.add_row.Goals as goal

pub returns-in_ok-push-in-Does-clause-adds : goal.returns-in_ok-push-in-Does-clause-adds
returns-in_ok-push-in-Does-clause-adds c = record {
  step = c.in-Does.step;
  gives = subst (λ e. Gives c.args.net.now c.args.packets.now (run_row (fields_of c.args.row.now)) e) c.in-Does.is c.in_ok-step.ensures.gives;
  room = c.if-before-ge-MOST_ROWS.false;
  packets_are = c.packets_after.ensures;
  steps_are = c.in_ok-push-in-Does.ensures.items;
}
