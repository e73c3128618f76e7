use Rattle.std.proofs.Common.{sym, ap}
use Rattle.net_cells.specs.Meanings.{number}
use Rattle.net_cells.specs.cell_table.Values.{answer_of}
use Rattle.cell_numbers.proofs.numbers.numbered.Goals as goal

pub returns-in-Ok : goal.returns-in-Ok
returns-in-Ok c = sym (ap (answer_of number) c.in-Ok.is)

pub returns-in-Err : goal.returns-in-Err
returns-in-Err c = sym (ap (answer_of number) c.in-Err.is)
