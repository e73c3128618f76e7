use Rattle.std.proofs.Common.{◌∙◌, arith}
use Rattle.std.specs.Prelude.{Some, None}
use Rattle.std.proofs.lemmas.List.{get_or-set_same, get_or-set_other}
use Rattle.net_cells.proofs.cell_table.analysis.put_in_row.Goals as goal

pub returns-clause-put : goal.returns-clause-put
returns-clause-put g c =
    get_or-set_same c.grow_row.new.row.items c.args.place (Some c.args.value) None (let room = c.in_ok-grow_row.ensures.room in omega (arith, room))

pub returns-clause-others : goal.returns-clause-others
returns-clause-others g c = λ k n.
    get_or-set_other c.grow_row.new.row.items c.args.place k (Some c.args.value) None n ∙ c.grow_row.ensures.same k
