use Rattle.std.proofs.Common.{refl}
use Rattle.std.specs.Prelude.{Ok}
use Rattle.curve_call.specs.Again.{IsAgain}
use Rattle.net_cells.specs.cell_table.Values.{answer_of, meaning_of}
use Rattle.cell_eval.proofs.Handing.{again_given, again_out, shared_makes}
use Rattle.cell_eval.proofs.sharing.again.Goals as goal

pub returns : goal.returns
returns g c =
    let f = c.curve_at.result.now.value in
    let r = answer_of meaning_of c.once_more.result in
    again_given (g.T.Table.at c.args.table.now) c.args.cell f r c.curve_at.ensures
    (shared_makes (IsAgain f) (Ok f) r (again_out f) refl c.once_more.ensures)
