use Rattle.std.proofs.Common.{sym, subst}
use Rattle.net_cells.specs.Answers.{MakesCurve}
use Rattle.cell_eval.specs.Parts.{curve_of}
use Rattle.curve_call.specs.Again.{IsAgain}
use Rattle.net_cells.specs.cell_table.Values.{answer_of, meaning_of}
use Rattle.cell_eval.proofs.Handing.{again_out, shared_makes}
use Rattle.cell_eval.proofs.PartSums.{again_makes}
use Rattle.cell_eval.proofs.parts.only.Goals as goal

pub returns-in-One : goal.returns-in-One
returns-in-One g c =
    let at = g.T.Table.at c.args.table.now in
    let r = answer_of meaning_of c.again.result in
    subst (λ p. MakesCurve (IsAgain (curve_of at p)) r) (sym c.in-One.is) (again_makes at c.in-One.cell r c.again.ensures)

pub returns-in-Made : goal.returns-in-Made
returns-in-Made g c =
    let at = g.T.Table.at c.args.table.now in
    let r = answer_of meaning_of c.shared.result in
    subst (λ p. MakesCurve (IsAgain (curve_of at p)) r) (sym c.in-Made.is)
    (shared_makes (IsAgain c.in-Made.made) c.copied.result r (again_out c.in-Made.made) c.copied.ensures c.shared.ensures)
