use Rattle.std.proofs.Common.{◌≡◌, suc, ◌-◌, subst, arith}
use Rattle.net_cells.specs.declared.cell.Kind.TheVariants.{In}
use Rattle.net_cells.specs.Cells.{cell_of}
use Rattle.net_cells.specs.cell_table.Values.{answer_of, meaning_of}
use Rattle.cell_eval.specs.Evaluates.{MayBeMade, Evaluates}
use Rattle.outcomes.proofs.Spending.{counts_none}
use Rattle.cell_eval.proofs.Arms.{in_before}
use Rattle.net_cells.specs.CellFormulas.{formula}
use Rattle.cell_eval.proofs.Stopping.{none_stops}
use Rattle.cell_eval.proofs.inputs.Inputs.arriving.Goals as goal

pub again-requires : goal.again-requires
again-requires g c =
    let at = g.T.Table.at c.args.self.now.table.now in
    let net = c.args.self.now.net.now in
    let i = c.args.flow in
    let past = c.if-hop-eq0.false in
    let next : c.args.hop ≡ suc (c.args.hop - 1) = omega (arith, past) in
    in_before net at i (c.args.hop - 1) (subst (λ k. MayBeMade net at (cell_of In i k)) next c.requires)

pub returns-else-hop-eq0 : goal.returns-else-hop-eq0
returns-else-hop-eq0 g c = λ n.
    let at = g.T.Table.at c.args.self.now.table.now in
    let net = c.args.self.now.net.now in
    let i = c.args.flow in
    let r = answer_of meaning_of c.again.result in
    let past = c.if-hop-eq0.false in
    let next : suc (c.args.hop - 1) ≡ c.args.hop = omega (arith, past) in
    subst (λ k. Evaluates net at (cell_of In i k) n n r) next (record {
      answer = c.again.ensures;
      counts = counts_none n r;
      memory = λ is. none_stops at (formula net (cell_of In i (suc (c.args.hop - 1)))) n;
    })
