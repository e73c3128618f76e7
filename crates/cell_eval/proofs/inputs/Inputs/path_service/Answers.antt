use Rattle.std.proofs.Common.{◌≡◌, ◌+◌, ◌-◌, sym, ◌∙◌, subst, arith, inl, inr}
use Rattle.net_cells.specs.declared.cell.Kind.TheVariants.{Residual}
use Rattle.net_cells.specs.Numbered.{hops}
use Rattle.net_cells.specs.Cells.{cell_of}
use Rattle.net_cells.specs.cell_table.Values.{answer_of, meaning_of}
use Rattle.cell_numbers.specs.Shapes.{Serving}
use Rattle.cell_eval.proofs.Meeting.{curve_map}
use Rattle.cell_eval.proofs.PathSteps.{last_served, only_served}
use Rattle.std.specs.Prelude.{IfErr}
use Rattle.net_cells.specs.CellFormulas.{packets_to, served_to}
use Rattle.net_cells.specs.Refusals.{RefusedAt, Stops}
use Rattle.residuals.proofs.calls.Placed.{if_err}
use Rattle.cell_eval.proofs.PathSteps.{last_formula}
use Rattle.net_cells.specs.Formulas.{value_of, made}
use Rattle.upp_limits.specs.declared.op_kind.OpKind.TheVariants.{Convolve}
use Rattle.net_cells.specs.cell_table.Gives.{Gives}
use Rattle.cell_eval.proofs.OperatorStopping.{err_map, again_memory}
use Rattle.cell_eval.proofs.inputs.Inputs.path_service.Goals as goal

pub again-requires : goal.again-requires
again-requires g c =
    curve_map (g.T.Table.at c.args.self.now.table.now) (cell_of Residual c.args.flow 0) Serving (λ f. Unit {0})
    (c.requires.serves 0 c.requires.some) (λ f q. tt)

pub returns-then-count-eq1-clause-answer : goal.returns-then-count-eq1-clause-answer
returns-then-count-eq1-clause-answer g c =
    only_served (g.T.Table.at c.args.self.now.table.now) c.args.self.now.net.now c.args.flow (hops c.args.self.now.net.now c.args.flow) (answer_of meaning_of c.again.result)
    (sym c.hops-count.ensures.hops ∙ c.if-count-eq1.true) c.again.ensures

pub returns-else-count-eq1-clause-answer : goal.returns-else-count-eq1-clause-answer
returns-else-count-eq1-clause-answer g c =
    let n = c.hops-count.ensures.hops in
    let some = c.requires.some in
    let other = c.if-count-eq1.false in
    last_served (g.T.Table.at c.args.self.now.table.now) c.args.self.now.net.now c.args.flow (c.hops-count.result - 2) (hops c.args.self.now.net.now c.args.flow)
    (answer_of meaning_of c.past_hop.result) (omega (arith, n, some, other)) c.past_hop.ensures.answer

pub returns-then-count-eq1-clause-refused : goal.returns-then-count-eq1-clause-refused
returns-then-count-eq1-clause-refused g c =
    let at = g.T.Table.at c.args.self.now.table.now in
    let only = cell_of Residual c.args.flow 0 in
    let none : c.args.steps.now - c.args.steps.now ≡ 0 = omega arith in
    if_err c.again.result
    (λ e. Stops at (served_to c.args.self.now.net.now c.args.flow (hops c.args.self.now.net.now c.args.flow - 1)) e (c.args.steps.now - c.args.steps.now))
    (λ e refused. inl (none, again_memory at only e (subst (λ r. Gives at (value_of only) (answer_of meaning_of r)) refused c.again.ensures)))

pub returns-else-count-eq1-clause-refused : goal.returns-else-count-eq1-clause-refused
returns-else-count-eq1-clause-refused g c =
    let at = g.T.Table.at c.args.self.now.table.now in
    let net = c.args.self.now.net.now in
    let i = c.args.flow in
    let n = c.hops-count.ensures.hops in
    let some = c.requires.some in
    let other = c.if-count-eq1.false in
    let counted = c.past_hop.new.steps - c.args.steps.now in
    let joined = made Convolve (packets_to net i (c.hops-count.result - 2)) (value_of (cell_of Residual i (c.hops-count.result - 2 + 1))) in
    let same : hops net i - 1 ≡ c.hops-count.result - 2 + 1 = omega (arith, n, some, other) in
    last_formula (λ F. IfErr c.past_hop.result (λ e. Stops at F e counted)) net i (c.hops-count.result - 2) (hops net i) same
    (err_map c.past_hop.result (λ e. RefusedAt at joined e counted) (λ e. Stops at joined e counted) (λ e r. inr r) c.past_hop.ensures.refused)
