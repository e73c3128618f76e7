use Rattle.std.proofs.Common.{◌≡◌, sym, ap, ◌∙◌, subst}
use Rattle.std.specs.Prelude.{Some}
use Rattle.upp_curve.specs.Curve.{value_at}
use Rattle.min_plus.specs.Functions.{IsFinite}
use Rattle.upp_limits.specs.declared.op_kind.OpKind.TheVariants.{PosMinus}
use Rattle.run_laws.specs.Cards.{whole}
use Rattle.curve_call.specs.Calls.{AppliesTo}
use Rattle.residuals.proofs.calls.Placed.{if_err}
use Rattle.net_cells.specs.Meanings.{curve}
use Rattle.net_cells.specs.Formulas.{value_of}
use Rattle.net_cells.specs.CellFormulas.{less}
use Rattle.net_cells.specs.Refusals.{RefusedAt}
use Rattle.cell_numbers.specs.Shapes.{Serving}
use Rattle.cell_numbers.proofs.OnCells.{curve_holds}
use Rattle.cell_eval.proofs.Handing.{packets_finite}
use Rattle.cell_eval.proofs.PathSteps.{less_answer}
use Rattle.cell_eval.proofs.OperatorStopping.{less_refused}
use Rattle.cell_eval.proofs.inputs.Inputs.in_packets.Given.{Over}
use Rattle.cell_eval.proofs.inputs.Inputs.in_packets.Goals.{After-deref, After-packetised}
use Rattle.cell_eval.proofs.inputs.Inputs.in_packets.Goals as goal

-- the service that the table has
has : (g : Over) (c : After-deref g) → g.T.Table.at c.args.self.now.table.now c.args.service ≡ Some (curve c.deref.result.now)
has g c = c.curve_at.ensures ∙ ap (λ f. Some (curve f)) (sym c.deref.ensures)

finite : (g : Over) (c : After-deref g) → IsFinite (value_at c.deref.result.now)
finite g c =
    (curve_holds (g.T.Table.at c.args.self.now.table.now) c.args.service Serving c.deref.result.now c.requires (has g c)).finite

less_packet : (g : Over) (c : After-packetised g) → AppliesTo (PosMinus (whole c.args.bits)) c.deref.result.now c.packetised.result
less_packet g c =
    subst (λ l. AppliesTo (PosMinus l) c.deref.result.now c.packetised.result) c.whole.ensures c.packetised.ensures.answer

pub packetised-requires : goal.packetised-requires
packetised-requires g c = finite g (goal.at.packetised-requires g c).After-deref

pub returns-clause-answer : goal.returns-clause-answer
returns-clause-answer g c =
    less_answer (g.T.Table.at c.args.self.now.table.now) c.args.service c.deref.result.now c.args.bits c.packetised.result
    (has g (goal.at.returns-clause-answer g c).After-deref) (less_packet g (goal.at.returns-clause-answer g c).After-packetised)

pub returns-clause-refused : goal.returns-clause-refused
returns-clause-refused g c =
    let at = g.T.Table.at c.args.self.now.table.now in
    if_err c.packetised.result (λ e. RefusedAt at (less (value_of c.args.service) c.args.bits) e 1)
    (λ e refused. less_refused at c.args.service c.deref.result.now c.args.bits (has g (goal.at.returns-clause-refused g c).After-deref) e
    (subst (AppliesTo (PosMinus (whole c.args.bits)) c.deref.result.now) refused
    (less_packet g (goal.at.returns-clause-refused g c).After-packetised)))

pub returns-clause-finite : goal.returns-clause-finite
returns-clause-finite g c =
    packets_finite c.deref.result.now c.whole.result c.packetised.result (finite g (goal.at.returns-clause-finite g c).After-deref)
    c.packetised.ensures.answer
