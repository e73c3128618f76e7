use Rattle.std.proofs.Common.{◌≡◌, ◌<◌, ℕ, sym, ap, ◌∙◌, subst}
use Rattle.std.specs.Prelude.{Option, Some, slice_get}
use Rattle.residuals.specs.left.Left.{IsFit}
use Rattle.run_laws.specs.Servers.{queue_count}
use Rattle.net_model.specs.declared.server.Server.{Server}
use Rattle.net_model.specs.Networks.{Net, NetServer}
use Rattle.net_model.specs.Views as views
use Rattle.net_cells.specs.declared.cell.Kind.TheVariants.{QueueService}
use Rattle.net_cells.specs.Numbered.{discipline_of, service_of}
use Rattle.net_cells.specs.Left.{left_of, left_by}
use Rattle.net_cells.specs.Formulas.{Formula}
use Rattle.net_cells.specs.CellFormulas.{formula_of, left_formula}
use Rattle.net_cells.proofs.LeftOf.{left_fits}
use Rattle.cell_rules.specs.Rules.{TellsSame}
use Rattle.cell_rules.proofs.SameLeft.{left_tells, curves_tell}
use Rattle.cell_rules.proofs.services.same_service.Goals as goal

-- the service of a queue of a server that a network has
of_server : (net : Net) (s q : ℕ) (x : Server) → slice_get net.servers s ≡ Some (views.server_of x)
    → left_formula x.service (left_of net s q (views.discipline_of x.discipline)) ≡ formula_of net QueueService s q
of_server net s q x is = sym (ap (λ (o : Option NetServer). left_formula (service_of o) (left_of net s q (discipline_of o))) is)

pub same_left-requires-clause-fit : goal.same_left-requires-clause-fit
same_left-requires-clause-fit c =
    let old = c.args.old.now in
    let s = c.args.place.0 in
    let q = c.args.place.1 in
    let here = subst (λ (o : Option NetServer). q < queue_count (discipline_of o)) c.requires.old c.requires.queue in
    subst IsFit (c.leaves.ensures old s q) (left_fits old s q (views.discipline_of c.args.f.now.discipline) c.requires.kept.queues here)

pub returns-then-same_curve : goal.returns-then-same_curve
returns-then-same_curve c =
    let old = c.args.old.now in
    let new = c.args.new.now in
    let s = c.args.place.0 in
    let q = c.args.place.1 in
    let f = c.args.f.now in
    let g = c.args.g.now in
    let r = c.same_left.result in
    let same = subst (TellsSame f.service g.service) c.if-same_curve.true c.same_curve.ensures in
    let tells = left_tells f.service g.service _ _ r same c.same_left.ensures in
    subst (λ (F : Formula). TellsSame F (formula_of new QueueService s q) r)
    (ap (left_formula f.service) (sym (c.leaves.ensures old s q)) ∙ of_server old s q f c.requires.old)
    (subst (λ (G : Formula). TellsSame (left_formula f.service (left_by old s q c.leaves.result)) G r)
    (ap (left_formula g.service) (sym (c.leaves-then-same_curve.ensures new s q)) ∙ of_server new s q g c.requires.new) tells)

pub returns-else-same_curve : goal.returns-else-same_curve
returns-else-same_curve c =
    let here = of_server c.args.old.now c.args.place.0 c.args.place.1 c.args.f.now c.requires.old in
    let there = of_server c.args.new.now c.args.place.0 c.args.place.1 c.args.g.now c.requires.new in
    let differ = subst (TellsSame c.args.f.now.service c.args.g.now.service) c.if-same_curve.false c.same_curve.ensures in
    subst (TellsSame (formula_of c.args.old.now QueueService c.args.place.0 c.args.place.1)
    (formula_of c.args.new.now QueueService c.args.place.0 c.args.place.1)) (sym c.if-same_curve.false) (λ e.
    curves_tell c.args.f.now.service c.args.g.now.service _ _ differ (here ∙ (e ∙ sym there)))
