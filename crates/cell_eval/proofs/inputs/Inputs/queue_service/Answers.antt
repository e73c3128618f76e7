use Rattle.std.proofs.Common.{◌≡◌, ◌<◌, ◌-◌, arith, sym, ap, ◌∙◌, subst}
use Rattle.std.specs.Prelude.{IfErr, Option}
use Rattle.curve_call.specs.Again.{IsAgain}
use Rattle.residuals.specs.left.Left.{EachBefore, IsFit, left_work}
use Rattle.residuals.proofs.calls.Placed.{if_err}
use Rattle.net_model.specs.Accepted.{HasFewQueues}
use Rattle.net_model.specs.Networks.{NetServer}
use Rattle.net_model.specs.Views as views
use Rattle.net_cells.specs.declared.left.Leaving.{Leaving}
use Rattle.net_cells.specs.declared.left.Leaving.TheVariants.{All, Above, Share}
use Rattle.net_cells.specs.Numbered.{discipline, service, queues, discipline_of, service_of}
use Rattle.net_cells.specs.Left.{left_of, left_by}
use Rattle.net_cells.specs.Formulas.{Formula}
use Rattle.net_cells.specs.CellFormulas.{left_formula, queue_service}
use Rattle.net_cells.specs.Answers.{Answers, MakesCurve}
use Rattle.net_cells.specs.Refusals.{AtNone, RefusedAt}
use Rattle.net_cells.specs.cell_table.Values.{answer_of, meaning_of}
use Rattle.net_cells.proofs.LeftOf.{left_fits}
use Rattle.outcomes.specs.Spending.{Counts}
use Rattle.outcomes.proofs.Spending.{counts_none}
use Rattle.cell_numbers.specs.TableValues.{IsCurveAt}
use Rattle.cell_eval.proofs.Handing.{again_out, shared_makes}
use Rattle.cell_eval.proofs.inputs.Inputs.queue_service.Given.{Over}
use Rattle.cell_eval.proofs.inputs.Inputs.queue_service.Goals.{In-Some, After-shared}
use Rattle.cell_eval.proofs.inputs.Inputs.queue_service.Goals as goal

-- ---- the server that is found
-- what it leaves the queue, as the code tells
abbrev IsLeaving : (g : Over) (c : In-Some g) → Leaving → Type 0
IsLeaving g c way =
    left_of c.args.self.now.net.now c.args.place.0 c.args.place.1 (views.discipline_of c.in-Some.found.now.discipline)
    ≡ left_by c.args.self.now.net.now c.args.place.0 c.args.place.1 way

by_server : (g : Over) (c : In-Some g) (way : Leaving) → IsLeaving g c way
    → left_by c.args.self.now.net.now c.args.place.0 c.args.place.1 way
    ≡ left_of c.args.self.now.net.now c.args.place.0 c.args.place.1 (discipline c.args.self.now.net.now c.args.place.0)
by_server g c way is =
    sym is ∙ ap (left_of c.args.self.now.net.now c.args.place.0 c.args.place.1) (ap discipline_of c.in-Some.ensures.server)

own : (g : Over) (c : In-Some g) → c.in-Some.found.now.service ≡ service c.args.self.now.net.now c.args.place.0
own g c = ap service_of c.in-Some.ensures.server

of_formula : (g : Over) (c : In-Some g) (way : Leaving) (P : Formula → Type 0) → IsLeaving g c way
    → P (left_formula c.in-Some.found.now.service (left_by c.args.self.now.net.now c.args.place.0 c.args.place.1 way))
    → P (queue_service c.args.self.now.net.now c.args.place.0 c.args.place.1 (discipline c.args.self.now.net.now c.args.place.0))
of_formula g c way P is h =
    subst (λ l. P (left_formula (service c.args.self.now.net.now c.args.place.0) l)) (by_server g c way is)
    (subst (λ f. P (left_formula f (left_by c.args.self.now.net.now c.args.place.0 c.args.place.1 way))) (own g c) h)

pub above_others-requires-clause-above : goal.above_others-requires-clause-above
above_others-requires-clause-above g c =
    let here = (goal.at.above_others-requires-clause-above g c).In-Some in
    subst (EachBefore (IsCurveAt (g.T.Table.at c.args.self.now.table.now)))
    (sym (by_server g here Above (c.in-Above.ensures c.args.self.now.net.now c.args.place.0 c.args.place.1))) c.requires.above

-- ---- all of the service
whole : (g : Over) (c : After-shared g) → MakesCurve (IsAgain c.in-Some.found.now.service) (answer_of meaning_of c.shared.result)
whole g c =
    shared_makes (IsAgain c.in-Some.found.now.service) c.copied.result (answer_of meaning_of c.shared.result)
    (again_out c.in-Some.found.now.service) c.copied.ensures c.shared.ensures

pub returns-in-All-clause-answer : goal.returns-in-All-clause-answer
returns-in-All-clause-answer g c =
    let here = (goal.at.returns-in-All-clause-answer g c).In-Some in
    let r = answer_of meaning_of c.shared.result in
    of_formula g here All (λ F. Answers (g.T.Table.at c.args.self.now.table.now) F r) (c.in-All.ensures c.args.self.now.net.now c.args.place.0 c.args.place.1)
    (whole g (goal.at.returns-in-All-clause-answer g c).After-shared)

pub returns-in-All-clause-refused : goal.returns-in-All-clause-refused
returns-in-All-clause-refused g c =
    let here = (goal.at.returns-in-All-clause-refused g c).In-Some in
    let made = whole g (goal.at.returns-in-All-clause-refused g c).After-shared in
    let counted = c.args.steps.now - c.args.steps.now in
    let none : counted ≡ 0 = omega arith in
    of_formula g here All (λ F. IfErr c.shared.result (λ fault. RefusedAt (g.T.Table.at c.args.self.now.table.now) F fault counted))
    (c.in-All.ensures c.args.self.now.net.now c.args.place.0 c.args.place.1)
    (if_err c.shared.result (λ fault. AtNone fault counted) (λ fault refused. (
      none,
      subst (λ r. MakesCurve (IsAgain c.in-Some.found.now.service) (answer_of meaning_of r)) refused made,
    )))

pub returns-in-All-clause-counts : goal.returns-in-All-clause-counts
returns-in-All-clause-counts g c =
    let here = (goal.at.returns-in-All-clause-counts g c).In-Some in
    let old = c.args.steps.now in
    let r = answer_of meaning_of c.shared.result in
    subst (λ l. Counts (left_work l) old old r) (by_server g here All (c.in-All.ensures c.args.self.now.net.now c.args.place.0 c.args.place.1))
    (counts_none old r)

-- ---- what is above the queues before
pub returns-in-Above-clause-answer : goal.returns-in-Above-clause-answer
returns-in-Above-clause-answer g c =
    let here = (goal.at.returns-in-Above-clause-answer g c).In-Some in
    let r = answer_of meaning_of c.above_others.result in
    of_formula g here Above (λ F. Answers (g.T.Table.at c.args.self.now.table.now) F r)
    (c.in-Above.ensures c.args.self.now.net.now c.args.place.0 c.args.place.1) c.above_others.ensures.answer

pub returns-in-Above-clause-refused : goal.returns-in-Above-clause-refused
returns-in-Above-clause-refused g c =
    let here = (goal.at.returns-in-Above-clause-refused g c).In-Some in
    let counted = c.above_others.new.steps - c.args.steps.now in
    of_formula g here Above (λ F. IfErr c.above_others.result (λ fault. RefusedAt (g.T.Table.at c.args.self.now.table.now) F fault counted))
    (c.in-Above.ensures c.args.self.now.net.now c.args.place.0 c.args.place.1) c.above_others.ensures.refused

pub returns-in-Above-clause-counts : goal.returns-in-Above-clause-counts
returns-in-Above-clause-counts g c =
    let here = (goal.at.returns-in-Above-clause-counts g c).In-Some in
    subst (λ l. Counts (left_work l) c.args.steps.now c.above_others.new.steps (answer_of meaning_of c.above_others.result))
    (by_server g here Above (c.in-Above.ensures c.args.self.now.net.now c.args.place.0 c.args.place.1)) c.above_others.ensures.counts

-- ---- a share
-- it is fit
fit : (g : Over) (c : In-Some g) (quanta : Leaving) → IsLeaving g c quanta → c.args.place.1 < queues c.args.self.now.net.now c.args.place.0
    → IsFit (left_by c.args.self.now.net.now c.args.place.0 c.args.place.1 quanta)
fit g c way is h =
    let net = c.args.self.now.net.now in
    let s = c.args.place.0 in
    let q = c.args.place.1 in
    let few = subst (λ (o : Option NetServer). HasFewQueues (discipline_of o)) c.in-Some.ensures.server c.in-Some.ensures.kept.queues in
    subst IsFit (sym (by_server g c way is)) (left_fits net s q (discipline net s) few h)

pub by_share-requires-clause-queues : goal.by_share-requires-clause-queues
by_share-requires-clause-queues g c =
    let here = (goal.at.by_share-requires-clause-queues g c).In-Some in
    (fit g here (Share c.in-Share.quanta) (c.in-Share.ensures c.args.self.now.net.now c.args.place.0 c.args.place.1) c.requires.queue).0

pub by_share-requires-clause-queue : goal.by_share-requires-clause-queue
by_share-requires-clause-queue g c =
    let here = (goal.at.by_share-requires-clause-queue g c).In-Some in
    (fit g here (Share c.in-Share.quanta) (c.in-Share.ensures c.args.self.now.net.now c.args.place.0 c.args.place.1) c.requires.queue).1

pub returns-in-Share-clause-answer : goal.returns-in-Share-clause-answer
returns-in-Share-clause-answer g c =
    let here = (goal.at.returns-in-Share-clause-answer g c).In-Some in
    let at = g.T.Table.at c.args.self.now.table.now in
    let r = answer_of meaning_of c.by_share.result in
    of_formula g here (Share c.in-Share.quanta) (λ F. Answers at F r) (c.in-Share.ensures c.args.self.now.net.now c.args.place.0 c.args.place.1)
    (c.by_share.ensures.answer at)

pub returns-in-Share-clause-refused : goal.returns-in-Share-clause-refused
returns-in-Share-clause-refused g c =
    let here = (goal.at.returns-in-Share-clause-refused g c).In-Some in
    let counted = c.by_share.new.steps - c.args.steps.now in
    of_formula g here (Share c.in-Share.quanta) (λ F. IfErr c.by_share.result (λ fault. RefusedAt (g.T.Table.at c.args.self.now.table.now) F fault counted))
    (c.in-Share.ensures c.args.self.now.net.now c.args.place.0 c.args.place.1) c.by_share.ensures.refused

pub returns-in-Share-clause-counts : goal.returns-in-Share-clause-counts
returns-in-Share-clause-counts g c =
    let here = (goal.at.returns-in-Share-clause-counts g c).In-Some in
    subst (λ l. Counts (left_work l) c.args.steps.now c.by_share.new.steps (answer_of meaning_of c.by_share.result))
    (by_server g here (Share c.in-Share.quanta) (c.in-Share.ensures c.args.self.now.net.now c.args.place.0 c.args.place.1)) c.by_share.ensures.counts
