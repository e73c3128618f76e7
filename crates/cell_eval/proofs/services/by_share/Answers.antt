use Rattle.std.proofs.Common.{◌≡◌, ◌+◌, ◌-◌, sym, ◌∙◌, subst, arith, length}
use Rattle.residuals.specs.calls.DrrCalls.{AreQueues, MakesDrr}
use Rattle.net_cells.specs.Left.{longest_each}
use Rattle.net_cells.specs.Answers.{MakesCurve}
use Rattle.net_cells.specs.cell_table.Values.{answer_of, meaning_of}
use Rattle.cell_eval.proofs.Handing.{drr_out, shared_makes}
use Rattle.cell_eval.proofs.SharedCounts.{shared_counts}
use Rattle.std.specs.Prelude.{IfErr}
use Rattle.residuals.specs.calls.InTurn.{DrrRefused}
use Rattle.cell_eval.proofs.OperatorStopping.{drr_full, shared_refused, ok_map}
use Rattle.cell_eval.proofs.services.by_share.Goals as goal

pub drr_service-made-requires-clause-queues : goal.drr_service-made-requires-clause-queues
drr_service-made-requires-clause-queues g c =
    let sizes : c.deref.result.now ≡ longest_each c.args.net.now c.args.place.0 (length c.args.quanta.now) = c.deref.ensures.0 ∙ c.longest_each-sizes.ensures in
    subst (AreQueues c.args.quanta.now) (sym sizes) c.requires.queues

pub returns-clause-answer : goal.returns-clause-answer
returns-clause-answer g c = λ at.
    let net = c.args.net.now in
    let n = length c.args.quanta.now in
    let sizes : c.deref.result.now ≡ longest_each net c.args.place.0 n = c.deref.ensures.0 ∙ c.longest_each-sizes.ensures in
    let β = c.args.service.now in
    let r = answer_of meaning_of c.shared.result in
    subst (λ zs. MakesCurve (MakesDrr β c.args.quanta.now zs c.args.place.1) r) sizes
    (shared_makes (MakesDrr β c.args.quanta.now c.deref.result.now c.args.place.1) c.drr_service-made.result r
    (drr_out β c.args.quanta.now c.deref.result.now c.args.place.1) c.drr_service-made.ensures.answer c.shared.ensures)

pub returns-clause-counts : goal.returns-clause-counts
returns-clause-counts g c =
    shared_counts 2 c.args.steps.now c.drr_service-made.new.steps c.drr_service-made.result (answer_of meaning_of c.shared.result)
    c.drr_service-made.ensures.counts c.shared.ensures

pub returns-clause-refused : goal.returns-clause-refused
returns-clause-refused g c =
    let net = c.args.net.now in
    let n = length c.args.quanta.now in
    let sizes : c.deref.result.now ≡ longest_each net c.args.place.0 n = c.deref.ensures.0 ∙ c.longest_each-sizes.ensures in
    let β = c.args.service.now in
    let made = c.drr_service-made.result in
    let counted = c.drr_service-made.new.steps - c.args.steps.now in
    let all = ok_map made (c.drr_service-made.new.steps ≡ c.args.steps.now + 2) (counted ≡ 2) (λ e. omega (arith, e))
    c.drr_service-made.ensures.counts.exact in
    subst (λ zs. IfErr c.shared.result (λ e. DrrRefused β c.args.quanta.now zs c.args.place.1 e counted)) sizes
    (shared_refused meaning_of (MakesDrr β c.args.quanta.now c.deref.result.now c.args.place.1)
    (DrrRefused β c.args.quanta.now c.deref.result.now c.args.place.1) made c.shared.result counted 2
    (drr_full β c.args.quanta.now c.deref.result.now c.args.place.1)
    c.drr_service-made.ensures.answer c.drr_service-made.ensures.refused all c.shared.ensures)
