use Rattle.std.proofs.Common.{subst}
use Rattle.residuals.specs.calls.PriorityCalls.{MakesPriority}
use Rattle.net_cells.specs.Answers.{MakesCurve}
use Rattle.net_cells.specs.cell_table.Values.{answer_of, meaning_of}
use Rattle.cell_eval.specs.Recent.{ServesAbove}
use Rattle.cell_eval.proofs.Handing.{priority_out, shared_makes}
use Rattle.cell_eval.proofs.LastServices.{serves_above}
use Rattle.cell_eval.proofs.recent.Recent.service_above.Goals as goal

pub kept-requires : goal.kept-requires
kept-requires g c =
    let β = c.args.service.now in
    let f = c.deref-in-None.result.now in
    let l = c.args.lower in
    let r = answer_of meaning_of c.shared-made.result in
    subst (λ h. MakesCurve (MakesPriority β h l) r) c.deref-in-None.ensures
    (shared_makes (MakesPriority β f l) c.priority_service.result r (priority_out β f l) c.priority_service.ensures.answer c.shared-made.ensures)

pub returns-in-None : goal.returns-in-None
returns-in-None g c =
    let β = c.args.service.now in
    let f = c.deref-in-None.result.now in
    let l = c.args.lower in
    let old = c.found.new.steps in
    let new = c.priority_service.new.steps in
    let r = c.shared-made.result in
    subst (λ n. ServesAbove β c.args.higher.now.value l n new r) c.in-None.ensures.none
    (subst (λ h. ServesAbove β h l old new r) c.deref-in-None.ensures
    (serves_above β f l r old new c.priority_service.result c.priority_service.ensures.answer c.priority_service.ensures.refused
    c.priority_service.ensures.counts c.shared-made.ensures))
