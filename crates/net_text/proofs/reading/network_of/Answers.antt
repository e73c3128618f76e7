use Rattle.std.specs.List.{AllZip}
use Rattle.std.proofs.Common.{◌∙◌, map, refl, sym, subst, arith}
use Rattle.std.proofs.lemmas.Result.{err_from_is_err_and}
use Rattle.outcomes.proofs.Spending.{spends_answer, spends_refusal, spends_stopped}
use Rattle.net_model.specs.Views.{servers_of, flows_of, net_of}
use Rattle.net_draft.specs.DraftViews.{draft_text}
use Rattle.net_draft.specs.Views.{server_text, flow_text}
use Rattle.net_text.specs.Built.{IsServerOf, IsLiveFlowOf, IsBuilt}
use Rattle.net_text.specs.Firsts.{services_from, arrivals_from, FailsFirst}
use Rattle.net_text.proofs.Accepted.{accepted}
use Rattle.net_text.specs.Folds.{FoldsOf}
use Rattle.net_text.proofs.FoldSteps.{folds_of_draft}
use Rattle.net_text.proofs.Files.{servers_fail, flows_fail}
use Rattle.net_text.specs.Wants.{FlowsWant}
use Rattle.net_text.proofs.reading.network_of.Goals as goal

pub of_version-requires : goal.of_version-requires
of_version-requires g c =
    let draft = c.in_ok-draft.draft in
    let net = net_of draft.version c.in_ok-servers.servers.items c.in_ok-flows.flows.items in
    let built : IsBuilt (draft_text draft) net = record {
      version = refl;
      servers = subst (λ ds. AllZip IsServerOf (map server_text ds) (servers_of c.in_ok-servers.servers.items)) c.deref.ensures.value c.in_ok-servers.ensures.built;
      flows = subst (λ ds. AllZip IsLiveFlowOf (map flow_text ds) (flows_of c.in_ok-flows.flows.items)) c.deref-2.ensures.value c.in_ok-flows.ensures.built;
    } in
    accepted draft net c.in_ok-draft.ensures.kept built

pub returns-in_err-servers-clause-fault : goal.returns-in_err-servers-clause-fault
returns-in_err-servers-clause-fault g c =
    let p = err_from_is_err_and c.from_residual-in_err-servers.result c.from_residual-in_err-servers.ensures.1 in
    let e = c.in_err-servers.field-0.0 in
    let over = subst (λ ds. FailsFirst (services_from 0 (map server_text ds)) e) c.deref.ensures.value c.in_err-servers.ensures.over in
    rw (p.1, p.2) (servers_fail c.args.text.now (draft_text c.in_ok-draft.draft) e c.in_ok-draft.ensures.value over)

pub returns-in_err-flows-clause-fault : goal.returns-in_err-flows-clause-fault
returns-in_err-flows-clause-fault g c =
    let p = err_from_is_err_and c.from_residual-in_err-flows.result c.from_residual-in_err-flows.ensures.1 in
    let e = c.in_err-flows.field-0.0 in
    let over = subst (λ ds. FailsFirst (arrivals_from 0 (map flow_text ds)) e) c.deref-2.ensures.value c.in_err-flows.ensures.over in
    let built = subst (λ ds. AllZip IsServerOf (map server_text ds) (servers_of c.in_ok-servers.servers.items)) c.deref.ensures.value c.in_ok-servers.ensures.built in
    rw (p.1, p.2) (flows_fail c.args.text.now (draft_text c.in_ok-draft.draft) e (servers_of c.in_ok-servers.servers.items) c.in_ok-draft.ensures.value built over)

-- ---- what is counted, and want of memory
pub returns-in_err-draft-clause-spends : goal.returns-in_err-draft-clause-spends
returns-in_err-draft-clause-spends g c =
    let p = err_from_is_err_and c.from_residual.result c.from_residual.ensures.1 in
    spends_stopped c.from_residual.result p.0 p.1 (λ lack n none some. absurd (omega (arith, none, some)))

pub returns-in_err-servers-clause-spends : goal.returns-in_err-servers-clause-spends
returns-in_err-servers-clause-spends g c =
    let r = c.from_residual-in_err-servers in
    let p = err_from_is_err_and r.result r.ensures.1 in
    spends_stopped r.result p.0 p.1 (λ lack n none some. absurd (omega (arith, none, some)))

pub returns-in_err-flows-clause-spends : goal.returns-in_err-flows-clause-spends
returns-in_err-flows-clause-spends g c =
    let r = c.from_residual-in_err-flows in
    let p = err_from_is_err_and r.result r.ensures.1 in
    let draft = draft_text c.in_ok-draft.draft in
    let is_draft = c.in_ok-draft.ensures.value in
    let same = c.deref-2.ensures.value in
    spends_refusal c.in_err-flows.ensures.spends r.result p.0 p.1
    (λ n is. subst (λ ds. FoldsOf (map flow_text ds) n) (sym same) (folds_of_draft c.args.text.now draft n is_draft is))
    (λ told. sym p.2 ∙ told)
    (λ n wants counted. record {
      draft = draft;
      is_draft = is_draft;
      servers = servers_of c.in_ok-servers.servers.items;
      built = subst (λ ds. AllZip IsServerOf (map server_text ds) (servers_of c.in_ok-servers.servers.items)) c.deref.ensures.value c.in_ok-servers.ensures.built;
      flows = subst (λ ds. FlowsWant (map flow_text ds) n) same wants;
    })

pub returns-clause-spends : goal.returns-clause-spends
returns-clause-spends g c =
    spends_answer c.in_ok-flows.ensures.spends
    (λ n is. subst (λ ds. FoldsOf (map flow_text ds) n) (sym c.deref-2.ensures.value)
    (folds_of_draft c.args.text.now (draft_text c.in_ok-draft.draft) n c.in_ok-draft.ensures.value is))
