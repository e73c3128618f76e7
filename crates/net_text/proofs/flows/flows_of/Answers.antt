use Rattle.std.specs.Option.{option_map}
use Rattle.std.proofs.Common.{◌≡◌, ◌+◌, ◌-◌, ◌≤◌, [], ◌∷◌, ◌++◌, map, take, drop, Some, Err, refl, sym, ap, ◌∙◌, subst, arith}
use Rattle.std.proofs.lemmas.List.{map_push, take_all}
use Rattle.outcomes.proofs.Spending.{spends_stopped, spends_given, spends_told}
use Rattle.std.proofs.lemmas.Result.{err_from_is_err_and}
use Rattle.net_model.specs.Views.{flow_of}
use Rattle.net_draft.specs.declared.flow_draft.FlowDraft.{FlowDraft}
use Rattle.net_draft.specs.Kept.{IsArrivalDraft}
use Rattle.net_draft.specs.Views.{flow_text}
use Rattle.net_text.specs.Built.{IsLiveFlowOf}
use Rattle.net_text.specs.Firsts.{arrivals_from}
use Rattle.net_text.specs.Folds.{FoldsOf}
use Rattle.net_text.proofs.Firsts.{goes_on, stops, arrival_entry, arrivals_more, texts_more}
use Rattle.net_text.proofs.FoldSteps.{taken_more, folds_taken, one_folds, leaves_more, at_most_all}
use Rattle.net_text.proofs.Wanting.{between_flows, in_flow}
use Rattle.net_text.proofs.Zips.{zip_more, zip_whole}
use Rattle.net_text.proofs.flows.flows_of.Goals as goal

pub flow_of-requires : goal.flow_of-requires
flow_of-requires g c =
    subst (λ (f : FlowDraft). IsArrivalDraft f.packet f.arrival) (sym c.index-drafts-number.is) (c.requires c.loop-number.number c.index-drafts-number.result c.loop-number-test.true)

pub returns-in_err-flow-clause-over : goal.returns-in_err-flow-clause-over
returns-in_err-flow-clause-over g c =
    let p = err_from_is_err_and c.from_residual-in_err-flow.result c.from_residual-in_err-flow.ensures.1 in
    let ds = c.args.drafts.now in
    let i = c.loop-number.number in
    let d = c.index-drafts-number.result in
    rw (p.1, p.2) (stops (arrivals_from i (map flow_text (drop i ds))) (arrivals_from 0 (map flow_text ds)) (arrival_entry i d) (arrivals_from (i + 1) (map flow_text (drop (i + 1) ds)))
    c.in_err-flow.field-0.0 (arrivals_more ds i d c.loop-number-test.true c.index-drafts-number.is) c.in_err-flow.ensures.over c.loop-number.invariant.leads)

pub loop-number-preserved : goal.loop-number-preserved
loop-number-preserved g c =
    let ds = c.args.drafts.now in
    let i = c.loop-number.number in
    let d = c.index-drafts-number.result in
    let xs = c.loop-number.flows.items in
    let f = c.in_ok-flow.flow in
    let grown : c.push.new.self.items ≡ xs ++ Some f ∷ [] = c.in_ok-push.ensures.items in
    let views : map (option_map flow_of) c.push.new.self.items ≡ map (option_map flow_of) xs ++ Some (flow_of f) ∷ [] = ap (map (option_map flow_of)) grown ∙ map_push (option_map flow_of) xs (Some f) in
    let live : IsLiveFlowOf (flow_text d) (Some (flow_of f)) = record { flow = flow_of f; live = refl; is = c.in_ok-flow.ensures.built } in
    record {
      built = rw views (zip_more IsLiveFlowOf flow_text ds i d (map (option_map flow_of) xs) (Some (flow_of f)) c.loop-number-test.true c.index-drafts-number.is c.loop-number.invariant.built live);
      leads = goes_on (arrivals_from i (map flow_text (drop i ds))) (arrivals_from 0 (map flow_text ds)) (arrival_entry i d) (arrivals_from (i + 1) (map flow_text (drop (i + 1) ds)))
          (arrivals_more ds i d c.loop-number-test.true c.index-drafts-number.is) (record { curve = (flow_of f).arrival; is = c.in_ok-flow.ensures.built.arrival }) c.loop-number.invariant.leads;
      rises = let more : c.loop-number.steps ≤ c.flow_of.new.steps = c.in_ok-flow.ensures.spends.rises in
          omega (arith, c.loop-number.invariant.rises, more);
      taken = taken_more ds i d (flow_of f).arrival c.args.steps.now c.loop-number.steps c.flow_of.new.steps c.loop-number-test.true c.index-drafts-number.is c.loop-number.invariant.taken
          c.in_ok-flow.ensures.built.arrival (λ n work. (c.in_ok-flow.ensures.spends.counts n work).exact);
      left = leaves_more (map flow_text ds) (map flow_text (drop i ds)) (flow_text d) (map flow_text (drop (i + 1) ds)) c.args.steps.now c.loop-number.steps c.flow_of.new.steps
          (texts_more ds i d c.loop-number-test.true c.index-drafts-number.is) (λ n work. (c.in_ok-flow.ensures.spends.counts n work).most) c.loop-number.invariant.left;
    }

pub returns-clause-built : goal.returns-clause-built
returns-clause-built g c =
    zip_whole IsLiveFlowOf flow_text c.args.drafts.now c.loop-number.number (map (option_map flow_of) c.loop-number.flows.items) c.loop-number-test.false c.loop-number.invariant.built

-- ---- what is counted, and want of memory
pub returns-in_err-flows-clause-spends : goal.returns-in_err-flows-clause-spends
returns-in_err-flows-clause-spends g c =
    let p = err_from_is_err_and c.from_residual.result c.from_residual.ensures.1 in
    spends_stopped c.from_residual.result p.0 p.1 (λ lack n none. between_flows c.args.drafts.now 0 [] n tt none)

pub returns-in_err-flow-clause-spends : goal.returns-in_err-flow-clause-spends
returns-in_err-flow-clause-spends g c =
    let r = c.from_residual-in_err-flow in
    let p = err_from_is_err_and r.result r.ensures.1 in
    let ds = c.args.drafts.now in
    let i = c.loop-number.number in
    let d = c.index-drafts-number.result in
    let old = c.args.steps.now in
    let mid = c.loop-number.steps in
    let new = c.flow_of.new.steps in
    let spends = c.in_err-flow.ensures.spends in
    let before : old ≤ mid = c.loop-number.invariant.rises in
    let rises : mid ≤ new = spends.rises in
    let left = leaves_more (map flow_text ds) (map flow_text (drop i ds)) (flow_text d) (map flow_text (drop (i + 1) ds)) old mid new
    (texts_more ds i d c.loop-number-test.true c.index-drafts-number.is) (λ n work. (spends.counts n work).most) c.loop-number.invariant.left in
    spends_told old new r.result p.0 p.1 (omega (arith, before, rises)) (at_most_all (map flow_text ds) (map flow_text (drop (i + 1) ds)) old new left)
    (λ lack. in_flow ds i d (map (option_map flow_of) c.loop-number.flows.items) (mid - old) (new - mid) (new - old) c.loop-number-test.true c.index-drafts-number.is
    c.loop-number.invariant.built (folds_taken (map flow_text (take i ds)) old mid c.loop-number.invariant.taken) (omega (arith, before, rises))
    (spends.memory (ap Err (sym p.2 ∙ lack))))

pub returns-in_err-push-clause-spends : goal.returns-in_err-push-clause-spends
returns-in_err-push-clause-spends g c =
    let r = c.from_residual-in_err-push in
    let p = err_from_is_err_and r.result r.ensures.1 in
    let ds = c.args.drafts.now in
    let i = c.loop-number.number in
    let d = c.index-drafts-number.result in
    let xs = c.loop-number.flows.items in
    let f = c.in_ok-flow.flow in
    let old = c.args.steps.now in
    let mid = c.loop-number.steps in
    let new = c.flow_of.new.steps in
    let spends = c.in_ok-flow.ensures.spends in
    let before : old ≤ mid = c.loop-number.invariant.rises in
    let rises : mid ≤ new = spends.rises in
    let live : IsLiveFlowOf (flow_text d) (Some (flow_of f)) = record { flow = flow_of f; live = refl; is = c.in_ok-flow.ensures.built } in
    let left = leaves_more (map flow_text ds) (map flow_text (drop i ds)) (flow_text d) (map flow_text (drop (i + 1) ds)) old mid new
    (texts_more ds i d c.loop-number-test.true c.index-drafts-number.is) (λ n work. (spends.counts n work).most) c.loop-number.invariant.left in
    let taken = taken_more ds i d (flow_of f).arrival old mid new c.loop-number-test.true c.index-drafts-number.is c.loop-number.invariant.taken
    c.in_ok-flow.ensures.built.arrival (λ n work. (spends.counts n work).exact) in
    spends_told old new r.result p.0 p.1 (omega (arith, before, rises)) (at_most_all (map flow_text ds) (map flow_text (drop (i + 1) ds)) old new left)
    (λ lack. between_flows ds (i + 1) (map (option_map flow_of) xs ++ Some (flow_of f) ∷ []) (new - old)
    (zip_more IsLiveFlowOf flow_text ds i d (map (option_map flow_of) xs) (Some (flow_of f)) c.loop-number-test.true c.index-drafts-number.is c.loop-number.invariant.built live)
    (folds_taken (map flow_text (take (i + 1) ds)) old new taken))

pub returns-clause-spends : goal.returns-clause-spends
returns-clause-spends g c =
    let ds = c.args.drafts.now in
    let taken = c.loop-number.invariant.taken in
    let whole = ap (map flow_text) (take_all c.loop-number.number ds (omega arith)) in
    spends_given
    (λ n work. let same = one_folds (map flow_text ds) n taken.count work (subst (λ fs. FoldsOf fs taken.count) whole taken.folds) in
    omega (arith, same, taken.sum))
    c.loop-number.invariant.rises
