use Rattle.std.specs.Prelude.{codes, ◌≢◌, All}
use Rattle.std.proofs.Common.{◌≡◌, ◌+◌, [], ◌∷◌, ◌++◌, length, map, Ok, rules, subst, sym, ap, ◌∙◌}
use Rattle.std.proofs.lemmas.Result.{err_from_is_err_and}
use Rattle.std.proofs.lemmas.List.{length_push, length-map, map_push}
use Rattle.std.proofs.lemmas.List.Elements.{All-push}
use Rattle.std.proofs.lemmas.List.Quantifiers.{all_pairs_push}
use Rattle.toml.specs.View.{view}
use Rattle.net_draft.specs.Faults.{Fails, nth}
use Rattle.net_draft.specs.Kept.{IsFlowDraft}
use Rattle.net_draft.specs.Tables.{each, flow_at, flow_with, flow_names}
use Rattle.net_draft.specs.ListViews.{list_texts}
use Rattle.net_draft.specs.Views.{flow_text}
use Rattle.net_draft.proofs.Each.{goes_on, stops, is_done}
use Rattle.net_draft.proofs.Named.{All-unmap}
use Rattle.net_draft.proofs.flows.flows_of.Goals as goal

pub returns-in_err-flow-clause-value : goal.returns-in_err-flow-clause-value
returns-in_err-flow-clause-value c =
    let p = err_from_is_err_and c.from_residual.result c.from_residual.ensures.1 in
    let S = list_texts c.args.servers.now in
    let xs = c.loop-entry.flows.items in
    let at_place : nth (codes "flow") c.len.result ≡ nth (codes "flow") (length xs) = search rules in
    let here : nth (codes "flow") c.len.result ≡ nth (codes "flow") (length (map flow_text xs)) = at_place ∙ ap (nth (codes "flow")) (sym (length-map xs flow_text)) in
    let e = c.in_err-flow.field-0.0 in
    let d = view c.entry-item.result in
    let told = subst (λ b. Fails e (flow_with S b (nth (codes "flow") c.len.result) d)) c.loop-entry.invariant.named c.in_err-flow.ensures.value in
    rw (p.1, p.2) (stops (flow_at S) (codes "flow") (map flow_text xs) c.args.entries.now c.loop-entry.entry-index c.entry-item.result e
    (each (flow_at S) (codes "flow") [] (map view c.args.entries.now)) c.loop-entry-test.true c.entry-item.is
    (subst (λ q. Fails e (flow_at S (map flow_text xs) q d)) here told) c.loop-entry.invariant.value)

pub loop-entry-preserved : goal.loop-entry-preserved
loop-entry-preserved c =
    let S = list_texts c.args.servers.now in
    let xs = c.loop-entry.flows.items in
    let s = c.in_ok-flow.flow in
    let at_place : nth (codes "flow") c.len.result ≡ nth (codes "flow") (length xs) = search rules in
    let here : nth (codes "flow") c.len.result ≡ nth (codes "flow") (length (map flow_text xs)) = at_place ∙ ap (nth (codes "flow")) (sym (length-map xs flow_text)) in
    let d = view c.entry-item.result in
    let named = c.loop-entry.invariant.named in
    let told = subst (λ b. flow_with S b (nth (codes "flow") c.len.result) d ≡ Ok (flow_text s)) named c.in_ok-flow.ensures.value in
    let fresh : All (λ t. t.name ≢ (flow_text s).name) (map flow_text xs) =
    All-unmap (λ t. t ≢ (flow_text s).name) (λ t. t.name) (map flow_text xs) (subst (All (λ t. t ≢ (flow_text s).name)) named c.in_ok-flow.ensures.fresh) in
    let grown : c.push.new.self.items ≡ xs ++ s ∷ [] = c.in_ok-push.ensures.items in
    let views : map flow_text c.push.new.self.items ≡ map flow_text xs ++ flow_text s ∷ [] = ap (map flow_text) grown ∙ map_push flow_text xs s in
    record {
      value = rw views (goes_on (flow_at S) (codes "flow") (map flow_text xs) c.args.entries.now c.loop-entry.entry-index c.entry-item.result (flow_text s)
          (each (flow_at S) (codes "flow") [] (map view c.args.entries.now)) c.loop-entry-test.true c.entry-item.is
          (subst (λ q. flow_at S (map flow_text xs) q d ≡ Ok (flow_text s)) here told) c.loop-entry.invariant.value);
      count = rw grown (length_push xs s ∙ ap (λ n. n + 1) c.loop-entry.invariant.count);
      kept = rw grown (All-push (IsFlowDraft S) xs s c.loop-entry.invariant.kept c.in_ok-flow.ensures.kept);
      named = c.in_ok-flow.ensures.grown ∙ ap (λ b. b ++ (flow_text s).name ∷ []) named ∙ sym (ap flow_names views ∙ map_push (λ t. t.name) (map flow_text xs) (flow_text s));
      names = rw views (all_pairs_push (λ a b. a.name ≢ b.name) (map flow_text xs) (flow_text s) c.loop-entry.invariant.names fresh);
    }

pub returns-clause-value : goal.returns-clause-value
returns-clause-value c =
    let S = list_texts c.args.servers.now in
    is_done (flow_at S) (codes "flow") (map flow_text c.loop-entry.flows.items) c.args.entries.now c.loop-entry.entry-index (each (flow_at S) (codes "flow") [] (map view c.args.entries.now))
    c.loop-entry-test.false c.loop-entry.invariant.value
