use Rattle.std.specs.Prelude.{codes, ◌≢◌, All}
use Rattle.std.proofs.Common.{◌≡◌, ◌+◌, ◌≤◌, arith, [], ◌∷◌, ◌++◌, length, map, Ok, rules, subst, sym, ap, ◌∙◌}
use Rattle.std.proofs.lemmas.Result.{err_from_is_err_and}
use Rattle.std.proofs.lemmas.List.{length_push, length-map, map_push}
use Rattle.std.proofs.lemmas.List.Elements.{All-push}
use Rattle.std.proofs.lemmas.List.Quantifiers.{all_pairs_push}
use Rattle.toml.specs.View.{view}
use Rattle.net_draft.specs.Faults.{Fails, nth}
use Rattle.net_draft.specs.Kept.{IsServerDraft}
use Rattle.net_draft.specs.Tables.{each, server_text_at, server_with, server_names}
use Rattle.net_draft.specs.Views.{server_text}
use Rattle.net_draft.proofs.Each.{goes_on, stops, is_done}
use Rattle.net_draft.proofs.Named.{All-unmap}
use Rattle.net_draft.proofs.servers.servers_of.Goals as goal

pub returns-in_err-server-clause-value : goal.returns-in_err-server-clause-value
returns-in_err-server-clause-value c =
    let p = err_from_is_err_and c.from_residual.result c.from_residual.ensures.1 in
    let xs = c.loop-entry.servers.items in
    let at_place : nth (codes "server") c.len.result ≡ nth (codes "server") (length xs) = search rules in
    let here : nth (codes "server") c.len.result ≡ nth (codes "server") (length (map server_text xs)) = at_place ∙ ap (nth (codes "server")) (sym (length-map xs server_text)) in
    let e = c.in_err-server.field-0.0 in
    let d = view c.entry-item.result in
    let told = subst (λ b. Fails e (server_with b (nth (codes "server") c.len.result) d)) c.loop-entry.invariant.named c.in_err-server.ensures.value in
    rw (p.1, p.2) (stops server_text_at (codes "server") (map server_text xs) c.args.entries.now c.loop-entry.entry-index c.entry-item.result e
    (each server_text_at (codes "server") [] (map view c.args.entries.now)) c.loop-entry-test.true c.entry-item.is
    (subst (λ q. Fails e (server_text_at (map server_text xs) q d)) here told) c.loop-entry.invariant.value)

pub loop-entry-preserved : goal.loop-entry-preserved
loop-entry-preserved c =
    let xs = c.loop-entry.servers.items in
    let s = c.in_ok-server.server in
    let at_place : nth (codes "server") c.len.result ≡ nth (codes "server") (length xs) = search rules in
    let here : nth (codes "server") c.len.result ≡ nth (codes "server") (length (map server_text xs)) = at_place ∙ ap (nth (codes "server")) (sym (length-map xs server_text)) in
    let d = view c.entry-item.result in
    let named = c.loop-entry.invariant.named in
    let told = subst (λ b. server_with b (nth (codes "server") c.len.result) d ≡ Ok (server_text s)) named c.in_ok-server.ensures.value in
    let fresh : All (λ t. t.name ≢ (server_text s).name) (map server_text xs) =
    All-unmap (λ t. t ≢ (server_text s).name) (λ t. t.name) (map server_text xs) (subst (All (λ t. t ≢ (server_text s).name)) named c.in_ok-server.ensures.fresh) in
    let grown : c.push.new.self.items ≡ xs ++ s ∷ [] = c.in_ok-push.ensures.items in
    let views : map server_text c.push.new.self.items ≡ map server_text xs ++ server_text s ∷ [] = ap (map server_text) grown ∙ map_push server_text xs s in
    record {
      value = rw views (goes_on server_text_at (codes "server") (map server_text xs) c.args.entries.now c.loop-entry.entry-index c.entry-item.result (server_text s)
          (each server_text_at (codes "server") [] (map view c.args.entries.now)) c.loop-entry-test.true c.entry-item.is
          (subst (λ q. server_text_at (map server_text xs) q d ≡ Ok (server_text s)) here told) c.loop-entry.invariant.value);
      count = rw grown (length_push xs s ∙ ap (λ n. n + 1) c.loop-entry.invariant.count);
      kept = rw grown (All-push IsServerDraft xs s c.loop-entry.invariant.kept c.in_ok-server.ensures.kept);
      named = c.in_ok-server.ensures.grown ∙ ap (λ b. b ++ (server_text s).name ∷ []) named ∙ sym (ap server_names views ∙ map_push (λ t. t.name) (map server_text xs) (server_text s));
      names = rw views (all_pairs_push (λ a b. a.name ≢ b.name) (map server_text xs) (server_text s) c.loop-entry.invariant.names fresh);
    }

pub returns-clause-value : goal.returns-clause-value
returns-clause-value c =
    is_done server_text_at (codes "server") (map server_text c.loop-entry.servers.items) c.args.entries.now c.loop-entry.entry-index (each server_text_at (codes "server") [] (map view c.args.entries.now))
    c.loop-entry-test.false c.loop-entry.invariant.value

pub invariant_of-result-clause-few : goal.invariant_of-result-clause-few
invariant_of-result-clause-few c =
    let few : length c.loop-entry.servers.items ≤ 64 = omega (arith, c.loop-entry.invariant.count) in few

pub invariant_of-result-clause-named : goal.invariant_of-result-clause-named
invariant_of-result-clause-named c = c.loop-entry.invariant.named
