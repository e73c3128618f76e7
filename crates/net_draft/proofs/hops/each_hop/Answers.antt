use Rattle.std.specs.Prelude.{◌≢◌, All}
use Rattle.std.proofs.Common.{◌≡◌, ◌+◌, [], ◌∷◌, ◌++◌, length, map, Ok, subst, ap, ◌∙◌}
use Rattle.std.proofs.lemmas.Result.{err_from_is_err_and}
use Rattle.std.proofs.lemmas.List.{length_push}
use Rattle.std.proofs.lemmas.List.Elements.{All-push}
use Rattle.std.proofs.lemmas.List.Quantifiers.{all_pairs_push}
use Rattle.toml.specs.View.{view}
use Rattle.net_draft.specs.Faults.{Fails, nth}
use Rattle.net_draft.specs.Tables.{each, hop_at}
use Rattle.net_draft.specs.Texts.{IsHopOf}
use Rattle.net_draft.specs.ListViews.{list_texts}
use Rattle.net_draft.proofs.Each.{goes_on, stops, is_done}
use Rattle.net_draft.proofs.hops.each_hop.Goals as goal

pub returns-in_err-hop-clause-value : goal.returns-in_err-hop-clause-value
returns-in_err-hop-clause-value c =
    let p = err_from_is_err_and c.from_residual.result c.from_residual.ensures.1 in
    let S = list_texts c.args.servers.now in
    let xs = c.loop-entry.hops.items in
    let e = c.in_err-hop.field-0.0 in
    let d = view c.entry-item.result in
    let told = subst (λ b. Fails e (hop_at S b (nth c.args.place.now (length b)) d)) c.deref.ensures.value c.in_err-hop.ensures.value in
    rw (p.1, p.2) (stops (hop_at S) c.args.place.now xs c.args.entries.now c.loop-entry.entry-index c.entry-item.result e
    (each (hop_at S) c.args.place.now [] (map view c.args.entries.now)) c.loop-entry-test.true c.entry-item.is
    told c.loop-entry.invariant.value)

pub loop-entry-preserved : goal.loop-entry-preserved
loop-entry-preserved c =
    let S = list_texts c.args.servers.now in
    let xs = c.loop-entry.hops.items in
    let x = c.in_ok-hop.hop in
    let d = view c.entry-item.result in
    let told = subst (λ b. hop_at S b (nth c.args.place.now (length b)) d ≡ Ok x) c.deref.ensures.value c.in_ok-hop.ensures.value in
    let fresh = subst (λ b. All (λ h. h.server ≢ x.server) b) c.deref.ensures.value c.in_ok-hop.ensures.fresh in
    let grown : c.push.new.self.items ≡ xs ++ x ∷ [] = c.in_ok-push.ensures.items in
    record {
      value = rw grown (goes_on (hop_at S) c.args.place.now xs c.args.entries.now c.loop-entry.entry-index c.entry-item.result x
          (each (hop_at S) c.args.place.now [] (map view c.args.entries.now)) c.loop-entry-test.true c.entry-item.is
          told c.loop-entry.invariant.value);
      count = rw grown (length_push xs x ∙ ap (λ n. n + 1) c.loop-entry.invariant.count);
      range = rw grown (All-push (IsHopOf S) xs x c.loop-entry.invariant.range c.in_ok-hop.ensures.range);
      once = rw grown (all_pairs_push (λ a b. a.server ≢ b.server) xs x c.loop-entry.invariant.once fresh);
    }

pub returns-clause-value : goal.returns-clause-value
returns-clause-value c =
    let S = list_texts c.args.servers.now in
    is_done (hop_at S) c.args.place.now c.loop-entry.hops.items c.args.entries.now c.loop-entry.entry-index (each (hop_at S) c.args.place.now [] (map view c.args.entries.now))
    c.loop-entry-test.false c.loop-entry.invariant.value
